-- The frame of a record of each link layer, and the first rule of its layer that doesn't hold.
use Rattle.std.specs.Prelude.{◌≡◌, ℕ, ◌+◌, ◌-◌, ◌<◌, ◌≤◌, ◌⊎◌, Bool, true, false}
use Rattle.std.specs.Prelude.{List, [], ◌∷◌, ◌++◌, length, take, drop}
use Rattle.std.specs.Prelude.{Option, None, Some, Ok, Err, ◌==◌, if◌then◌else◌}
use Rattle.its_linkframe.specs.Frames.{IsFrame}
use Rattle.cap_linklayers.specs.Cooked.{IsCooked, IsCookedFault, sll_format, sll2_format}
use Rattle.cap_linklayers.specs.Ethernet.{type_in}
use Rattle.cap_linklayers.specs.Ieee80211.{IsHeaderFault, data_at, has_bit}
use Rattle.cap_linklayers.specs.Radiotap.{IsRadiotap, IsRadiotapFault}
use Rattle.cap_linklayers.specs.declared.link.LinkFault.{LinkFault}
use Rattle.cap_linklayers.specs.declared.link.LinkFault.TheVariants as faults
use Rattle.cap_linklayers.specs.declared.link.LinkLayer.{LinkLayer}
use Rattle.cap_linklayers.specs.declared.link.LinkLayer.TheVariants as layers
use Rattle.cap_linklayers.specs.declared.radiotap.RadiotapHeader.{RadiotapHeader}

-- the number of a link layer in pcap and pcapng; a bare frame is one of Ethernet there
abbrev pub layer_number : LinkLayer → ℕ
layer_number layers.Bare = 1
layer_number layers.Ethernet = 1
layer_number layers.Ieee80211 = 105
layer_number layers.Radiotap = 127
layer_number layers.Sll = 113
layer_number layers.Sll2 = 276

-- the link layer of a number, of those that are read
abbrev pub layer_of : ℕ → Option LinkLayer
layer_of number =
    if number == 1 then Some layers.Ethernet
    else if number == 105 then Some layers.Ieee80211
    else if number == 113 then Some layers.Sll
    else if number == 127 then Some layers.Radiotap
    else if number == 276 then Some layers.Sll2
    else None

-- L1 and L2, as ASCII text
abbrev pub link_code_of : LinkFault → List ℕ
link_code_of faults.Short = 76 ∷ 49 ∷ []
link_code_of faults.Kind = 76 ∷ 50 ∷ []

-- Octets, which are a frame and four octets behind it, are read without these: a check sequence,
-- whatever its value. Others stay.
abbrev pub IsUnchecked : List ℕ → List ℕ → Type 0
IsUnchecked w r =
    ((4 ≤ length w) × IsFrame (take (length w - 4) w) × (r ≡ take (length w - 4) w))
    ⊎ ((¬ ((4 ≤ length w) × IsFrame (take (length w - 4) w))) × (r ≡ w))

-- a radiotap header's flags: the record ends with a check sequence; the header of IEEE 802.11 is
-- filled up
abbrev pub is_checked : RadiotapHeader → Bool
is_checked h = has_bit 16 h.flags

abbrev pub is_filled : RadiotapHeader → Bool
is_filled h = has_bit 32 h.flags

-- the frame of IEEE 802.11 from an octet on: what the format says, and what follows it
pub record IsData (filled : Bool) (at : ℕ) (w f : List ℕ) : Type 0 where
  pub front : List ℕ
  pub end : ℕ
  pub reading : data_at filled w at ≡ Ok (front, end)
  pub frame : f ≡ front ++ drop end w

-- the same without a check sequence behind it
abbrev pub IsUncheckedData : Bool → ℕ → List ℕ → List ℕ → Type 0
IsUncheckedData filled at w f = (r : List ℕ) × IsData filled at w r × IsUnchecked r f

-- A record's octets behind a radiotap header: where they end with a check sequence, its four octets
-- go first; else one may still stand behind the frame.
abbrev pub IsFrameBehind : RadiotapHeader → List ℕ → List ℕ → Type 0
IsFrameBehind r w f =
    ((is_checked r ≡ true) × (r.length + 4 ≤ length w)
    × IsData (is_filled r) r.length (take (length w - 4) w) f)
    ⊎ ((is_checked r ≡ false) × IsUncheckedData (is_filled r) r.length w f)

-- the frame of a record
abbrev pub IsFrameIn : LinkLayer → List ℕ → List ℕ → Type 0
IsFrameIn layers.Bare w f = f ≡ w
IsFrameIn layers.Ethernet w f = (at : ℕ) × (type_in w ≡ Ok at) × (f ≡ take 12 w ++ drop at w)
IsFrameIn layers.Ieee80211 w f = IsUncheckedData false 0 w f
IsFrameIn layers.Radiotap w f = (r : RadiotapHeader) × IsRadiotap w r × IsFrameBehind r w f
IsFrameIn layers.Sll w f = IsCooked sll_format w f
IsFrameIn layers.Sll2 w f = IsCooked sll2_format w f

abbrev pub IsFaultBehind : RadiotapHeader → List ℕ → LinkFault → Type 0
IsFaultBehind r w f =
    ((is_checked r ≡ true) × (length w < r.length + 4) × (f ≡ faults.Short))
    ⊎ ((is_checked r ≡ true) × (r.length + 4 ≤ length w)
    × IsHeaderFault (is_filled r) (take (length w - 4) w) r.length f)
    ⊎ ((is_checked r ≡ false) × IsHeaderFault (is_filled r) w r.length f)

-- The first rule that doesn't hold.
abbrev pub IsLinkFault : LinkLayer → List ℕ → LinkFault → Type 0
IsLinkFault layers.Bare w f = ⊥
IsLinkFault layers.Ethernet w f = type_in w ≡ Err f
IsLinkFault layers.Ieee80211 w f = IsHeaderFault false w 0 f
IsLinkFault layers.Radiotap w f =
    IsRadiotapFault w f ⊎ ((r : RadiotapHeader) × IsRadiotap w r × IsFaultBehind r w f)
IsLinkFault layers.Sll w f = IsCookedFault sll_format w f
IsLinkFault layers.Sll2 w f = IsCookedFault sll2_format w f

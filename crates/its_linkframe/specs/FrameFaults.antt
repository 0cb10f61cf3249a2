-- The first fault of octets that are no frame.
use Rattle.std.specs.Prelude.{◌≡◌, ◌≢◌, ◌≤◌, ◌<◌, ℕ, List, [], ◌∷◌, ◌++◌, length, take, drop}
use Rattle.its_model.specs.Packet.{Pdu}
use Rattle.its_faults.specs.declared.frame.FrameFault.{FrameFault}
use Rattle.its_faults.specs.declared.frame.FrameFault.TheVariants as faults
use Rattle.its_headers.specs.Encoding.{Encodes}
use Rattle.its_headers.specs.FirstFault.{FirstFault}
use Rattle.its_linkframe.specs.declared.record.TheConstants.{LONGEST_FRAME}

-- the two octets after the addresses
abbrev pub ether_type : List ℕ → List ℕ
ether_type w = take 2 (drop 12 w)

-- the encoding of a packet with something after it
pub record Trails (w : List ℕ) : Type 0 where
  pub pdu : Pdu
  pub left : ℕ
  pub text : List ℕ
  pub rest : List ℕ
  pub encodes : Encodes pdu left text
  pub is : w ≡ text ++ rest
  pub more : 0 < length rest

-- Octets that are long enough for addresses and type, that have the type of GeoNetworking, and that
-- are not too long: what each fault says of those above it.
abbrev pub IsLong : List ℕ → Type 0
IsLong w = 14 ≤ length w

abbrev pub IsGeoNetworking : List ℕ → Type 0
IsGeoNetworking w = IsLong w × (ether_type w ≡ 137 ∷ 71 ∷ [])

abbrev pub IsCheckedOn : List ℕ → Type 0
IsCheckedOn w = IsGeoNetworking w × (length w ≤ LONGEST_FRAME)

-- Checked in this order: under 14 octets; another type; over 1468 octets; no packet after the type,
-- whose first fault is that of the packet; a packet with octets after it.
abbrev pub IsFrameFault : List ℕ → FrameFault → Type 0
IsFrameFault w faults.Short = length w < 14
IsFrameFault w faults.EtherType = IsLong w × (ether_type w ≢ 137 ∷ 71 ∷ [])
IsFrameFault w faults.TooLong = IsGeoNetworking w × (LONGEST_FRAME < length w)
IsFrameFault w (faults.Packet f) = IsCheckedOn w × FirstFault (drop 14 w) f
IsFrameFault w faults.Trailing = IsCheckedOn w × Trails (drop 14 w)

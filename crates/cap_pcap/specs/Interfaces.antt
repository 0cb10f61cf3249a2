-- Interface blocks of pcapng: link type, snap length, and the options that tell the moments.
use Rattle.std.specs.Prelude.{◌≡◌, ℕ, ◌+◌, ◌-◌, ◌%◌, ◌<◌, ◌≤◌, ◌⊎◌, ◌==◌, ◌&&◌, zero, suc}
use Rattle.std.specs.Prelude.{Bool, true, false, List, [], drop, if◌then◌else◌, nat_lt, None}
use Rattle.cap_pcap.specs.declared.interface.Interface.{Interface}
use Rattle.cap_pcap.specs.declared.octets.Endianness.{Endianness}
use Rattle.cap_pcap.specs.declared.octets.Endianness.TheVariants as orders
use Rattle.cap_pcap.specs.declared.options.OptionKind.{OptionKind}
use Rattle.cap_pcap.specs.declared.options.OptionKind.TheVariants as kinds
use Rattle.cap_pcap.specs.declared.options.OptionStep.{OptionStep}
use Rattle.cap_pcap.specs.Layouts.{Layout, Joined, behind, field, gives, gives_that, number}
use Rattle.cap_pcap.specs.Layouts.{number_that, octets}
use Rattle.cap_linklayers.specs.LinkLayers.{layer_of}
use Rattle.cap_pcap.specs.Moments.{IsTooFine, ticks_of}
use Rattle.cap_pcap.specs.InterfaceHeads.{name_in}
use Rattle.cap_pcap.specs.declared.info.InterfaceInfo.{InterfaceInfo}
use Rattle.cap_pcap.specs.Octets.{number_in}

-- what the 8 octets before the options say: link type, two octets that are not read, snap length;
-- without options a tick is a millionth of a second, and nothing is added to a moment
pub record IsPlain (o : Endianness) (next : ℕ) (i : Interface) (w : List ℕ) : Type 0 where
  pub number : i.number ≡ next
  pub link : i.info.head.link ≡ number_in o 2 w
  pub resolution : i.info.head.resolution ≡ 6
  pub offset : i.info.head.offset ≡ 0
  pub layer : i.info.layer ≡ layer_of (number_in o 2 w)
  pub name : i.info.name ≡ None
  pub snap : i.snap ≡ number_in o 4 (drop 4 w)
  pub ticks : i.ticks ≡ 1000000

abbrev pub plain : Endianness → ℕ → Layout Interface
plain o next = field 8 (IsPlain o next) (λ _. ⊥)

-- the same interface, with this octet of `if_tsresol`
abbrev pub resolved : InterfaceInfo → ℕ → InterfaceInfo
resolved info r = record {
  head = record { link = info.head.link; resolution = r; offset = info.head.offset };
  layer = info.layer;
  name = info.name;
}

pub record HasResolution (i : Interface) (r : ℕ) (j : Interface) : Type 0 where
  pub ticks : j.ticks ≡ ticks_of r
  pub info : j.info ≡ resolved i.info r
  pub snap : j.snap ≡ i.snap
  pub number : j.number ≡ i.number

-- the same interface, with these seconds, signed, added to each moment
abbrev pub offset_by : InterfaceInfo → ℕ → InterfaceInfo
offset_by info offset = record {
  head = record { link = info.head.link; resolution = info.head.resolution; offset = offset };
  layer = info.layer;
  name = info.name;
}

pub record HasOffset (i : Interface) (offset : ℕ) (j : Interface) : Type 0 where
  pub info : j.info ≡ offset_by i.info offset
  pub snap : j.snap ≡ i.snap
  pub ticks : j.ticks ≡ i.ticks
  pub number : j.number ≡ i.number

-- the same interface, with this name
pub record IsNamed (was : InterfaceInfo) (w : List ℕ) (now : InterfaceInfo) : Type 0 where
  pub name : name_in now.name ≡ w
  pub head : now.head ≡ was.head
  pub layer : now.layer ≡ was.layer

pub record HasName (i : Interface) (w : List ℕ) (j : Interface) : Type 0 where
  pub info : IsNamed i.info w j.info
  pub snap : j.snap ≡ i.snap
  pub ticks : j.ticks ≡ i.ticks
  pub number : j.number ≡ i.number

-- ---- one option: a code, the size of its value, the value, and padding to a multiple of 4

-- `if_name` is 2, of 1 to 128 octets, `if_tsresol` 9, of one octet, `if_tsoffset` 14, of 8; 0 ends
-- the options, whatever its size
abbrev pub is_name_size : ℕ → Bool
is_name_size size = nat_lt 0 size && nat_lt size 129

abbrev pub kind_of_option : ℕ → ℕ → OptionKind
kind_of_option code size =
    if code == 0 then kinds.End
    else if code == 2 && is_name_size size then kinds.Name size
    else if code == 9 && size == 1 then kinds.Resolution
    else if code == 14 && size == 8 then kinds.Offset
    else kinds.Other

-- how many octets the value takes
abbrev pub option_room : ℕ → ℕ → ℕ
option_room code size = if code == 0 then 0 else size + (4 - size % 4) % 4

abbrev pub code_in : Endianness → List ℕ → ℕ
code_in o w = number_in o 2 w

abbrev pub size_in : Endianness → List ℕ → ℕ
size_in o w = number_in o 2 (drop 2 w)

-- What the head of an option says: what it is, and the room of its value, where so many octets are
-- left.
pub record IsOptionHead (o : Endianness) (left : ℕ) (head : OptionKind × ℕ) (w : List ℕ) : Type 0 where
  pub kind : head.0 ≡ kind_of_option (code_in o w) (size_in o w)
  pub room : head.1 ≡ option_room (code_in o w) (size_in o w)
  pub fits : head.1 ≤ left

abbrev pub option_head : Endianness → ℕ → Layout (OptionKind × ℕ)
option_head o left =
    field 4 (IsOptionHead o left) (λ w. left < option_room (code_in o w) (size_in o w))

-- a name that is kept is short enough
abbrev pub FitsName : OptionKind → Type 0
FitsName kinds.End = Unit {0}
FitsName (kinds.Name size) = size ≤ 128
FitsName kinds.Resolution = Unit {0}
FitsName kinds.Offset = Unit {0}
FitsName kinds.Other = Unit {0}

-- any octets, so many of them
abbrev pub text : ℕ → Layout (List ℕ)
text size = field size (λ x w. x ≡ w) (λ _. ⊥)

-- a name, and padding
unfoldable pub name : ℕ → Interface → Layout Interface
name size i =
    behind (text size)
    (λ w. behind (octets ((4 - size % 4) % 4)) (λ _. gives_that (HasName i w)))

-- ticks that are not too fine, and padding
unfoldable pub resolution : Interface → Layout Interface
resolution i =
    behind (number_that orders.Big 1 (λ r. ¬ IsTooFine r))
    (λ r. behind (octets 3) (λ _. gives_that (HasResolution i r)))

unfoldable pub offset : Endianness → Interface → Layout Interface
offset o i = behind (number o 8) (λ s. gives_that (HasOffset i s))

-- a value that is passed over
unfoldable pub passed : ℕ → Interface → Layout Interface
passed room i = behind (octets room) (λ _. gives i)

-- the value of an option
abbrev pub option_value : Endianness → Interface → OptionKind → ℕ → Layout Interface
option_value o i kinds.End room = gives i
option_value o i (kinds.Name size) room = name size i
option_value o i kinds.Resolution room = resolution i
option_value o i kinds.Offset room = offset o i
option_value o i kinds.Other room = passed room i

abbrev pub is_end : OptionKind → Bool
is_end kinds.End = true
is_end (kinds.Name size) = false
is_end kinds.Resolution = false
is_end kinds.Offset = false
is_end kinds.Other = false

-- what is known behind an option
pub record IsTurn (room : ℕ) (head : OptionKind × ℕ) (i : Interface) (t : OptionStep) : Type 0 where
  pub left : t.left ≡ room - 4 - head.1
  pub interface : t.interface ≡ i
  pub end : t.is_end ≡ is_end head.0

unfoldable pub one_option : Endianness → ℕ → Interface → Layout OptionStep
one_option o left i =
    behind (option_head o (left - 4))
    (λ head. behind (option_value o i head.0 head.1) (λ j. gives_that (IsTurn left head j)))

-- ---- all of them

-- So many options, none of them the end, in so many octets: how many are left then, and what the
-- options say. Of one given twice the last counts.
abbrev pub AreOptions : Endianness → ℕ → Interface → ℕ → ℕ → Interface → List ℕ → Type 0
AreOptions o room i zero left j w = (w ≡ []) × (left ≡ room) × (j ≡ i)
AreOptions o room i (suc count) left j w =
    (l : ℕ) × (k : Interface) × (t : OptionStep) × (4 ≤ l)
    × Joined (AreOptions o room i count l k) ((one_option o l k).Is t) w
    × (t.is_end ≡ false) × (left ≡ t.left) × (j ≡ t.interface)

-- behind the last option: no room for a further one, or the end of options
abbrev pub IsLast : Endianness → ℕ → Interface → ℕ → Interface → List ℕ → Type 0
IsLast o l k left j w =
    ((w ≡ []) × (l < 4) × (left ≡ l) × (j ≡ k))
    ⊎ ((4 ≤ l) × (t : OptionStep) × (one_option o l k).Is t w × (t.is_end ≡ true) × (left ≡ t.left)
    × (j ≡ t.interface))

-- some options, and behind them an option of which this holds
abbrev pub BehindOptions : Endianness → ℕ → Interface → (Layout OptionStep → List ℕ → Type 0) → List ℕ
    → Type 0
BehindOptions o room i P w =
    (count l : ℕ) × (k : Interface) × (4 ≤ l)
    × Joined (AreOptions o room i count l k) (P (one_option o l k)) w

unfoldable pub options : Endianness → ℕ → Interface → Layout (ℕ × Interface)
options o room i = record {
  Is = λ x w. (count l : ℕ) × (k : Interface)
      × Joined (AreOptions o room i count l k) (IsLast o l k x.0 x.1) w;
  Ends = BehindOptions o room i (λ option. option.Ends);
  Wrong = BehindOptions o room i (λ option. option.Wrong);
  Takes = BehindOptions o room i (λ option. option.Takes);
}

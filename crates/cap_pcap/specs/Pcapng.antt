-- A reader of a pcapng file: how far it is, which block it reads next, and what becomes of it.
use Rattle.std.specs.Prelude.{◌≡◌, ◌⊎◌, ℕ, Bool, true, false, List, [], ◌∷◌, ◌++◌}
use Rattle.std.specs.Prelude.{Option, Some, None, Result, Ok, Err, option_map, min, ◌+◌, ◌-◌, length}
use Rattle.std.specs.List.{slice_get}
use Rattle.cap_pcap.specs.declared.info.InterfaceInfo.{InterfaceInfo}
use Rattle.its_linkframe.specs.declared.record.CaptureFault.TheVariants as captures
use Rattle.cap_pcap.specs.Blocks.{block_of, kind_of_block}
use Rattle.cap_pcap.specs.Layouts.{Layout, Reads, IsFaultOf, behind, field}
use Rattle.cap_pcap.specs.Octets.{number_in}
use Rattle.cap_pcap.specs.Reading.{MeetsEnd}
use Rattle.cap_pcap.specs.declared.blocks.Block.{Block}
use Rattle.cap_pcap.specs.declared.blocks.Block.TheVariants as blocks
use Rattle.cap_pcap.specs.declared.blocks.Kind.{Kind}
use Rattle.cap_pcap.specs.declared.blocks.Kind.TheVariants as kinds
use Rattle.cap_pcap.specs.declared.fault.SourceFault.{SourceFault}
use Rattle.cap_pcap.specs.declared.fault.SourceFault.TheVariants as faults
use Rattle.cap_pcap.specs.declared.interface.Interface.{Interface}
use Rattle.cap_pcap.specs.declared.octets.Endianness.{Endianness}
use Rattle.cap_pcap.specs.declared.octets.Endianness.TheVariants as orders
use Rattle.cap_pcap.specs.declared.pcapng.Stage.{Stage}
use Rattle.cap_pcap.specs.declared.pcapng.Stage.TheVariants as stages
use Rattle.cap_pcap.specs.declared.record.Step.{Step}
use Rattle.cap_pcap.specs.declared.record.Step.TheVariants as steps

-- A reader: its stage, the interfaces of the section that it is in, how many there were in all
-- sections, how many octets of a frame it
-- keeps at most, the octets that its source has left, where they are known, and how many calls of
-- the source failed.
pub record PcapngReading : Type 0 where
  pub stage : Stage
  pub interfaces : List Interface
  pub next : ℕ
  pub keep : ℕ
  pub rest : Option (List ℕ)
  pub failures : ℕ

-- what the last of these says, if there is one
abbrev pub newest_in : List Interface → Option InterfaceInfo
newest_in is = option_map (λ (i : Interface). i.info) (slice_get is (length is - 1))

abbrev pub is_failed : Stage → Bool
is_failed stages.Start = false
is_failed (stages.Blocks _) = false
is_failed stages.Ended = false
is_failed stages.Failed = true

-- the order of octets that a block is read in: in no section any, as a section header says its own
abbrev pub order_in : Option Endianness → Endianness
order_in None = orders.Big
order_in (Some o) = o

-- what the four octets of a block's type say
abbrev pub kind_in : Option Endianness → List ℕ → Kind
kind_in o w = kind_of_block (number_in (order_in o) 4 w)

-- outside of a section only a section header may stand
abbrev pub MayStand : Option Endianness → Kind → Type 0
MayStand None k = k ≡ kinds.Section
MayStand (Some o) k = Unit {0}

-- the type of a block
abbrev pub kind_of_next : Option Endianness → Layout Kind
kind_of_next o =
    field 4 (λ k w. (kind_in o w ≡ k) × MayStand o k) (λ w. ¬ MayStand o (kind_in o w))

-- a block, in a section of this order, if in one, with these interfaces
unfoldable pub next_block : Option Endianness → ℕ → List Interface → ℕ → List ℕ → Layout Block
next_block o next is keep kept =
    behind (kind_of_next o) (λ k. block_of (order_in o) next is keep kept k)

-- how many interfaces there are with one more, up to the greatest number
abbrev pub one_more : ℕ → ℕ
one_more n = min (n + 1) 4294967295

-- What a block gives, and what it makes of the stage, of the number of interfaces and of those of
-- the section, which has none at its beginning. Only an interface takes memory, and then C4 may
-- come.
abbrev pub IsTaken : Block → Stage → Stage → ℕ → ℕ → List Interface → List Interface
    → Result Step SourceFault → Type 0
IsTaken (blocks.Section o) was now m n old new answer =
    (answer ≡ Ok steps.Passed) × (now ≡ stages.Blocks o) × (new ≡ []) × (n ≡ m)
IsTaken (blocks.Interface i) was now m n old new (Ok step) =
    (step ≡ steps.Interface) × (now ≡ was) × (new ≡ old ++ i ∷ []) × (n ≡ one_more m)
IsTaken (blocks.Interface i) was now m n old new (Err f) =
    (f ≡ faults.Capture captures.NoMemory) × (now ≡ stages.Failed)
IsTaken (blocks.Record h) was now m n old new answer =
    (answer ≡ Ok (steps.Record h)) × (now ≡ was) × (new ≡ old) × (n ≡ m)
IsTaken blocks.Other was now m n old new answer =
    (answer ≡ Ok steps.Passed) × (now ≡ was) × (new ≡ old) × (n ≡ m)

-- The block that stands next was read, and this came of it.
pub record IsBlockRead (o : Option Endianness) (was now : PcapngReading) (frame : List ℕ)
    (answer : Result Step SourceFault) : Type 0 where
  pub block : Block
  pub reads : Reads ((next_block o was.next was.interfaces was.keep frame).Is block) was.rest
      now.rest
  pub taken : IsTaken block was.stage now.stage was.next now.next was.interfaces now.interfaces
      answer

-- What an answer says where blocks are read: a record is that of the next block; `Interface` is a
-- block that adds one; `Passed` is another block, which may begin a section; a fault is the first of that
-- block, or that the list of interfaces could not grow.
abbrev pub IsNext : Option Endianness → PcapngReading → PcapngReading → List ℕ
    → Result Step SourceFault → Type 0
IsNext o was now frame (Ok steps.End) =
    (now.stage ≡ stages.Ended) × MeetsEnd was.rest now.rest
IsNext o was now frame (Ok steps.Passed) = IsBlockRead o was now frame (Ok steps.Passed)
IsNext o was now frame (Ok steps.Interface) = IsBlockRead o was now frame (Ok steps.Interface)
IsNext o was now frame (Ok (steps.Record h)) = IsBlockRead o was now frame (Ok (steps.Record h))
IsNext o was now frame (Err f) =
    (now.stage ≡ stages.Failed)
    × (IsFaultOf (next_block o was.next was.interfaces was.keep frame) was.rest now.rest f
    ⊎ ((f ≡ faults.Capture captures.NoMemory) × (i : Interface)
    × Reads ((next_block o was.next was.interfaces was.keep frame).Is (blocks.Interface i)) was.rest
    now.rest))

-- What an answer says, by the stage: after the end the end is answered, and after a fault C5, and
-- nothing is read.
abbrev pub IsAnswerAt : Stage → PcapngReading → PcapngReading → List ℕ → Result Step SourceFault
    → Type 0
IsAnswerAt stages.Start was now frame answer = IsNext None was now frame answer
IsAnswerAt (stages.Blocks o) was now frame answer = IsNext (Some o) was now frame answer
IsAnswerAt stages.Ended was now frame answer = (answer ≡ Ok steps.End) × (now ≡ was)
IsAnswerAt stages.Failed was now frame answer =
    (answer ≡ Err (faults.Capture captures.Failed)) × (now ≡ was)

abbrev pub IsAnswer : PcapngReading → PcapngReading → List ℕ → Result Step SourceFault → Type 0
IsAnswer was now frame answer = IsAnswerAt was.stage was now frame answer

-- An interface block was read, and nothing behind it: the list of interfaces is to grow by this one.
abbrev pub ReadsInterface : Option Endianness → PcapngReading → PcapngReading → Type 0
ReadsInterface o was now =
    (frame : List ℕ) × (i : Interface)
    × Reads ((next_block o was.next was.interfaces was.keep frame).Is (blocks.Interface i)) was.rest
    now.rest

-- The same by the stage: after the end and after a fault nothing is read.
abbrev pub ReadsInterfaceAt : Stage → PcapngReading → PcapngReading → Type 0
ReadsInterfaceAt stages.Start was now = ReadsInterface None was now
ReadsInterfaceAt (stages.Blocks o) was now = ReadsInterface (Some o) was now
ReadsInterfaceAt stages.Ended was now = ⊥
ReadsInterfaceAt stages.Failed was now = ⊥

-- Classic pcap: a header of 24 octets, and records, each with four numbers of 32 bits before its
-- octets: seconds, fraction, captured length, wire length.
use Rattle.std.specs.Prelude.{◌≡◌, ◌≢◌, ℕ, ◌+◌, ◌*◌, ◌/◌, ◌%◌, ◌<◌, ◌≤◌, ◌⊎◌, Bool, true, false}
use Rattle.std.specs.Prelude.{None, Some}
use Rattle.std.specs.Prelude.{List, [], length, take, drop, min, Option, IfSome}
use Rattle.std.specs.Prelude.{Result, Ok, Err}
use Rattle.std.specs.Io.KnownBytes.{Consumes}
use Rattle.byteorder.specs.Endian.{big_number}
use Rattle.its_linkframe.specs.declared.record.CaptureFault.TheVariants as captures
use Rattle.its_linkframe.specs.Devices.{ConsumesPrefix}
use Rattle.cap_pcap.specs.declared.fault.SourceFault.{SourceFault}
use Rattle.cap_pcap.specs.declared.fault.SourceFault.TheVariants as faults
use Rattle.cap_linklayers.specs.declared.link.LinkLayer.{LinkLayer}
use Rattle.cap_pcap.specs.declared.octets.Endianness.{Endianness}
use Rattle.cap_pcap.specs.declared.octets.Endianness.TheVariants as orders
use Rattle.cap_pcap.specs.declared.pcap.FileHeader.{FileHeader}
use Rattle.cap_pcap.specs.declared.pcap.Magic.{Magic}
use Rattle.cap_pcap.specs.declared.pcap.Unit.{Unit}
use Rattle.cap_pcap.specs.declared.pcap.Unit.TheVariants as units
use Rattle.cap_pcap.specs.declared.pcap.Stage.{Stage}
use Rattle.cap_pcap.specs.declared.pcap.Stage.TheVariants as stages
use Rattle.cap_pcap.specs.declared.pcap.TheConstants.{LONGEST_CAPTURED}
use Rattle.cap_pcap.specs.declared.record.RecordHeader.{RecordHeader}
use Rattle.cap_pcap.specs.declared.record.Step.{Step}
use Rattle.cap_pcap.specs.declared.record.Step.TheVariants as steps
use Rattle.cap_linklayers.specs.LinkLayers.{layer_of}
use Rattle.cap_pcap.specs.InterfaceHeads.{classic_info}
use Rattle.cap_pcap.specs.Octets.{number_in}
use Rattle.cap_pcap.specs.declared.info.InterfaceInfo.{InterfaceInfo}
use Rattle.cap_pcap.specs.declared.record.FineTime.{FineTime}
use Rattle.cap_pcap.specs.Reading.{Passes, MeetsEnd, EndsWhere}

-- The four marks, as numbers read with the highest octet first: a1b2c3d4 and a1b23c4d where the
-- file's numbers have their highest octet first, and the same octets turned round where the lowest.
abbrev pub mark_of : Endianness → Unit → ℕ
mark_of orders.Big units.Micro = 2712847316
mark_of orders.Little units.Micro = 3569595041
mark_of orders.Big units.Nano = 2712812621
mark_of orders.Little units.Nano = 1295823521

abbrev pub mark_number : Magic → ℕ
mark_number m = mark_of m.order m.unit

-- ---- the header

-- four octets that are the magic
abbrev pub HasMagic : Magic → List ℕ → Type 0
HasMagic m w = (4 ≤ length w) × (big_number 4 w ≡ mark_number m)

-- after the magic a major version of 2
abbrev pub HasVersion : Magic → List ℕ → Type 0
HasVersion m w = HasMagic m w × (6 ≤ length w) × (number_in m.order 2 (drop 4 w) ≡ 2)

-- the type of the link layer: the lower 16 bits of the header's last number
abbrev pub link_type : Magic → List ℕ → ℕ
link_type m w = number_in m.order 4 (drop 20 w) % 65536

-- a whole header, of a link layer that is read
abbrev pub HasHeader : FileHeader → List ℕ → Type 0
HasHeader h w =
    HasVersion h.magic w × (24 ≤ length w) × (layer_of (link_type h.magic w) ≡ Some h.layer)

-- the header went, and nothing after it
pub record ReadsHeader (h : FileHeader) (old new : Option (List ℕ)) : Type 0 where
  pub is : IfSome old (HasHeader h)
  pub passes : Passes 24 old new

-- the file ends in its header, behind nothing that is wrong
abbrev pub EndsInHeader : List ℕ → Type 0
EndsInHeader w =
    (length w < 4)
    ⊎ (m : Magic) × ((HasMagic m w × (length w < 6)) ⊎ (HasVersion m w × (length w < 24)))

-- no magic, or another major version behind one
abbrev pub HasWrongHeader : List ℕ → Type 0
HasWrongHeader w =
    ((4 ≤ length w) × ((m : Magic) → big_number 4 w ≢ mark_number m))
    ⊎ (m : Magic) × HasMagic m w × (6 ≤ length w) × (number_in m.order 2 (drop 4 w) ≢ 2)

-- a header of a link layer that is not read
abbrev pub HasOtherLink : List ℕ → Type 0
HasOtherLink w =
    (m : Magic) × HasVersion m w × (24 ≤ length w) × (layer_of (link_type m w) ≡ None)

-- What a fault says of a file at its start, in the order of its octets.
abbrev pub IsHeaderFault : Option (List ℕ) → Option (List ℕ) → SourceFault → Type 0
IsHeaderFault old new faults.CutFile = EndsWhere EndsInHeader old new
IsHeaderFault old new faults.Malformed = IfSome old HasWrongHeader × ConsumesPrefix old new
IsHeaderFault old new faults.LinkType = IfSome old HasOtherLink × Passes 24 old new
IsHeaderFault old new (faults.Capture captures.CutRecord) = ⊥
IsHeaderFault old new (faults.Capture captures.Length) = ⊥
IsHeaderFault old new (faults.Capture captures.Io) = ConsumesPrefix old new
IsHeaderFault old new (faults.Capture captures.NoMemory) = ⊥
IsHeaderFault old new (faults.Capture captures.Failed) = ⊥

-- ---- a record

-- a moment in milliseconds, of seconds and a fraction of any size, which is cut down
abbrev pub moment_of : Unit → ℕ → ℕ → ℕ
moment_of units.Micro seconds fraction = 1000 * seconds + fraction / 1000
moment_of units.Nano seconds fraction = 1000 * seconds + fraction / 1000000

-- the same below the millisecond, and as a count of the fractions of a second
abbrev pub fine_of : Unit → ℕ → ℕ → FineTime
fine_of units.Micro seconds fraction = record {
  nanos = fraction % 1000 * 1000;
  finer = false;
  ticks = Some (1000000 * seconds + fraction);
}
fine_of units.Nano seconds fraction = record {
  nanos = fraction % 1000000;
  finer = false;
  ticks = Some (1000000000 * seconds + fraction);
}

-- the captured length of the record at the head of the octets
abbrev pub captured_of : Magic → List ℕ → ℕ
captured_of m w = number_in m.order 4 (drop 8 w)

-- a captured length stands there, and it is one that a record may have
abbrev pub AnnouncesRecord : Magic → List ℕ → Type 0
AnnouncesRecord m w = (12 ≤ length w) × (captured_of m w ≤ LONGEST_CAPTURED)

-- what is told of the record at the head of the octets
pub record IsHead (f : FileHeader) (w : List ℕ) (h : RecordHeader) : Type 0 where
  pub moment : h.moment ≡ moment_of f.magic.unit (number_in f.magic.order 4 w)
      (number_in f.magic.order 4 (drop 4 w))
  pub fine : h.fine ≡ fine_of f.magic.unit (number_in f.magic.order 4 w)
      (number_in f.magic.order 4 (drop 4 w))
  pub interface : h.interface ≡ 0
  pub captured : h.captured ≡ captured_of f.magic w
  pub wire : h.wire ≡ number_in f.magic.order 4 (drop 12 w)
  pub layer : h.layer ≡ Some f.layer

-- The octets begin with a whole record, of which this is told; the first octets of its frame are
-- kept, as many as are wanted and there are.
pub record HasRecord (f : FileHeader) (keep : ℕ) (h : RecordHeader) (frame w : List ℕ) : Type 0 where
  pub announces : AnnouncesRecord f.magic w
  pub head : IsHead f w h
  pub whole : 16 + h.captured ≤ length w
  pub kept : frame ≡ take (min h.captured keep) (drop 16 w)

-- the record went, and nothing after it
pub record ReadsRecord (f : FileHeader) (keep : ℕ) (h : RecordHeader) (frame : List ℕ)
    (old new : Option (List ℕ)) : Type 0 where
  pub is : IfSome old (HasRecord f keep h frame)
  pub passes : Passes (16 + h.captured) old new

-- the file ends in a record: before its captured length, or behind one that is allowed
abbrev pub EndsInRecord : Magic → List ℕ → Type 0
EndsInRecord m w =
    (0 < length w)
    × ((length w < 12) ⊎ (AnnouncesRecord m w × (length w < 16 + captured_of m w)))

-- a captured length over 262144
abbrev pub AnnouncesTooMuch : Magic → List ℕ → Type 0
AnnouncesTooMuch m w = (12 ≤ length w) × (LONGEST_CAPTURED < captured_of m w)

-- What a fault says of a file that has a record next.
abbrev pub IsRecordFault : Magic → Option (List ℕ) → Option (List ℕ) → SourceFault → Type 0
IsRecordFault m old new faults.CutFile = EndsWhere (EndsInRecord m) old new
IsRecordFault m old new faults.Malformed = IfSome old (AnnouncesTooMuch m) × Passes 12 old new
IsRecordFault m old new faults.LinkType = ⊥
IsRecordFault m old new (faults.Capture captures.CutRecord) = ⊥
IsRecordFault m old new (faults.Capture captures.Length) = ⊥
IsRecordFault m old new (faults.Capture captures.Io) = ConsumesPrefix old new
IsRecordFault m old new (faults.Capture captures.NoMemory) =
    IfSome old (AnnouncesRecord m) × Passes 16 old new
IsRecordFault m old new (faults.Capture captures.Failed) = ⊥

-- ---- a reader

-- Where a reader is: at the header, at a record, at the end, or behind a fault; what octets its
-- source has left, where they are known; how many octets of a frame it keeps at most; and how many
-- calls of the source failed.
pub record Reading : Type 0 where
  pub stage : Stage
  pub keep : ℕ
  pub rest : Option (List ℕ)
  pub failures : ℕ

abbrev pub is_failed : Stage → Bool
is_failed stages.Start = false
is_failed (stages.Records _) = false
is_failed stages.Ended = false
is_failed stages.Failed = true

-- the link layer of the records that are read
abbrev pub layer_at : Stage → Option LinkLayer
layer_at stages.Start = None
layer_at (stages.Records head) = Some head.layer
layer_at stages.Ended = None
layer_at stages.Failed = None

-- what the header says of the file's one interface
abbrev pub info_at : Stage → Option InterfaceInfo
info_at stages.Start = None
info_at (stages.Records head) = Some (classic_info head)
info_at stages.Ended = None
info_at stages.Failed = None

-- What a step says of a file that has a record next: a record, or the end.
abbrev pub IsRecordStep : FileHeader → ℕ → List ℕ → Option (List ℕ) → Option (List ℕ) → Step
    → Type 0
IsRecordStep f keep frame old new (steps.Record h) = ReadsRecord f keep h frame old new
IsRecordStep f keep frame old new steps.Interface = ⊥
IsRecordStep f keep frame old new steps.Passed = ⊥
IsRecordStep f keep frame old new steps.End = MeetsEnd old new

-- What an answer says, by the stage: at the start the header is read, and says what the records of
-- the file are; after the end the end is answered, and after a fault C5, and nothing is read.
abbrev pub IsAnswer : Stage → Stage → ℕ → List ℕ → Option (List ℕ) → Option (List ℕ)
    → Result Step SourceFault → Type 0
IsAnswer stages.Start after keep frame old new (Ok steps.Passed) = ⊥
IsAnswer stages.Start after keep frame old new (Ok steps.Interface) =
    (h : FileHeader) × (after ≡ stages.Records h) × ReadsHeader h old new
IsAnswer stages.Start after keep frame old new (Ok (steps.Record h)) = ⊥
IsAnswer stages.Start after keep frame old new (Ok steps.End) = ⊥
IsAnswer stages.Start after keep frame old new (Err f) =
    (after ≡ stages.Failed) × IsHeaderFault old new f
IsAnswer (stages.Records head) after keep frame old new (Ok (steps.Record h)) =
    (after ≡ stages.Records head) × ReadsRecord head keep h frame old new
IsAnswer (stages.Records head) after keep frame old new (Ok steps.Interface) = ⊥
IsAnswer (stages.Records head) after keep frame old new (Ok steps.Passed) = ⊥
IsAnswer (stages.Records head) after keep frame old new (Ok steps.End) =
    (after ≡ stages.Ended) × MeetsEnd old new
IsAnswer (stages.Records head) after keep frame old new (Err f) =
    (after ≡ stages.Failed) × IsRecordFault head.magic old new f
IsAnswer stages.Ended after keep frame old new answer =
    (answer ≡ Ok steps.End) × (after ≡ stages.Ended) × Consumes old new []
IsAnswer stages.Failed after keep frame old new answer =
    (answer ≡ Err (faults.Capture captures.Failed)) × (after ≡ stages.Failed)
    × Consumes old new []

-- Files of records of any format, as they are written.
use Rattle.std.specs.Prelude.{◌≡◌, ℕ, ◌+◌, ◌-◌, ◌/◌, ◌^◌, ◌<◌, ◌≤◌, Bool, true, false, List, length}
use Rattle.std.specs.Prelude.{Option, Result, Ok, Err}
use Rattle.std.specs.Io.KnownBytes.{Appends}
use Rattle.its_linkframe.specs.Captures.{IsFrameLength, captured_at, record_octets}
use Rattle.its_linkframe.specs.Devices.{AppendsPrefix}
use Rattle.its_linkframe.specs.Writing as captures
use Rattle.cap_pcap.specs.InterfaceHeads.{millis_head}
use Rattle.cap_pcap.specs.PcapWritten.{file_header, record_of, IsLate}
use Rattle.cap_pcap.specs.PcapngWritten.{section_octets, interface_octets, packet_octets}
use Rattle.cap_pcap.specs.PcapngWritten.{HasBlock, LacksBlock}
use Rattle.cap_pcap.specs.PcapngWritten as sections
use Rattle.cap_pcap.specs.Writing as outputs
use Rattle.cap_pcap.specs.declared.format.Format.{Format}
use Rattle.cap_pcap.specs.declared.info.InterfaceHead.{InterfaceHead}
use Rattle.cap_pcap.specs.declared.pcap.Unit.{Unit as TimeUnit}
use Rattle.cap_pcap.specs.declared.pcap.Unit.TheVariants as units
use Rattle.cap_pcap.specs.declared.stamp.Stamp.{Stamp}
use Rattle.cap_pcap.specs.declared.format.Format.TheVariants as formats
use Rattle.cap_linklayers.specs.declared.link.LinkLayer.{LinkLayer}
use Rattle.cap_linklayers.specs.declared.link.LinkLayer.TheVariants as layers
use Rattle.cap_pcap.specs.declared.pcap.TheConstants.{LONGEST_CAPTURED}
use Rattle.cap_pcap.specs.declared.put_fault.PutFault.{PutFault}
use Rattle.cap_pcap.specs.declared.put_fault.PutFault.TheVariants as faults

-- A file: its format, how many interfaces it has (of pcapng alone), whether a call of its device
-- failed, what octets its device has, where they are known, and how many calls of the device
-- failed.
pub record RecordFile : Type 0 where
  pub format : Format
  pub interfaces : ℕ
  pub failed : Bool
  pub contents : Option (List ℕ)
  pub failures : ℕ

-- the files of the writers
abbrev pub capture_file : captures.Writing → RecordFile
capture_file w = record {
  format = formats.Capture;
  interfaces = 0;
  failed = w.failed;
  contents = w.contents;
  failures = w.failures;
}

abbrev pub pcap_file : outputs.Writing → RecordFile
pcap_file w = record {
  format = formats.Pcap;
  interfaces = 0;
  failed = w.failed;
  contents = w.contents;
  failures = w.failures;
}

abbrev pub pcapng_file : sections.Writing → RecordFile
pcapng_file w = record {
  format = formats.Pcapng;
  interfaces = w.interfaces;
  failed = w.failed;
  contents = w.contents;
  failures = w.failures;
}

-- What a call answers that is to write a text and to add so many interfaces, and what it leaves.
-- Where nothing speaks against it, that is the text behind what there was, or a prefix of the text
-- and not all of it, where a call of the device fails; a refusal leaves all as it was.
abbrev pub Writes : List ℕ → ℕ → Type 0 → (PutFault → Type 0) → RecordFile → RecordFile
    → Result (Unit {0}) PutFault → Type 0
Writes text more Fits Refuses old new (Ok _) =
    (old.failed ≡ false) × Fits × Appends old.contents new.contents text
    × (new.format ≡ old.format) × (new.interfaces ≡ old.interfaces + more)
    × (new.failed ≡ false) × (new.failures ≡ old.failures)
Writes text more Fits Refuses old new (Err faults.Length) =
    (old.failed ≡ false) × Refuses faults.Length × (new ≡ old)
Writes text more Fits Refuses old new (Err faults.Moment) =
    (old.failed ≡ false) × Refuses faults.Moment × (new ≡ old)
Writes text more Fits Refuses old new (Err faults.Interface) =
    (old.failed ≡ false) × Refuses faults.Interface × (new ≡ old)
Writes text more Fits Refuses old new (Err faults.Name) =
    (old.failed ≡ false) × Refuses faults.Name × (new ≡ old)
Writes text more Fits Refuses old new (Err faults.Io) =
    (old.failed ≡ false) × Fits × AppendsPrefix old.contents new.contents text
    × (new.format ≡ old.format) × (new.interfaces ≡ old.interfaces)
    × (new.failed ≡ true) × (new.failures ≡ old.failures + 1)
Writes text more Fits Refuses old new (Err faults.Failed) = (old.failed ≡ true) × (new ≡ old)

-- a call for which the format has nothing to write
abbrev pub WritesNothing : RecordFile → RecordFile → Result (Unit {0}) PutFault → Type 0
WritesNothing old new r = (r ≡ Ok tt) × (new ≡ old)

-- what a file begins with, of records of a link layer, with times in a unit
abbrev pub StartsOn : TimeUnit → LinkLayer → Format → RecordFile → RecordFile
    → Result (Unit {0}) PutFault → Type 0
StartsOn u l formats.Capture old new r = WritesNothing old new r
StartsOn u l formats.Pcap old new r = Writes (file_header u l) 0 (Unit {0}) (λ _. ⊥) old new r
StartsOn u l formats.Pcapng old new r = Writes section_octets 0 (Unit {0}) (λ _. ⊥) old new r

-- the same of frames, with times in milliseconds
abbrev pub Starts : Format → RecordFile → RecordFile → Result (Unit {0}) PutFault → Type 0
Starts format old new r = StartsOn units.Micro layers.Ethernet format old new r

-- what speaks against a further interface, where there are so many: their number comes first
abbrev pub RefusesInterface : ℕ → List ℕ → PutFault → Type 0
RefusesInterface n name faults.Length = ⊥
RefusesInterface n name faults.Moment = ⊥
RefusesInterface n name faults.Interface = 2 ^ 32 - 1 ≤ n
RefusesInterface n name faults.Name = (n < 2 ^ 32 - 1) × (65535 < length name)
RefusesInterface n name faults.Io = ⊥
RefusesInterface n name faults.Failed = ⊥

-- an interface with this head and this name
abbrev pub AddsInterfaceOn : InterfaceHead → Format → List ℕ → RecordFile → RecordFile
    → Result (Unit {0}) PutFault → Type 0
AddsInterfaceOn h formats.Capture name old new r = WritesNothing old new r
AddsInterfaceOn h formats.Pcap name old new r = WritesNothing old new r
AddsInterfaceOn h formats.Pcapng name old new r =
    Writes (interface_octets h name) 1
    ((old.interfaces < 2 ^ 32 - 1) × (length name ≤ 65535))
    (RefusesInterface old.interfaces name) old new r

-- the same of Ethernet in milliseconds
abbrev pub AddsInterface : Format → List ℕ → RecordFile → RecordFile
    → Result (Unit {0}) PutFault → Type 0
AddsInterface format name old new r = AddsInterfaceOn millis_head format name old new r

-- the octets of a record of a frame at a time, as one of an interface
abbrev pub frame_octets : Format → ℕ → Stamp → List ℕ → List ℕ
frame_octets formats.Capture interface stamp frame =
    record_octets (captured_at stamp.moment frame)
frame_octets formats.Pcap interface stamp frame = record_of stamp.moment stamp.fraction frame
frame_octets formats.Pcapng interface stamp frame = packet_octets interface stamp.ticks frame

-- a file of so many interfaces has a place for it
abbrev pub HasPlace : Format → ℕ → ℕ → Stamp → List ℕ → Type 0
HasPlace formats.Capture n interface stamp frame = IsFrameLength (length frame)
HasPlace formats.Pcap n interface stamp frame =
    (length frame ≤ LONGEST_CAPTURED) × (stamp.moment / 1000 < 2 ^ 32)
HasPlace formats.Pcapng n interface stamp frame =
    (interface < n) × (length frame ≤ LONGEST_CAPTURED) × HasBlock interface stamp.ticks

-- what speaks against it: in pcap its length comes before its moment, in pcapng its interface
-- before its length, and last that it has no ticks of an interface but the first
abbrev pub RefusesFrame : Format → ℕ → ℕ → Stamp → List ℕ → PutFault → Type 0
RefusesFrame formats.Capture n interface stamp frame faults.Length =
    ¬ IsFrameLength (length frame)
RefusesFrame formats.Capture n interface stamp frame fault = ⊥
RefusesFrame formats.Pcap n interface stamp frame faults.Length =
    LONGEST_CAPTURED < length frame
RefusesFrame formats.Pcap n interface stamp frame faults.Moment =
    (length frame ≤ LONGEST_CAPTURED) × IsLate stamp.moment
RefusesFrame formats.Pcap n interface stamp frame fault = ⊥
RefusesFrame formats.Pcapng n interface stamp frame faults.Interface = n ≤ interface
RefusesFrame formats.Pcapng n interface stamp frame faults.Length =
    (interface < n) × (LONGEST_CAPTURED < length frame)
RefusesFrame formats.Pcapng n interface stamp frame faults.Moment =
    (interface < n) × (length frame ≤ LONGEST_CAPTURED) × LacksBlock interface stamp.ticks
RefusesFrame formats.Pcapng n interface stamp frame fault = ⊥

-- such a record
abbrev pub PutsFrame : ℕ → Stamp → List ℕ → RecordFile → RecordFile
    → Result (Unit {0}) PutFault → Type 0
PutsFrame interface stamp frame old new r =
    Writes (frame_octets old.format interface stamp frame) 0
    (HasPlace old.format old.interfaces interface stamp frame)
    (RefusesFrame old.format old.interfaces interface stamp frame) old new r

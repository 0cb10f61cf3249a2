-- What is told of a record.
use Rattle.std.specs.Prelude.{ℕ, nat_lt, List, [], ◌∷◌, Option, Some, None, if◌then◌else◌}
use Rattle.cap_linklayers.specs.declared.link.LinkLayer.{LinkLayer}
use Rattle.cap_pcap.specs.declared.record.RecordHeader.{RecordHeader}
use Rattle.cap_pcap.specs.declared.record.RecordFault.{RecordFault}
use Rattle.cap_pcap.specs.declared.record.RecordFault.TheVariants as faults

-- a record of a link layer that is not read (P3); of one that is, a record that was cut (P4)
abbrev pub fault_on : Option LinkLayer → RecordHeader → Option RecordFault
fault_on None h = Some faults.LinkType
fault_on (Some _) h = if nat_lt h.captured h.wire then Some faults.CutFrame else None

abbrev pub fault_of : RecordHeader → Option RecordFault
fault_of h = fault_on h.layer h

-- P3 and P4, as ASCII text
abbrev pub record_code_of : RecordFault → List ℕ
record_code_of faults.LinkType = 80 ∷ 51 ∷ []
record_code_of faults.CutFrame = 80 ∷ 52 ∷ []

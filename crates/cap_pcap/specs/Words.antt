-- The words for what keeps a record out of a file, as ASCII text.
use Rattle.std.specs.Prelude.{ℕ, List, Option, Some, None, codes}
use Rattle.cap_linklayers.specs.declared.link.LinkFault.TheVariants as links
use Rattle.cap_pcap.specs.declared.put_fault.PutFault.TheVariants as puts
use Rattle.cap_pcap.specs.declared.record.RecordFault.TheVariants as records
use Rattle.cap_pcap.specs.declared.sink.SinkFault.{SinkFault}
use Rattle.cap_pcap.specs.declared.sink.SinkFault.TheVariants as faults

-- none where the file itself failed, or has no such interface
abbrev pub word_of : SinkFault → Option (List ℕ)
word_of (faults.Record records.LinkType) = Some (codes "link type")
word_of (faults.Record records.CutFrame) = Some (codes "cut")
word_of (faults.Link links.Short) = Some (codes "L1")
word_of (faults.Link links.Kind) = Some (codes "L2")
word_of (faults.Put puts.Length) = Some (codes "length")
word_of (faults.Put puts.Moment) = Some (codes "moment")
word_of (faults.Put puts.Interface) = None
word_of (faults.Put puts.Name) = None
word_of (faults.Put puts.Io) = None
word_of (faults.Put puts.Failed) = None

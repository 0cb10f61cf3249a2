-- What is read of a record of a capture.
use Rattle.std.specs.Prelude.{◌≡◌, ℕ, List, Option, Some, None}
use Rattle.cap_pcap.specs.declared.record.RecordHeader.{RecordHeader}
use Rattle.cap_records.specs.declared.selection.Selection.{Selection}
use Rattle.cmd_verdict.specs.declared.seen_reader.ReadRecord.{ReadRecord}

-- each record is read
abbrev pub ReadsSeen : Selection → RecordHeader → List ℕ → List ℕ → Option ReadRecord → Type 0
ReadsSeen selection head before after None = ⊥
ReadsSeen selection head before after (Some record_) = Unit {0}

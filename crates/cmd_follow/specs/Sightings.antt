-- What is read of a record of a capture.
use Rattle.std.specs.Prelude.{◌≡◌, ℕ, List, Option, Some, None, true, false}
use Rattle.cap_pcap.specs.declared.record.RecordHeader.{RecordHeader}
use Rattle.cap_records.specs.FoundFrames.{IsSelected}
use Rattle.cap_records.specs.declared.selection.Selection.{Selection}
use Rattle.cmd_follow.specs.declared.sighting.ReadRecord.{ReadRecord}

-- a record is read if and only if it is selected
abbrev pub ReadsSelected : Selection → RecordHeader → List ℕ → List ℕ → Option ReadRecord → Type 0
ReadsSelected selection head before after None = IsSelected selection head before false
ReadsSelected selection head before after (Some record_) = IsSelected selection head before true

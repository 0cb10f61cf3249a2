use Rattle.std.proofs.Common.{◌≡◌}
use Rattle.cap_pcap.specs.Sources.{Gives}
use Rattle.cmd_captures.specs.Conversions.{IsCopying, said_by}
use Rattle.cmd_captures.proofs.converting.copy.Given as goal

-- what the steps so far wrote
abbrev pub invariant-loop-records : goal.invariant-loop-records
invariant-loop-records g l = record {
  selection : l.records.selection ≡ l.selection;
  copying : IsCopying Gives said_by l.selection.choice l.selection.signed l.fn.source l.fn.written
      l.records.source l.written l.refused l.records.counts;
}

abbrev pub decreases-loop-records : goal.decreases-loop-records
decreases-loop-records g l = l.records.counts.left

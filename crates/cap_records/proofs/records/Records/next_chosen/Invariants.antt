use Rattle.std.proofs.Common.{◌≡◌}
use Rattle.cap_records.specs.Pulls.{Skips}
use Rattle.cap_records.proofs.records.Records.next_chosen.Given as goal

-- nothing was met so far
abbrev pub invariant-loop-self : goal.invariant-loop-self
invariant-loop-self g l = record {
  skips : Skips g.S.RecordSource.GivesStep g.R.RecordReader.Reads l.fn.self.selection
      l.fn.self.source l.fn.self.counts l.self.source l.self.counts;
  selection : l.self.selection ≡ l.fn.self.selection;
}

abbrev pub decreases-loop-self : goal.decreases-loop-self
decreases-loop-self g l = l.self.counts.left

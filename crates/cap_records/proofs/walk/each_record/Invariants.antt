use Rattle.std.proofs.Common.{◌≡◌, ◌≤◌, ◌+◌}
use Rattle.cap_records.proofs.walk.each_record.Given as goal

-- all selected records are counted, and no more refused ones
abbrev pub invariant-loop-out : goal.invariant-loop-out
invariant-loop-out g l =
    (l.walked.records ≡ l.records.counts.chosen)
    × (l.walked.refused + l.walked.outside ≤ l.walked.records)

abbrev pub decreases-loop-out : goal.decreases-loop-out
decreases-loop-out g l = l.records.counts.left

use Rattle.std.proofs.Common.{◌≡◌, ◌≤◌, length, drop}
use Rattle.its_model.specs.Contention.{next_due}
use Rattle.its_contention.proofs.due.next_due.Given as goal

abbrev pub invariant-loop-i : goal.invariant-loop-i
invariant-loop-i g l = record {
  within : l.i ≤ length l.held;
  least : l.least ≡ next_due (drop l.i l.held);
}

abbrev pub decreases-loop-i : goal.decreases-loop-i
decreases-loop-i g l = l.i

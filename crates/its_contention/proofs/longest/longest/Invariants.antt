use Rattle.std.proofs.Common.{◌≡◌, ◌≤◌, length, drop}
use Rattle.its_contention.specs.Waiting.{longest}
use Rattle.its_contention.proofs.longest.longest.Given as goal

abbrev pub invariant-loop-i : goal.invariant-loop-i
invariant-loop-i l = record {
  within : l.i ≤ length l.held;
  most : l.most ≡ longest (drop l.i l.held);
}

abbrev pub decreases-loop-i : goal.decreases-loop-i
decreases-loop-i l = l.i

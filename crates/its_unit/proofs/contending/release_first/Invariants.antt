use Rattle.std.proofs.Common.{◌≡◌}
use Rattle.its_unit.specs.Contending.{release_first}
use Rattle.its_unit.proofs.contending.release_first.Given as goal

abbrev pub invariant-loop-left : goal.invariant-loop-left
invariant-loop-left l = record {
  same : release_first l.fn.most l.fn.address l.fn.now l.fn.contention l.fn.governor
      ≡ release_first l.left l.fn.address l.fn.now l.contention l.governor;
}

abbrev pub decreases-loop-left : goal.decreases-loop-left
decreases-loop-left l = l.left

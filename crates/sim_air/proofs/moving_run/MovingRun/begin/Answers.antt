use Rattle.std.proofs.Common.{List, Bool, false, suc, sym, subst, arith}
use Rattle.sim_air.specs.Contenders.{NoneContends}
use Rattle.sim_air.proofs.moving_run.MovingRun.begin.Goals as goal

pub invariant_of-result-clause-ranges : goal.invariant_of-result-clause-ranges
invariant_of-result-clause-ranges c = c.in_ok-events.ensures.ranges

pub invariant_of-result-clause-sorted : goal.invariant_of-result-clause-sorted
invariant_of-result-clause-sorted c = c.in_ok-events.ensures.sorted

pub returns-clause-steady : goal.returns-clause-steady
returns-clause-steady c = λ none.
    c.in_ok-begin.ensures.steady (none 0 false (omega arith))
    (subst (λ (l : List Bool). NoneContends l) (sym c.as_slice-3.ensures.value)
    (λ i d lt. none (suc i) d (omega (arith, lt))))

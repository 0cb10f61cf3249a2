use Rattle.std.proofs.Common.{refl, sym, ◌∙◌, Some, ◌≡◌, ◌≤◌, arith, subst}
use Rattle.sim_moves.specs.declared.row.Row.{Row}
use Rattle.sim_air.proofs.moving_run.MovingRun.next_row.Goals as goal

pub returns-in-Some-clause-some : goal.returns-in-Some-clause-some
returns-in-Some-clause-some c = (
  (c.in-Some.row, c.in-Some.is, refl),
  λ row is.
      let same : Some c.in-Some.row ≡ Some row = sym c.in-Some.is ∙ is in
      let one : c.in-Some.row ≡ row = cc in
      subst (λ (r : Row). c.in-Some.row.moment ≤ r.moment) one (omega arith),
)

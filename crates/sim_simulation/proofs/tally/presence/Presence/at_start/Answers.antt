use Rattle.std.proofs.Common.{◌≡◌, ◌+◌, ℕ, suc, Bool, true, cond, take, sym, ap, ◌∙◌, arith}
use Rattle.std.specs.Prelude.{nat_eq}
use Rattle.std.specs.HashSet.{contains}
use Rattle.sim_simulation.specs.Presences.{starts_absent}
use Rattle.sim_simulation.proofs.Starts.{one_present, one_absent}
use Rattle.sim_simulation.proofs.tally.presence.Presence.at_start.Goals.{then-not-is_present+in_ok-insert}
use Rattle.sim_simulation.proofs.tally.presence.Presence.at_start.Goals.{else-not-is_present}
use Rattle.sim_simulation.proofs.tally.presence.Presence.at_start.Goals as goal

-- those of before, and this one where it is absent
pub loop-station-preserved : goal.loop-station-preserved
loop-station-preserved c = λ station.
    let present = c.args.present.now in
    let n = c.loop-station.station in
    let before = c.loop-station.invariant station in
    let next : suc n ≡ n + 1 = omega arith in
    let as_many = ap (λ (m : ℕ). starts_absent (take m present) station) next in
    elim c.if-not-is_present.branch [
      | then-not-is_present+in_ok-insert w ↦ ap (λ s. contains nat_eq s station) w.absent-is
          ∙ w.in_ok-insert.ensures.updates.0 station
          ∙ ap (λ (b : Bool). cond (nat_eq n station) true b) before
          ∙ sym (one_absent present n station c.loop-station-test.true w.if-not-is_present.true)
          ∙ as_many
      | else-not-is_present w ↦ ap (λ s. contains nat_eq s station) w.absent-is ∙ before
          ∙ sym (one_present present n station c.loop-station-test.true w.if-not-is_present.false)
          ∙ as_many
    ]

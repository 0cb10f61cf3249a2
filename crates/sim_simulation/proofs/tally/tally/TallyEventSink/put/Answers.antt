use Rattle.std.proofs.Common.{◌≡◌, ℕ, ◌+◌, List, ◌∷◌, ◌++◌, [], length, cond, false, sym, subst}
use Rattle.std.proofs.Common.{◌∙◌, ap, arith}
use Rattle.std.specs.Prelude.{◌&&◌}
use Rattle.sim_simulation.specs.declared.tally.summary.Totals.{Totals}
use Rattle.sim_simulation.specs.Totals.{AreTotals, capped, is_area_send, was_sent}
use Rattle.sim_simulation.specs.Packets.{HasCounted, Line, lines_of, packets, carried, deliveries}
use Rattle.sim_simulation.proofs.Counts.{entry_more, packets_more}
use Rattle.sim_simulation.proofs.Tallies.{fewer_kept, lines_more, lines_size}
use Rattle.sim_simulation.specs.Records.{happening_in}
use Rattle.sim_simulation.proofs.tally.tally.TallyEventSink.put.Goals as goal

-- the events and entries so far, and this one
pub returns : goal.returns
returns c = λ events log took.
    let e = happening_in c.args.done.now in
    let entry = c.args.done.now.entry.now in
    let old = c.args.self.now in
    let before = c.forget_released.new.self in
    let forgot = c.forget_released.ensures in
    let counted = c.in_ok-count.ensures in
    let totals : AreTotals before.totals events log =
    subst (λ (t : Totals). AreTotals t events log) (sym forgot.totals) took.0 in
    let one : ℕ = cond (is_area_send e.what && was_sent entry) 1 0 in
    let lines = lines_of events log in
    let size : length lines ≡ length log =
    omega (arith, lines_size [] events log totals.one_each) in
    let number : before.totals.events ≡ capped (length lines) =
    totals.events ∙ ap capped (sym size) in (
      subst (λ (t : Totals). AreTotals t (events ++ e ∷ []) (log ++ entry ∷ []))
          (sym counted.totals) (entry_more before.totals events log e entry totals),
      counted.sends
          ∙ ap (λ (n : ℕ). n + one) (ap (λ s. length s.items) forgot.sends ∙ took.1)
          ∙ packets_more events log e entry totals.one_each,
      λ in_time.
          let earlier : before.late ≡ false = counted.late in_time in
          let has = fewer_kept old before c.args.world.now.released (packets lines) (carried lines)
          (deliveries lines) forgot.sends forgot.released forgot.carried forgot.delivered
          (took.2 (sym forgot.late ∙ earlier)) in
          subst (λ (ls : List Line). HasCounted c.count.new.self (packets ls) (carried ls)
          (deliveries ls)) (sym (lines_more [] events log e entry totals.one_each))
          (counted.counts (length lines) (packets lines) (carried lines) (deliveries lines) number
          has in_time),
      λ none.
          let none_before : before.released ≡ 0 = sym counted.released ∙ none in
          let none_first : old.released ≡ 0 = omega (arith, forgot.released, none_before) in
          counted.early none_before ∙ forgot.late ∙ took.3 none_first,
    )

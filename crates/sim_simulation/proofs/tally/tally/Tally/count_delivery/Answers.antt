use Rattle.std.proofs.Common.{ℕ, ◌+◌, set, ap, ◌∙◌, sym, refl, arith}
use Rattle.sim_simulation.specs.Records.{happening_in}
use Rattle.sim_simulation.specs.Totals.{capped}
use Rattle.sim_simulation.specs.Packets.{delivery_of, delivered_to}
use Rattle.sim_simulation.proofs.Summaries.{updated_is, updated_past}
use Rattle.sim_simulation.proofs.Tallies.{delivery_more}
use Rattle.sim_simulation.proofs.tally.tally.Tally.count_delivery.Goals as goal

-- the summary of its packet has one delivery more
pub returns-then-carried-len-clause-counts : goal.returns-then-carried-len-clause-counts
returns-then-carried-len-clause-counts c = λ ps fs ds one has.
    let old = c.args.self.now in
    let items = old.sends.items in
    let k = c.args.carried.send in
    let moment = c.args.done.now.moment in
    let first = c.in_ok-first.first in
    let x = c.index-summary.result.now in
    delivery_more old _ (delivery_of (happening_in c.args.done.now) c.args.carried) first ps fs ds
    (ap (λ s. set items k s) (c.with_delivery.ensures
    ∙ ap (λ (n : ℕ). delivered_to n first moment x) c.hops.ensures)
    ∙ updated_is k (delivered_to (capped (c.args.carried.depth + 1)) first moment) items x
    (omega (arith, c.if-carried-len.true)) c.index-summary.ensures)
    refl refl c.in_ok-first.ensures.added c.in_ok-first.ensures.updates.0 one has

-- there is no such summary
pub returns-else-carried-len-clause-counts : goal.returns-else-carried-len-clause-counts
returns-else-carried-len-clause-counts c = λ ps fs ds one has.
    let old = c.args.self.now in
    let k = c.args.carried.send in
    let first = c.in_ok-first.first in
    delivery_more old _ (delivery_of (happening_in c.args.done.now) c.args.carried) first ps fs ds
    (sym (updated_past k 0 (delivered_to (capped (c.args.carried.depth + 1)) first
    c.args.done.now.moment) old.sends.items (omega (arith, c.if-carried-len.false))))
    refl refl c.in_ok-first.ensures.added c.in_ok-first.ensures.updates.0 one has

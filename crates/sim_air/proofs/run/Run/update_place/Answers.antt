use Rattle.std.proofs.Common.{◌≡◌, ◌∙◌, Some, sym, rules}
use Rattle.sim_queue.proofs.Counts.{stand_still}
use Rattle.sim_air.proofs.run.Run.update_place.Goals as goal

pub returns-else-not-stood_at-clause-standings : goal.returns-else-not-stood_at-clause-standings
returns-else-not-stood_at-clause-standings c = λ before stand same was.
    let is : c.args.stood ≡ Some c.in-Some.place = search rules in
    stand_still before c.args.self.now.world.stations c.args.self.now.standings.order.items
    c.args.number (sym was ∙ is ∙ sym c.in-Some.is ∙ c.place_of.ensures) stand same

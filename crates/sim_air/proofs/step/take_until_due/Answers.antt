use Rattle.std.proofs.Common.{◌≤◌, subst, sym}
use Rattle.its_world.specs.State.{WorldState}
use Rattle.sim_air.proofs.Going.{stays}
use Rattle.sim_air.proofs.step.take_until_due.Goals as goal

pub returns-clause-kept : goal.returns-clause-kept
returns-clause-kept g c = λ kept.
    subst (λ (w : WorldState). w.released ≤ c.args.lowest) (sym c.release_due.ensures.world)
    (c.in_ok-take_own.ensures.kept kept)

pub returns-clause-going : goal.returns-clause-going
returns-clause-going g c = λ grows configs past h.
    stays grows c.take_own.new.run.world c.release_due.new.self.world
    (g.S.EventSink.Took c.take_own.new.sink) (g.S.EventSink.Took c.release_due.new.sink)
    c.release_due.ensures.world c.in_ok-release_due.ensures.told configs past
    (c.in_ok-take_own.ensures.going grows configs past h)

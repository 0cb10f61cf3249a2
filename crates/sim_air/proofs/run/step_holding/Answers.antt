use Rattle.std.proofs.Common.{[], ◌∷◌, ◌++◌}
use Rattle.its_world.specs.Events.{event_of}
use Rattle.sim_air.proofs.Under.{told_on}
use Rattle.sim_air.proofs.run.step_holding.Goals as goal

pub returns-clause-run : goal.returns-clause-run
returns-clause-run g c = λ configs events h.
    told_on configs (events ++ event_of c.args.event.now ∷ []) c.do_event_holding.new.world
    (g.S.EventSink.Took c.do_event_holding.new.sink) (g.S.EventSink.Took c.note_dropped.new.sink)
    c.in_ok-note_dropped.ensures.told (c.in_ok-entry.ensures.run configs events h)

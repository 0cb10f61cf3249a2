use Rattle.std.proofs.Common.{[], ◌∷◌, ◌++◌, ap, ◌∙◌}
use Rattle.its_model.specs.World.{WorldModel, opening, world_run, entries}
use Rattle.its_world.specs.Events.{event_of}
use Rattle.sim_simulation.proofs.Told.{told_more}
use Rattle.sim_simulation.proofs.step.do_event_holding.Goals as goal

pub returns-clause-run : goal.returns-clause-run
returns-clause-run g c = λ configs events before.
    let e = event_of c.args.event.now in
    told_more configs events e c.args.world.now c.step.new.self c.in_ok-entry.entry
    (g.S.EventSink.Took c.args.sink.now) (g.S.EventSink.Took c.put_event.new.sink)
    (λ w h. c.in_ok-entry.ensures.step w h c.requires.kept) c.runs_go_on.ensures
    (c.every_schedule.ensures configs (events ++ e ∷ []))
    (λ log took. c.in_ok-put_event.ensures events log took)
    before

pub returns-clause-entry : goal.returns-clause-entry
returns-clause-entry g c = λ configs events before.
    let e = event_of c.args.event.now in
    let done = c.in_ok-entry.ensures.step (world_run (opening configs) events) before.stands
    c.requires.kept in
    record {
      answer = done.1;
      tells = done.2;
      last = ap (λ (v : WorldModel). entries v.log)
          (c.runs_go_on.ensures (opening configs) events (e ∷ [])) ∙ done.3;
    }

use Rattle.std.proofs.Common.{map, take, ◌++◌, sym, ap, subst, ◌∙◌}
use Rattle.its_model.specs.World.{WorldModel, opening, world_run, entries}
use Rattle.its_world.specs.State.{RepresentsWorld}
use Rattle.its_world.specs.Events.{event_of}
use Rattle.its_world.proofs.world.World.run.Goals as goal

pub returns-clause-run : goal.returns-clause-run
returns-clause-run c = λ configs past stood kept. (
    let events = map event_of (take c.run_all.result.done c.args.events.now) in
    let on = c.runs_go_on.ensures (opening configs) past events in
    let run = c.run_all.ensures.run (world_run (opening configs) past) stood kept in
    record {
      stands = subst (RepresentsWorld c.run_all.new.self) (sym on) run.stands;
      answers = run.answers;
      grown = ap (λ (w : WorldModel). entries w.log) on ∙ run.grown;
      told = run.told;
      laws = c.every_schedule.ensures configs (past ++ events);
    })

use Rattle.std.proofs.Common.{rules, ◌≡◌, [], List}
use Rattle.std.specs.List.{list_all}
use Rattle.its_model.specs.World.{Event}
use Rattle.its_world.specs.Entries.{Entry, was_done}
use Rattle.sim_runs.specs.Runs.{run_status}
use Rattle.sim_runs.proofs.Following.{run_follows}
use Rattle.sim_runs.proofs.sinks.RunSinks.run.Goals as goal
use Rattle.sim_runs.proofs.sinks.RunSinks.run.Goals.{in-Ok+in_ok-end_whole-in-Ok}
use Rattle.sim_runs.proofs.sinks.RunSinks.run.Goals.{in-Err+then-is_cut_short+in_ok-end-in-Err}
use Rattle.sim_runs.proofs.sinks.RunSinks.run.Goals.{in-Err+else-is_cut_short}

-- the sinks took the entries of just this run
pub returns : goal.returns
returns g c =
    let course = c.args.course.now in
    let start : c.args.self.now.all_done ≡ list_all was_done [] = search rules in
    record {
      ends = elim c.match-run_timeline.branch [
        | in-Ok+in_ok-end_whole-in-Ok w ↦ rw w.result-is (
          w.in-Ok.field-0,
          run_follows course.scenario.now.timeline course.scenario.now w.in-Ok.field-0
              (λ (events : List Event) (log : List Entry).
              c.run_timeline.new.sink.all_done ≡ list_all was_done log)
              (λ (events : List Event) (log : List Entry).
              w.status.result ≡ run_status course.options.now.strict log)
              (λ events log same. w.status.ensures.run log same) (w.in-Ok.ensures start),
        )
        | in-Err+then-is_cut_short+in_ok-end-in-Err w ↦ rw w.result-is tt
        | in-Err+else-is_cut_short w ↦ rw w.result-is tt
      ];
    }

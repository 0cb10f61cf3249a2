use Rattle.std.proofs.Common.{[], ◌∷◌, ◌++◌, sym, subst}
use Rattle.its_model.specs.World.{opening, world_run}
use Rattle.its_world.specs.Events.{config_of}
use Rattle.its_world.specs.State.{RepresentsWorld}
use Rattle.sim_air.proofs.run.Run.add_station.Goals as goal

pub returns-clause-late : goal.returns-clause-late
returns-clause-late c = λ configs events h there.
    let late = config_of c.args.config.now in
    record {
      stands =
          subst (RepresentsWorld c.add_station.new.self)
          (sym (c.late_stations_were_there.ensures configs late events there))
          (c.in_ok-add_station.ensures.added (world_run (opening configs) events) h.stands);
      laws = c.every_schedule.ensures (configs ++ late ∷ []) events;
    }

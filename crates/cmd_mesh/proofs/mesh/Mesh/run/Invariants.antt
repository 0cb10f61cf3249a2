use Rattle.std.proofs.Common.{◌≡◌, List, ◌++◌, length}
use Rattle.std.specs.Vec.Iter.{into_iter_items, into_iter_len}
use Rattle.its_model.specs.Station.{StationModel}
use Rattle.its_world.specs.State.{RepresentStations}
use Rattle.cmd_mesh.proofs.Runs.{RunsTo}
use Rattle.cmd_mesh.proofs.mesh.Mesh.run.Given as goal

-- those that came are the first of the events, and their calls were made
abbrev pub invariant-loop-event : goal.invariant-loop-event
invariant-loop-event g l =
    record {
      all : l.yielded ++ into_iter_items l.event-iterator ≡ l.fn.events.items;
      left : into_iter_len l.event-iterator ≡ length (into_iter_items l.event-iterator);
      run : (models : List StationModel) → RepresentStations l.fn.self.stations.items models
          → RunsTo models l.fn.self.moment l.fn.self.refused l.yielded l.self.stations.items
          l.self.refused l.self.moment;
    }

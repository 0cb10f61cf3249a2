use Rattle.std.proofs.Common.{◌≡◌, List}
use Rattle.its_model.specs.Station.{StationModel}
use Rattle.its_world.specs.State.{RepresentStations}
use Rattle.cmd_mesh.specs.Calls.{HasReceived}
use Rattle.cmd_mesh.proofs.mesh.Mesh.round.Given as goal

-- no call was made but of what came by sockets
abbrev pub invariant-loop-station : goal.invariant-loop-station
invariant-loop-station g l =
    record {
      received : (models : List StationModel) → RepresentStations l.fn.self.stations.items models
          → HasReceived models l.fn.self.moment l.fn.self.refused l.self.stations.items
          l.self.refused;
      moment : l.self.moment ≡ l.fn.self.moment;
    }

use Rattle.std.proofs.Common.{◌≡◌, ℕ, ◌+◌, ◌<◌, List, length}
use Rattle.its_model.specs.Station.{StationModel}
use Rattle.its_world.specs.State.{RepresentStations}
use Rattle.cmd_mesh.specs.Calls.{HasReceivedAt}
use Rattle.cmd_mesh.proofs.mesh.Mesh.ask.Given as goal

-- so many datagrams were received, and the sockets were asked for as many
abbrev pub invariant-loop-count : goal.invariant-loop-count
invariant-loop-count g l =
    record {
      received : (models : List StationModel) → RepresentStations l.fn.self.stations.items models
          → l.station < length l.fn.self.stations.items
          → HasReceivedAt models l.station l.fn.self.moment l.fn.self.refused
          l.self.stations.items l.self.refused l.count;
      moment : l.self.moment ≡ l.fn.self.moment;
      asked : (before : ℕ) → g.S.Sockets.Asked l.fn.self.sockets.now before
          → g.S.Sockets.Asked l.self.sockets.now (before + l.count);
    }

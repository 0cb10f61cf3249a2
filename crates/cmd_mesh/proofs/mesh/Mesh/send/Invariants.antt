use Rattle.std.proofs.Common.{◌≡◌, ℕ}
use Rattle.cmd_mesh.proofs.mesh.Mesh.send.Given as goal

-- the stations are as before, and the sockets were asked for nothing
abbrev pub invariant-loop-to : goal.invariant-loop-to
invariant-loop-to g l =
    record {
      stations : l.self.stations ≡ l.fn.self.stations;
      refused : l.self.refused ≡ l.fn.self.refused;
      moment : l.self.moment ≡ l.fn.self.moment;
      asked : (count : ℕ) → g.S.Sockets.Asked l.fn.self.sockets.now count
          → g.S.Sockets.Asked l.self.sockets.now count;
    }

use Rattle.std.proofs.Common.{◌≡◌}
use Rattle.its_geometry.specs.Nearest.{distances, IsMet}
use Rattle.its_geometry.proofs.nearer.Nearer.take_nearest.Given as goal

abbrev pub invariant-loop-i : goal.invariant-loop-i
invariant-loop-i l = record {
  centre : l.self.centre ≡ l.initial.self.centre;
  met : IsMet l.initial.self.least l.self.least (distances l.initial.self.centre l.places)
      l.i l.found;
}

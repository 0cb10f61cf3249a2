use Rattle.std.proofs.Common.{◌≡◌, ◌<◌, ◌^◌, take}
use Rattle.sim_scenario.specs.Airs.{greatest_moment}
use Rattle.sim_scenario.proofs.events.end.greatest.Given as goal

-- the greatest moment of the file so far
abbrev pub invariant-loop-waiting : goal.invariant-loop-waiting
invariant-loop-waiting l =
    record {
      last : l.last ≡ greatest_moment (take l.waiting-index l.file);
      bound : l.last < 2 ^ 63;
    }

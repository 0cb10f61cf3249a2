use Rattle.std.proofs.Common.{◌≡◌, false}
use Rattle.its_loctable.specs.Sorted.{AreWithoutMid}
use Rattle.its_loctable.proofs.sorted.search.is_in_eight.Given as goal

abbrev pub invariant-loop-i : goal.invariant-loop-i
invariant-loop-i l = l.found ≡ false → AreWithoutMid l.mid l.i l.eight

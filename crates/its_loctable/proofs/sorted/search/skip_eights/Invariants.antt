use Rattle.std.proofs.Common.{◌-◌, ◌≤◌, length}
use Rattle.its_loctable.specs.Sorted.{AreWithoutMid}
use Rattle.its_loctable.proofs.sorted.search.skip_eights.Given as goal

abbrev pub invariant-loop-at : goal.invariant-loop-at
invariant-loop-at l =
    record {
      within : l.at ≤ length l.addresses;
      none : AreWithoutMid l.mid l.at l.addresses;
    }

abbrev pub decreases-loop-at : goal.decreases-loop-at
decreases-loop-at l = length l.addresses - l.at

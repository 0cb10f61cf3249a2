use Rattle.std.proofs.Common.{◌≡◌, true, All, take}
use Rattle.its_loctable.specs.declared.sorted.slot.SortedSlot.{SortedSlot}
use Rattle.its_loctable.specs.Bound.{is_not_below}
use Rattle.its_loctable.proofs.sorted.nearest.Nearest.among.Given as goal

abbrev pub invariant-loop-i : goal.invariant-loop-i
invariant-loop-i l =
    record {
      bound : All (λ (s : SortedSlot). is_not_below l.nearest s ≡ true) (take l.i l.slots);
      since : l.nearest.since ≡ l.fn.since;
      place : l.nearest.place ≡ l.fn.place;
    }

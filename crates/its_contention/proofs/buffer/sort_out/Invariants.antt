use Rattle.std.proofs.Common.{◌≡◌, ◌≤◌, ◌+◌, ◌-◌, Bool, length, drop, vec_capacity}
use Rattle.its_contention.specs.Buffer.{AllStay}
use Rattle.its_contention.specs.Tests.{AreTested}
use Rattle.its_contention.proofs.Sorting.{AreSorted}
use Rattle.its_contention.proofs.buffer.sort_out.Given as goal

abbrev pub invariant-loop-i : goal.invariant-loop-i
invariant-loop-i g l = record {
  held_room : vec_capacity l.held ≡ 64;
  left_room : vec_capacity l.left ≡ 64;
  few : length l.held.items + length l.left.items ≤ 64;
  within : l.i ≤ length l.held.items;
  waiting : AllStay l.copies l.held.items;
  lists : (test : _ → Bool) → AreTested g.C.Fn l.is_copy test l.fn.held.items
      → AreTested g.C.Fn l.is_copy test (drop l.i l.held.items)
      × AreSorted l.copies test l.sender l.fn.held.items l.i l.held.items l.left.items;
}

abbrev pub decreases-loop-i : goal.decreases-loop-i
decreases-loop-i g l = length l.held.items - l.i

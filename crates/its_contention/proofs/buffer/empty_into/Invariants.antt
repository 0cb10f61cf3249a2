use Rattle.std.proofs.Common.{◌≡◌, ◌≤◌, ◌+◌, ◌++◌, length, map, vec_capacity}
use Rattle.its_contention.proofs.buffer.empty_into.Given as goal

abbrev pub invariant-loop-held : goal.invariant-loop-held
invariant-loop-held g l = record {
  held_room : vec_capacity l.held ≡ 64;
  left_room : vec_capacity l.left ≡ 64;
  few : length l.held.items + length l.left.items ≤ 64;
  lists : map (λ h. h.frame) l.fn.held.items ≡ l.left.items ++ map (λ h. h.frame) l.held.items;
}

abbrev pub decreases-loop-held : goal.decreases-loop-held
decreases-loop-held g l = length l.held.items

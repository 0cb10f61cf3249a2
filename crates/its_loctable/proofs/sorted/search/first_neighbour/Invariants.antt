use Rattle.std.proofs.Common.{◌≡◌, ◌&&◌, ltb, find, drop}
use Rattle.its_loctable.specs.declared.sorted.slot.SortedSlot.{SortedSlot}
use Rattle.its_loctable.proofs.sorted.search.first_neighbour.Given as goal

abbrev pub invariant-loop-place : goal.invariant-loop-place
invariant-loop-place l = find (λ (s : SortedSlot). ltb l.now s.until && s.neighbour)
    (drop l.place l.slots) ≡ find (λ (s : SortedSlot). ltb l.now s.until && s.neighbour)
    (drop l.start l.slots)

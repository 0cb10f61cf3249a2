use Rattle.std.proofs.Common.{◌≡◌, ◌&&◌, ltb, find, drop}
use Rattle.its_loctable.specs.declared.sorted.slot.SortedSlot.{SortedSlot}
use Rattle.its_model.specs.Stations.{has_mid}
use Rattle.its_loctable.specs.Sorted.{bare_known}
use Rattle.its_loctable.proofs.sorted.search.place_with_mid.Given as goal

abbrev pub invariant-loop-place : goal.invariant-loop-place
invariant-loop-place l =
    find (λ (s : SortedSlot). ltb l.now s.until && has_mid l.mid (bare_known s))
    (drop l.place l.slots)
    ≡ find (λ (s : SortedSlot). ltb l.now s.until && has_mid l.mid (bare_known s)) l.slots

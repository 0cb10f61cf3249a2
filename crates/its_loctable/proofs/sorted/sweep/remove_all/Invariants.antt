use Rattle.std.proofs.Common.{◌≡◌, ◌+◌, ℕ, All, count_by, eqb}
use Rattle.std.specs.Prelude.{vec_len, vec_capacity}
use Rattle.its_loctable.specs.declared.sorted.slot.SortedSlot.{SortedSlot}
use Rattle.its_loctable.specs.Rows.{HasRow, IsRow}
use Rattle.its_loctable.proofs.sorted.sweep.remove_all.Given as goal

abbrev pub invariant-loop-slots : goal.invariant-loop-slots
invariant-loop-slots l =
    record {
      total : vec_len l.slots + vec_len l.free ≡ vec_len l.initial.slots + vec_len l.initial.free;
      capacity : vec_capacity l.slots ≡ vec_capacity l.initial.slots;
      free_capacity : vec_capacity l.free ≡ vec_capacity l.initial.free;
      slots_rows : (n len : ℕ) → All (HasRow n len) l.initial.slots.items
          → All (HasRow n len) l.slots.items;
      rows : (n len : ℕ) → All (HasRow n len) l.initial.slots.items
          → All (IsRow n len) l.initial.free.items → All (IsRow n len) l.free.items;
      owned : (row : ℕ) → count_by (λ (s : SortedSlot). eqb s.row row) l.slots.items
          + count_by (λ r. eqb r row) l.free.items
          ≡ count_by (λ (s : SortedSlot). eqb s.row row) l.initial.slots.items
          + count_by (λ r. eqb r row) l.initial.free.items;
    }

abbrev pub decreases-loop-slots : goal.decreases-loop-slots
decreases-loop-slots l = vec_len l.slots

use Rattle.std.proofs.Common.{◌≡◌, ◌≤◌, ◌+◌, ℕ, All, count_by, eqb, ltb, take, drop}
use Rattle.std.specs.Prelude.{vec_len, vec_capacity}
use Rattle.std.proofs.lemmas.List.Filters.{FiltersInPlace}
use Rattle.its_loctable.specs.declared.sorted.slot.SortedSlot.{SortedSlot}
use Rattle.its_loctable.specs.Rows.{HasRow, IsRow}
use Rattle.its_loctable.specs.Sorted.{addresses_of}
use Rattle.its_loctable.proofs.sorted.sweep.sweep.Given as goal

abbrev pub invariant-loop-i : goal.invariant-loop-i
invariant-loop-i l =
    record {
      filters : FiltersInPlace (λ (s : SortedSlot). ltb l.now s.until) l.initial.slots.items
          l.slots.items l.kept l.i;
      len : vec_len l.slots ≡ vec_len l.initial.slots;
      capacity : vec_capacity l.slots ≡ vec_capacity l.initial.slots;
      column : l.addresses.items ≡ addresses_of l.slots.items;
      column_capacity : vec_capacity l.addresses ≡ vec_capacity l.initial.addresses;
      total : l.kept + vec_len l.free ≡ l.i + vec_len l.initial.free;
      free_capacity : vec_capacity l.free ≡ vec_capacity l.initial.free;
      ends : All (λ (s : SortedSlot). l.end ≤ s.until) (take l.kept l.slots.items);
      rows : (n len : ℕ) → All (HasRow n len) l.initial.slots.items
          → All (IsRow n len) l.initial.free.items → All (IsRow n len) l.free.items;
      owned : (row : ℕ) → count_by (λ (s : SortedSlot). eqb s.row row) (take l.kept l.slots.items)
          + count_by (λ (s : SortedSlot). eqb s.row row) (drop l.i l.slots.items)
          + count_by (λ r. eqb r row) l.free.items
          ≡ count_by (λ (s : SortedSlot). eqb s.row row) l.initial.slots.items
          + count_by (λ r. eqb r row) l.initial.free.items;
    }

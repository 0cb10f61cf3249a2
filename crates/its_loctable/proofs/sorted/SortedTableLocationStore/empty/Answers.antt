use Rattle.std.proofs.Common.{◌≡◌, true, None, ◌*◌, ◌<◌, ◌≤◌, All, subst, sym, ◌∙◌, [], ap, arith}
use Rattle.std.specs.Prelude.{vec_len}
use Rattle.its_loctable.specs.Content.{Represents}
use Rattle.its_loctable.specs.Bound.{is_within}
use Rattle.its_loctable.specs.Rows.{numbers_at, HasRow, IsRow, AreOwned}
use Rattle.its_loctable.specs.Sorted.{held, bare, addresses_of}
use Rattle.std.proofs.lemmas.List.Elements.{All-same, All-nil, All-weaker}
use Rattle.its_loctable.specs.declared.sorted.slot.SortedSlot.{SortedSlot}
use Rattle.its_loctable.specs.Eager.{is_rising}
use Rattle.its_loctable.proofs.RowLemmas.{row_fits}
use Rattle.its_loctable.proofs.ContentLemmas.{Represents-empty}
use Rattle.its_loctable.proofs.sorted.SortedTableLocationStore.empty.Goals as goal

pub returns-clause-represents : goal.returns-clause-represents
returns-clause-represents c =
    let of = numbers_at c.args.remembered c.in_ok-numbers.numbers.items in
    subst (λ xs. Represents c.args.remembered (held of xs) [] 0)
    (sym c.in_ok-slots.ensures.items) (Represents-empty c.args.remembered)

pub invariant_of-result : goal.invariant_of-result
invariant_of-result c =
    let n = c.args.remembered in
    let len = vec_len c.in_ok-numbers.numbers in
    let none = c.in_ok-slots.ensures.items in
    let free = c.in_ok-free.ensures in
    record {
      rising = ap (λ xs. is_rising (bare xs)) none;
      total = omega (arith, c.in_ok-slots.ensures.len, free.len);
      room = omega (arith, c.in_ok-slots.ensures.exact);
      column = c.in_ok-addresses.ensures.items ∙ ap addresses_of (sym none);
      column_room = omega (arith, c.in_ok-addresses.ensures.exact);
      free_room = free.room;
      some = c.requires.remembered.0;
      rows = All-same (HasRow n len) _ _ none (All-nil (HasRow n len));
      free_rows = subst (λ m. All (IsRow n m) c.in_ok-free.free.items)
          (sym c.in_ok-numbers.ensures.len)
          (All-weaker (λ row. row < c.args.capacity) (IsRow n (c.args.capacity * n))
          (λ row lt. row_fits row c.args.capacity n lt) c.in_ok-free.free.items free.below);
      owned = subst (λ xs. AreOwned xs c.in_ok-free.free.items) (sym none) free.owned;
      ends = All-same (λ (s : SortedSlot). 18446744073709551615 ≤ s.until) _ _ none
          (All-nil (λ (s : SortedSlot). 18446744073709551615 ≤ s.until));
      bound = All-same (λ (s : SortedSlot). is_within None s ≡ true) _ _ none
          (All-nil (λ (s : SortedSlot). is_within None s ≡ true));
    }

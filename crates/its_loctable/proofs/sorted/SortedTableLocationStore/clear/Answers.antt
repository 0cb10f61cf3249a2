use Rattle.std.proofs.Common.{◌≡◌, true, ◌≤◌, sym, ap, subst, ◌∙◌, [], arith}
use Rattle.std.specs.Prelude.{vec_len}
use Rattle.std.proofs.lemmas.List.Elements.{All-same, All-nil}
use Rattle.its_loctable.specs.declared.sorted.slot.SortedSlot.{SortedSlot}
use Rattle.its_loctable.specs.Content.{Represents}
use Rattle.its_loctable.specs.Kept.{numbers_of}
use Rattle.its_loctable.specs.Bound.{is_within}
use Rattle.its_loctable.specs.Rows.{HasRow}
use Rattle.its_loctable.specs.Sorted.{held, bare, addresses_of}
use Rattle.its_loctable.specs.Eager.{is_rising}
use Rattle.its_loctable.proofs.ContentLemmas.{Represents-empty}
use Rattle.its_loctable.proofs.sorted.SortedTableLocationStore.clear.Goals as goal

pub invariant_of-self : goal.invariant_of-self
invariant_of-self c =
    let table = c.args.self.now in
    let all = c.remove_all.ensures in
    record {
      rising = ap (λ xs. is_rising (bare xs)) all.items;
      total = all.total ∙ table.total;
      room = omega (arith, all.capacity, table.room);
      column = c.clear.ensures.items ∙ ap addresses_of (sym all.items);
      column_room = omega (arith, c.clear.ensures.capacity, table.column_room);
      free_room = omega (arith, all.free_capacity, table.free_room);
      some = table.some;
      rows = All-same (HasRow table.remembered (vec_len table.numbers)) _ _ all.items
          (All-nil (HasRow table.remembered (vec_len table.numbers)));
      free_rows = all.rows table.remembered (vec_len table.numbers) table.rows table.free_rows;
      owned = all.owned table.owned;
      ends = All-same (λ (s : SortedSlot). 18446744073709551615 ≤ s.until) _ _ all.items
          (All-nil (λ (s : SortedSlot). 18446744073709551615 ≤ s.until));
      bound = All-same (λ (s : SortedSlot). is_within table.nearest s ≡ true) _ _ all.items
          (All-nil (λ (s : SortedSlot). is_within table.nearest s ≡ true));
    }

pub returns-clause-represents : goal.returns-clause-represents
returns-clause-represents c =
    let table = c.args.self.now in
    subst (λ xs. Represents table.remembered
    (held (numbers_of table) xs) [] 0)
    (sym c.remove_all.ensures.items) (Represents-empty table.remembered)

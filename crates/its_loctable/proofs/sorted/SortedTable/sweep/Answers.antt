use Rattle.std.proofs.Common.{◌≡◌, [], ltb, ap, true, ◌∙◌, arith}
use Rattle.std.specs.Prelude.{vec_len}
use Rattle.std.proofs.lemmas.List.Elements.{All-filter, All-same}
use Rattle.its_loctable.specs.declared.sorted.slot.SortedSlot.{SortedSlot}
use Rattle.its_loctable.specs.Kept.{numbers_of}
use Rattle.its_loctable.specs.Rows.{HasRow}
use Rattle.its_loctable.specs.Bound.{is_within}
use Rattle.its_loctable.specs.Sorted.{held, bare}
use Rattle.its_loctable.specs.Eager.{swept, is_rising}
use Rattle.its_loctable.proofs.EagerLemmas.{rising-true, true-rising, IsRising-swept}
use Rattle.its_loctable.proofs.SortedLemmas.{held-filter}
use Rattle.its_loctable.proofs.sorted.SortedTable.sweep.Goals as goal

pub invariant_of-self : goal.invariant_of-self
invariant_of-self c =
    let table = c.args.self.now in
    let xs = table.slots.items in
    let rest = c.sweep-self.ensures in
    let after = ap bare rest.items ∙ held-filter (λ _. []) c.args.now xs in
    record {
      rising = ap is_rising after ∙ true-rising (swept c.args.now (bare xs))
          (IsRising-swept c.args.now (bare xs) (rising-true (bare xs) table.rising));
      total = rest.total ∙ table.total;
      room = omega (arith, rest.capacity, table.room);
      column = rest.column;
      column_room = omega (arith, rest.column_capacity, table.column_room);
      free_room = omega (arith, rest.free_capacity, table.free_room);
      some = table.some;
      rows = All-same (HasRow table.remembered (vec_len table.numbers)) _ _ rest.items
          (All-filter (λ (s : SortedSlot). ltb c.args.now s.until)
          (HasRow table.remembered (vec_len table.numbers)) xs table.rows);
      free_rows = rest.rows table.remembered (vec_len table.numbers) table.rows table.free_rows;
      owned = rest.owned table.owned;
      ends = rest.ends;
      bound = All-same (λ (s : SortedSlot). is_within table.nearest s ≡ true) _ _ rest.items
          (All-filter (λ (s : SortedSlot). ltb c.args.now s.until)
          (λ (s : SortedSlot). is_within table.nearest s ≡ true) xs table.bound);
    }

pub returns-clause-content : goal.returns-clause-content
returns-clause-content c =
    let table = c.args.self.now in
    let of = numbers_of table in
    ap (held of) c.sweep-self.ensures.items ∙ held-filter of c.args.now table.slots.items

use Rattle.std.proofs.Common.{◌≡◌, ◌≤◌, ◌||◌, ◌∙◌, length, count_by, ltb, leb, sym, ap, arith}
use Rattle.std.specs.List.{list_any}
use Rattle.std.proofs.lemmas.Bool.{le-ltb, eqb-true, lt-leb}
use Rattle.std.proofs.lemmas.List.Sums.{length-filter}
use Rattle.its_loctable.specs.declared.sorted.slot.SortedSlot.{SortedSlot}
use Rattle.its_loctable.proofs.ListLemmas.{has_place}
use Rattle.its_loctable.proofs.SortedLemmas.{filter-lasting}
use Rattle.its_loctable.specs.Kept.{numbers_of}
use Rattle.its_loctable.proofs.sorted.SortedTable.has_place.Goals as goal

pub returns-then-self-now-clause-place : goal.returns-then-self-now-clause-place
returns-then-self-now-clause-place c =
    let table = c.args.self.now in
    let of = numbers_of table in
    let xs = table.slots.items in
    let none = eqb-true _ _ (sym c.is_empty.ensures ∙ c.if-not-is_empty.false) in
    let many : table.capacity ≤ length xs = omega (arith, none, table.total, table.slots.ok.0) in
    let few : length xs ≤ table.capacity = omega (arith, table.total, table.slots.ok.0) in
    c.has_expired.ensures ∙ ap (list_any (λ (s : SortedSlot). leb s.until c.args.now))
    c.deref.ensures.value
    ∙ sym (ap (λ b. b || list_any (λ (s : SortedSlot). leb s.until c.args.now) xs)
    (le-ltb (length xs) table.capacity many))
    ∙ has_place (λ (s : SortedSlot). s.until) c.args.now xs table.capacity few

pub returns-else-self-now-clause-place : goal.returns-else-self-now-clause-place
returns-else-self-now-clause-place c =
    let table = c.args.self.now in
    let of = numbers_of table in
    let xs = table.slots.items in
    let none = eqb-true _ _ (sym c.is_empty.ensures ∙ c.if-not-is_empty.false) in
    let all : length xs ≡ count_by (λ (s : SortedSlot). ltb c.args.now s.until) xs =
    ap length (sym (filter-lasting c.args.now table.first_end xs c.if-self-now.false table.ends))
    ∙ length-filter (λ (s : SortedSlot). ltb c.args.now s.until) xs in
    lt-leb _ _ c.if-self-now.false
    ∙ sym (le-ltb _ _ (omega (arith, none, all, table.total, table.slots.ok.0)))

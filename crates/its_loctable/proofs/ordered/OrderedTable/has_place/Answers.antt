use Rattle.std.proofs.Common.{ℕ, ◌≤◌, ◌||◌, ◌∙◌, length, sym, ap, leb, arith}
use Rattle.std.specs.List.{list_any}
use Rattle.std.proofs.lemmas.Bool.{le-ltb}
use Rattle.its_loctable.specs.declared.slot.Slot.{Slot}
use Rattle.its_loctable.proofs.ListLemmas.{has_place}
use Rattle.its_loctable.proofs.ordered.OrderedTable.has_place.Goals as goal

pub returns-else-len-self-clause-place : goal.returns-else-len-self-clause-place
returns-else-len-self-clause-place c =
    let table = c.args.self.now in
    let es = table.slots.entries in
    let many : table.capacity ≤ length es = omega (arith, c.if-len-self.false, c.len.ensures.len) in
    let few : length es ≤ table.capacity = omega (arith, table.within) in
    c.has_expired.ensures
    ∙ sym (ap (λ b. b || list_any (λ (e : ℕ × Slot). leb e.1.until c.args.now) es)
    (le-ltb (length es) table.capacity many))
    ∙ has_place (λ (e : ℕ × Slot). e.1.until) c.args.now es table.capacity few

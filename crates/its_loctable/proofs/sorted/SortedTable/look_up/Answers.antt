use Rattle.std.proofs.Common.{◌<◌, ◌≤◌, length, true, false, refl, ap, sym, subst, ◌∙◌, arith}
use Rattle.std.proofs.Common.{◌||◌, ltb, is_some}
use Rattle.its_loctable.specs.Heard.{is_noted}
use Rattle.its_loctable.specs.Sorted.{held, bare, addresses_of, IsFoundAt, IsGapFor}
use Rattle.its_loctable.proofs.EagerLemmas.{rising-true}
use Rattle.its_loctable.proofs.SortedLemmas.{found-part, found-room, gap-entry_at, count-held}
use Rattle.its_loctable.proofs.SortedLemmas.{index-at, index-gap}
use Rattle.its_loctable.proofs.VerdictLemmas.{eager_verdict-by, is_noted-none}
use Rattle.its_loctable.specs.Kept.{numbers_of}
use Rattle.its_loctable.proofs.sorted.SortedTable.look_up.Goals as goal

pub returns-then-repeats-clause-verdict : goal.returns-then-repeats-clause-verdict
returns-then-repeats-clause-verdict c =
    let table = c.args.self.now in
    let of = numbers_of table in
    let xs = table.slots.items in
    let a = c.args.heard.now.vector.address in
    let here = subst (λ n. IsFoundAt (addresses_of xs) n c.in-Ok.place) c.address.ensures
    c.in-Ok.ensures.found.0 in
    let part = found-part of xs a c.in-Ok.place c.args.now
    c.index-slot.result.now c.index-slot.ensures (rising-true (bare xs) table.rising) here in
    sym (eager_verdict-by table.capacity (held of xs) c.args.now c.args.heard.now true _
    (ap (λ o. is_noted o c.args.heard.now.number) part ∙ sym c.repeats.ensures
    ∙ c.if-repeats.true) refl)

pub returns-else-repeats-clause-verdict : goal.returns-else-repeats-clause-verdict
returns-else-repeats-clause-verdict c =
    let table = c.args.self.now in
    let of = numbers_of table in
    let xs = table.slots.items in
    let a = c.args.heard.now.vector.address in
    let rising = rising-true (bare xs) table.rising in
    let here = subst (λ n. IsFoundAt (addresses_of xs) n c.in-Ok.place) c.address.ensures
    c.in-Ok.ensures.found.0 in
    let part = found-part of xs a c.in-Ok.place c.args.now c.index-slot.result.now
    c.index-slot.ensures rising here in
    let within : c.in-Ok.place < length xs =
    omega (arith, table.slots.ok.0, c.in-Ok.ensures.found.1) in
    let few : length xs ≤ table.capacity = omega (arith, table.slots.ok.0, table.total) in
    sym (eager_verdict-by table.capacity (held of xs) c.args.now c.args.heard.now false true
    (ap (λ o. is_noted o c.args.heard.now.number) part ∙ sym c.repeats.ensures
    ∙ c.if-repeats.false)
    (found-room of xs a c.in-Ok.place c.args.now table.capacity c.index-slot.result.now rising
    here within few))

pub returns-else-repeats-clause-index : goal.returns-else-repeats-clause-index
returns-else-repeats-clause-index c =
    let table = c.args.self.now in
    let xs = table.slots.items in
    index-at (numbers_of table) xs c.args.heard.now.vector.address c.in-Ok.place _
    table.slots.ok.0
    (subst (λ n. IsFoundAt (addresses_of xs) n c.in-Ok.place) c.address.ensures
    c.in-Ok.ensures.found.0) c.in-Ok.ensures.found.1

pub returns-then-has_place-clause-verdict : goal.returns-then-has_place-clause-verdict
returns-then-has_place-clause-verdict c =
    let table = c.args.self.now in
    let of = numbers_of table in
    let xs = table.slots.items in
    let a = c.args.heard.now.vector.address in
    let here = subst (λ n. IsGapFor (addresses_of xs) n c.in-Err.gap) c.address.ensures
    c.in-Err.ensures.absent.0 in
    let none = gap-entry_at of xs a c.in-Err.gap c.args.now (rising-true (bare xs) table.rising)
    here in
    sym (eager_verdict-by table.capacity (held of xs) c.args.now c.args.heard.now false true
    (is_noted-none _ c.args.heard.now.number none)
    ((λ i. is_some (none i) || ltb (sym (count-held of xs c.args.now) i) table.capacity)
    ∙ sym c.has_place.ensures.place ∙ c.if-has_place.true))

pub returns-then-has_place-clause-index : goal.returns-then-has_place-clause-index
returns-then-has_place-clause-index c =
    let table = c.args.self.now in
    let xs = table.slots.items in
    index-gap (numbers_of table) xs c.args.heard.now.vector.address c.in-Err.gap _
    table.slots.ok.0
    (subst (λ n. IsGapFor (addresses_of xs) n c.in-Err.gap) c.address.ensures
    c.in-Err.ensures.absent.0) c.in-Err.ensures.absent.1

pub returns-else-has_place-clause-verdict : goal.returns-else-has_place-clause-verdict
returns-else-has_place-clause-verdict c =
    let table = c.args.self.now in
    let of = numbers_of table in
    let xs = table.slots.items in
    let a = c.args.heard.now.vector.address in
    let here = subst (λ n. IsGapFor (addresses_of xs) n c.in-Err.gap) c.address.ensures
    c.in-Err.ensures.absent.0 in
    let none = gap-entry_at of xs a c.in-Err.gap c.args.now (rising-true (bare xs) table.rising)
    here in
    sym (eager_verdict-by table.capacity (held of xs) c.args.now c.args.heard.now false false
    (is_noted-none _ c.args.heard.now.number none)
    ((λ i. is_some (none i) || ltb (sym (count-held of xs c.args.now) i) table.capacity)
    ∙ sym c.has_place.ensures.place ∙ c.if-has_place.false))

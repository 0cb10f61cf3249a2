use Rattle.std.proofs.Common.{◌<◌, ◌≤◌, length, true, false, refl, ap, sym, ◌∙◌, arith}
use Rattle.its_loctable.specs.Heard.{is_noted}
use Rattle.its_loctable.specs.Sorted.{held, bare}
use Rattle.its_loctable.proofs.EagerLemmas.{rising-true}
use Rattle.its_loctable.proofs.SortedLemmas.{found-part, found-room}
use Rattle.its_loctable.proofs.VerdictLemmas.{eager_verdict-by}
use Rattle.its_loctable.specs.Kept.{numbers_of}
use Rattle.its_loctable.proofs.sorted.SortedTable.hear_again.Goals as goal

pub returns-then-repeats-clause-answer : goal.returns-then-repeats-clause-answer
returns-then-repeats-clause-answer c =
    let table = c.args.self.now in
    let of = numbers_of table in
    let xs = table.slots.items in
    let part = found-part of xs c.args.heard.now.vector.address c.args.place c.args.now
    c.index.result.now c.index.ensures (rising-true (bare xs) table.rising) c.requires.found in
    sym (eager_verdict-by table.capacity (held of xs) c.args.now c.args.heard.now true _
    (ap (λ o. is_noted o c.args.heard.now.number) part ∙ sym c.repeats.ensures
    ∙ c.if-repeats.true) refl)

pub returns-clause-answer : goal.returns-clause-answer
returns-clause-answer c =
    let table = c.args.self.now in
    let of = numbers_of table in
    let xs = table.slots.items in
    let a = c.args.heard.now.vector.address in
    let rising = rising-true (bare xs) table.rising in
    let part = found-part of xs a c.args.place c.args.now c.index.result.now c.index.ensures rising
    c.requires.found in
    let within : c.args.place < length xs = omega (arith, table.slots.ok.0, c.requires.within) in
    let few : length xs ≤ table.capacity = omega (arith, table.slots.ok.0, table.total) in
    sym (eager_verdict-by table.capacity (held of xs) c.args.now c.args.heard.now false true
    (ap (λ o. is_noted o c.args.heard.now.number) part ∙ sym c.repeats.ensures
    ∙ c.if-repeats.false)
    (found-room of xs a c.args.place c.args.now table.capacity c.index.result.now rising
    c.requires.found within few))

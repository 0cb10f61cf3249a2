use Rattle.std.proofs.Common.{ap, sym, ◌∙◌, arith}
use Rattle.std.proofs.lemmas.Bool.{cond-true, cond-false, lt-ltb, le-ltb}
use Rattle.its_loctable.specs.Heard.{has_number}
use Rattle.its_loctable.specs.Kept.{numbers_of}
use Rattle.its_loctable.specs.Sorted.{bare}
use Rattle.its_loctable.proofs.EagerLemmas.{rising-true}
use Rattle.its_loctable.proofs.SortedLemmas.{found-part, gap-entry_at}
use Rattle.its_loctable.proofs.VerdictLemmas.{has_number-known}
use Rattle.its_loctable.proofs.sorted.SortedTableLocationStore.remembers.Goals as goal

pub returns-then-now-slot : goal.returns-then-now-slot
returns-then-now-slot c = λ history rep.
    let table = c.args.self.now in
    let of = numbers_of table in
    let slot = c.index-slot.result.now in
    let part = found-part of table.slots.items c.args.a c.in-Ok.place c.args.now slot
    c.index-slot.ensures (rising-true (bare table.slots.items) table.rising)
    c.in-Ok.ensures.found.0
    ∙ cond-true _ _ _ (lt-ltb c.args.now slot.until c.if-now-slot.true) in
    c.remembers.ensures
    ∙ ap (λ o. has_number o c.args.number)
    (sym part ∙ rep.live c.args.now c.args.a (omega arith) c.requires)
    ∙ has_number-known table.remembered c.args.a c.args.number c.args.now history

pub returns-else-now-slot : goal.returns-else-now-slot
returns-else-now-slot c = λ history rep.
    let table = c.args.self.now in
    let of = numbers_of table in
    let slot = c.index-slot.result.now in
    let part = found-part of table.slots.items c.args.a c.in-Ok.place c.args.now slot
    c.index-slot.ensures (rising-true (bare table.slots.items) table.rising)
    c.in-Ok.ensures.found.0
    ∙ cond-false _ _ _ (le-ltb c.args.now slot.until c.if-now-slot.false) in
    le-ltb c.args.now slot.until c.if-now-slot.false
    ∙ ap (λ o. has_number o c.args.number)
    (sym part ∙ rep.live c.args.now c.args.a (omega arith) c.requires)
    ∙ has_number-known table.remembered c.args.a c.args.number c.args.now history

pub returns-in-Err : goal.returns-in-Err
returns-in-Err c = λ history rep.
    let table = c.args.self.now in
    let of = numbers_of table in
    ap (λ o. has_number o c.args.number)
    (sym (gap-entry_at of table.slots.items c.args.a _ c.args.now
    (rising-true (bare table.slots.items) table.rising) c.in-Err.ensures.absent.0)
    ∙ rep.live c.args.now c.args.a (omega arith) c.requires)
    ∙ has_number-known table.remembered c.args.a c.args.number c.args.now history

use Rattle.std.proofs.Common.{sym, ◌∙◌}
use Rattle.std.proofs.lemmas.Bool.{cond-true, cond-false, lt-ltb, le-ltb}
use Rattle.its_loctable.specs.Sorted.{bare}
use Rattle.its_loctable.proofs.EagerLemmas.{rising-true}
use Rattle.its_loctable.proofs.SortedLemmas.{found-part, gap-entry_at}
use Rattle.its_loctable.specs.Kept.{numbers_of}
use Rattle.its_loctable.proofs.sorted.SortedTable.live_slot.Goals as goal

pub returns-then-now-slot : goal.returns-then-now-slot
returns-then-now-slot c =
    let table = c.args.self.now in
    let of = numbers_of table in
    let slot = c.index-slot.result.now in
    sym (found-part of table.slots.items c.args.address c.in-Ok.place c.args.now slot
    c.index-slot.ensures (rising-true (bare table.slots.items) table.rising)
    c.in-Ok.ensures.found.0
    ∙ cond-true _ _ _ (lt-ltb c.args.now slot.until c.if-now-slot.true))

pub returns-else-now-slot : goal.returns-else-now-slot
returns-else-now-slot c =
    let table = c.args.self.now in
    let of = numbers_of table in
    let slot = c.index-slot.result.now in
    sym (found-part of table.slots.items c.args.address c.in-Ok.place c.args.now slot
    c.index-slot.ensures (rising-true (bare table.slots.items) table.rising)
    c.in-Ok.ensures.found.0
    ∙ cond-false _ _ _ (le-ltb c.args.now slot.until c.if-now-slot.false))

pub returns-in-Err : goal.returns-in-Err
returns-in-Err c =
    let table = c.args.self.now in
    let of = numbers_of table in
    sym (gap-entry_at of table.slots.items c.args.address _ c.args.now
    (rising-true (bare table.slots.items) table.rising) c.in-Err.ensures.absent.0)

use Rattle.std.proofs.Common.{sym, ap, ◌∙◌, ltb, is_some}
use Rattle.its_loctable.specs.Sorted.{bare}
use Rattle.its_loctable.proofs.EagerLemmas.{rising-true}
use Rattle.its_loctable.proofs.SortedLemmas.{found-part, gap-entry_at, is_some-cond}
use Rattle.its_loctable.specs.Kept.{numbers_of}
use Rattle.its_loctable.proofs.sorted.SortedTable.is_live.Goals as goal

pub returns-in-Ok : goal.returns-in-Ok
returns-in-Ok c =
    let table = c.args.self.now in
    let of = numbers_of table in
    let slot = c.index.result.now in
    is_some-cond (ltb c.args.now slot.until) _
    ∙ sym (ap is_some
    (found-part of table.slots.items c.args.address c.in-Ok.place c.args.now slot c.index.ensures
    (rising-true (bare table.slots.items) table.rising) c.in-Ok.ensures.found.0))

pub returns-in-Err : goal.returns-in-Err
returns-in-Err c =
    let table = c.args.self.now in
    let of = numbers_of table in
    sym (ap is_some
    (gap-entry_at of table.slots.items c.args.address _ c.args.now
    (rising-true (bare table.slots.items) table.rising) c.in-Err.ensures.absent.0))

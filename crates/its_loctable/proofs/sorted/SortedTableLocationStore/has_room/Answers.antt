use Rattle.std.proofs.Common.{sym, ap, ◌∙◌, not, ltb}
use Rattle.its_loctable.specs.Sorted.{held, bare}
use Rattle.its_loctable.proofs.ContentLemmas.{room-is_full, live-is_full, none_from}
use Rattle.its_loctable.proofs.EagerLemmas.{rising-true, apart-rising}
use Rattle.its_loctable.proofs.SortedLemmas.{count-held, rising_by}
use Rattle.its_loctable.specs.Kept.{numbers_of}
use Rattle.its_loctable.proofs.sorted.SortedTableLocationStore.has_room.Goals as goal

pub returns-then-is_live : goal.returns-then-is_live
returns-then-is_live c = λ history rep.
    let table = c.args.self.now in
    let of = numbers_of table in
    c.if-is_live.true
    ∙ sym (ap not
    (live-is_full table.remembered (held of table.slots.items) history
    c.args.now c.args.a table.capacity c.requires rep
    (sym c.is_live.ensures ∙ c.if-is_live.true)))

pub returns-else-is_live : goal.returns-else-is_live
returns-else-is_live c = λ history rep.
    let table = c.args.self.now in
    let of = numbers_of table in
    let xs = table.slots.items in
    c.has_place.ensures.place ∙ ap (λ n. ltb n table.capacity) (count-held of xs c.args.now)
    ∙ room-is_full table.remembered (held of xs) history c.args.now c.args.a
    table.capacity c.requires
    (apart-rising (held of xs)
    (rising_by of xs (rising-true (bare xs) c.has_place.ensures.rising))) rep
    (none_from _ (sym c.is_live.ensures ∙ c.if-is_live.false))

use Rattle.std.proofs.Common.{sym, ap, ◌∙◌, not, ltb}
use Rattle.its_loctable.specs.Ordered.{contained}
use Rattle.its_loctable.proofs.ContentLemmas.{room-is_full, live-is_full, none_from}
use Rattle.its_loctable.proofs.OrderedLemmas.{count-contained, apart-contained}
use Rattle.its_loctable.proofs.ordered.OrderedTableLocationStore.has_room.Goals as goal

pub returns-then-is_live : goal.returns-then-is_live
returns-then-is_live c = λ history rep.
    c.if-is_live.true
    ∙ sym (ap not
    (live-is_full c.args.self.now.remembered (contained c.args.self.now.slots.entries) history
    c.args.now c.args.a c.args.self.now.capacity c.requires rep
    (sym c.is_live.ensures ∙ c.if-is_live.true)))

pub returns-else-is_live : goal.returns-else-is_live
returns-else-is_live c = λ history rep.
    let es = c.args.self.now.slots.entries in
    c.has_place.ensures.place ∙ ap (λ n. ltb n c.args.self.now.capacity)
    (count-contained es c.args.now)
    ∙ room-is_full c.args.self.now.remembered (contained es) history c.args.now c.args.a
    c.args.self.now.capacity c.requires (apart-contained es c.has_place.ensures.unique) rep
    (none_from _ (sym c.is_live.ensures ∙ c.if-is_live.false))

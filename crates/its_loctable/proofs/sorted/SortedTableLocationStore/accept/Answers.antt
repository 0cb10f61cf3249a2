use Rattle.std.proofs.Common.{◌∷◌, subst, sym, ◌∙◌}
use Rattle.its_loctable.specs.Content.{Represents}
use Rattle.its_loctable.specs.Heard.{reception}
use Rattle.its_loctable.specs.Sorted.{held, bare}
use Rattle.its_loctable.proofs.EagerAccept.{accepted}
use Rattle.its_loctable.proofs.VerdictLemmas.{eager_verdict-verdict}
use Rattle.its_loctable.proofs.SortedLemmas.{rising_by}
use Rattle.its_loctable.proofs.EagerLemmas.{rising-true, apart-rising}
use Rattle.its_loctable.specs.Kept.{kept, numbers_of}
use Rattle.its_loctable.proofs.sorted.SortedTableLocationStore.accept.Goals as goal

pub returns-clause-answer : goal.returns-clause-answer
returns-clause-answer c = λ history rep _.
    let table = c.args.self.now in
    let of = numbers_of table in
    let es = held of table.slots.items in
    c.accept_by.ensures.answer ∙ eager_verdict-verdict table.capacity es c.args.now c.args.h.now
    table.remembered history c.requires rep (apart-rising es
    (rising_by of table.slots.items (rising-true (bare table.slots.items) table.rising)))

pub returns-clause-accepted : goal.returns-clause-accepted
returns-clause-accepted c = λ history rep is.
    let table = c.args.self.now in
    let of = numbers_of table in
    subst (λ n. Represents n (kept c.accept_by.new.self)
    (reception c.args.now c.args.h.now ∷ history) c.args.now)
    (sym c.accept_by.ensures.remembered)
    (accepted table.remembered (held of table.slots.items) _ history c.args.now c.args.h.now
    c.requires
    (rising_by of table.slots.items (rising-true (bare table.slots.items) table.rising)) rep
    (c.accept_by.ensures.accepted is))

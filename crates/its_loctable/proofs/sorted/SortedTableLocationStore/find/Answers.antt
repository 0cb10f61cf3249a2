use Rattle.std.proofs.Common.{◌∙◌}
use Rattle.its_loctable.specs.Sorted.{held, bare}
use Rattle.its_loctable.proofs.EagerLemmas.{rising-true, apart-rising}
use Rattle.its_loctable.proofs.SortedLemmas.{rising_by}
use Rattle.its_loctable.proofs.VerdictLemmas.{eager_verdict-verdict}
use Rattle.its_loctable.specs.Kept.{numbers_of}
use Rattle.its_loctable.proofs.sorted.SortedTableLocationStore.find.Goals as goal

pub returns-clause-verdict : goal.returns-clause-verdict
returns-clause-verdict c = λ history rep.
    let table = c.args.self.now in
    let of = numbers_of table in
    let es = held of table.slots.items in
    c.look_up.ensures.verdict ∙ eager_verdict-verdict table.capacity es c.args.now c.args.h.now
    table.remembered history c.requires rep (apart-rising es
    (rising_by of table.slots.items (rising-true (bare table.slots.items) table.rising)))

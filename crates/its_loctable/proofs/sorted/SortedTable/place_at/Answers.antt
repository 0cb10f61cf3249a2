use Rattle.std.proofs.Common.{subst}
use Rattle.its_loctable.specs.Found.{IsIndexOf}
use Rattle.its_loctable.specs.Kept.{kept, numbers_of}
use Rattle.its_loctable.proofs.SortedLemmas.{found-index, gap-index}
use Rattle.its_loctable.proofs.sorted.SortedTable.place_at.Goals as goal

pub returns-in-At-clause-found : goal.returns-in-At-clause-found
returns-in-At-clause-found c =
    let table = c.args.self.now in
    found-index (numbers_of table) table.slots.items c.args.address c.in-At.place _
    table.slots.ok.0
    (subst (λ i. IsIndexOf (kept table) c.args.address i) c.in-At.is c.requires)

pub returns-in-Gap-clause-absent : goal.returns-in-Gap-clause-absent
returns-in-Gap-clause-absent c =
    let table = c.args.self.now in
    gap-index (numbers_of table) table.slots.items c.args.address c.in-Gap.gap _
    table.slots.ok.0
    (subst (λ i. IsIndexOf (kept table) c.args.address i) c.in-Gap.is c.requires)

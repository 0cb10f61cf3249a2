use Rattle.its_loctable.proofs.SortedLemmas.{absent-found}
use Rattle.its_loctable.proofs.sorted.SortedTable.gap_for.Goals as goal

pub returns-in-Ok-clause-gap : goal.returns-in-Ok-clause-gap
returns-in-Ok-clause-gap c =
    absurd (absent-found c.args.self.now.slots.items c.args.address c.in-Ok.place c.requires
    c.in-Ok.ensures.found.0)

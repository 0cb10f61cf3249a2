use Rattle.std.proofs.Common.{sym}
use Rattle.its_loctable.proofs.SortedLemmas.{swept-lasting}
use Rattle.its_loctable.specs.Kept.{numbers_of}
use Rattle.its_loctable.proofs.sorted.SortedTable.sweep_if_due.Goals as goal

pub returns-else-self-now-clause-content : goal.returns-else-self-now-clause-content
returns-else-self-now-clause-content c =
    let table = c.args.self.now in
    let of = numbers_of table in
    sym (swept-lasting of c.args.now table.first_end table.slots.items c.if-self-now.false
    table.ends)

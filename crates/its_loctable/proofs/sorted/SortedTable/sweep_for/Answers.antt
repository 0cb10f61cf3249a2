use Rattle.std.proofs.Common.{sym}
use Rattle.its_loctable.specs.Sorted.{bare}
use Rattle.its_loctable.specs.Kept.{numbers_of}
use Rattle.its_loctable.proofs.EagerLemmas.{rising-true}
use Rattle.its_loctable.proofs.SortedLemmas.{gap-absent, absent-swept, swept-lasting}
use Rattle.its_loctable.proofs.sorted.SortedTable.sweep_for.Goals as goal

pub gap_for-requires : goal.gap_for-requires
gap_for-requires c =
    let table = c.args.self.now in
    let after = c.sweep.new.self in
    absent-swept (numbers_of table) (numbers_of after) c.args.now table.slots.items
    after.slots.items c.args.address c.sweep.ensures.content
    (gap-absent table.slots.items c.args.address c.args.gap
    (rising-true (bare table.slots.items) table.rising) c.requires.gap)

pub returns-then-now-self-clause-content : goal.returns-then-now-self-clause-content
returns-then-now-self-clause-content c =
    let table = c.args.self.now in
    sym (swept-lasting (numbers_of table) c.args.now table.first_end table.slots.items
    c.if-now-self.true table.ends)

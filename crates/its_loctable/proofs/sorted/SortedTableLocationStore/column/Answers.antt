use Rattle.std.proofs.Common.{sym, ◌∙◌, inr}
use Rattle.its_loctable.specs.Kept.{numbers_of}
use Rattle.its_loctable.proofs.SortedLemmas.{addresses-held}
use Rattle.its_loctable.proofs.sorted.SortedTableLocationStore.column.Goals as goal

pub returns : goal.returns
returns c =
    let table = c.args.self.now in
    inr (c.as_slice.ensures.value ∙ table.column
    ∙ sym (addresses-held (numbers_of table) table.slots.items))

use Rattle.std.specs.Prelude.{vec_len}
use Rattle.its_loctable.proofs.SortedLemmas.{few-held}
use Rattle.its_loctable.proofs.sorted.SortedTableLocationStore.capacity.Goals as goal

pub returns-clause-few : goal.returns-clause-few
returns-clause-few c =
    let table = c.args.self.now in
    few-held table.remembered (vec_len table.numbers) table.numbers.items table.slots.items
    table.rows

use Rattle.its_loctable.proofs.OrderedLemmas.{few-contained}
use Rattle.its_loctable.proofs.ordered.OrderedTableLocationStore.capacity.Goals as goal

pub returns-clause-few : goal.returns-clause-few
returns-clause-few c =
    few-contained c.args.self.now.remembered c.args.self.now.slots.entries c.len-len.ensures.unique
    c.args.self.now.limits

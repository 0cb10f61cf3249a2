use Rattle.std.proofs.Common.{sym, subst}
use Rattle.its_loctable.specs.Sorted.{IsStartAbove}
use Rattle.its_loctable.proofs.AddressLemmas.{start-none}
use Rattle.its_loctable.proofs.sorted.search.start_above.Goals as goal

pub returns-in-None-clause-start : goal.returns-in-None-clause-start
returns-in-None-clause-start c =
    subst (λ o. IsStartAbove c.args.addresses.now o 0) (sym c.in-None.is)
    (start-none c.args.addresses.now)

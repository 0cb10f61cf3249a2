use Rattle.std.proofs.Common.{subst, sym, []}
use Rattle.its_loctable.specs.Content.{Represents}
use Rattle.its_loctable.specs.Ordered.{contained}
use Rattle.its_loctable.proofs.ContentLemmas.{Represents-empty}
use Rattle.its_loctable.proofs.ordered.OrderedTableLocationStore.empty.Goals as goal

pub returns-clause-represents : goal.returns-clause-represents
returns-clause-represents c = subst (λ es. Represents c.args.remembered (contained es) [] 0)
    (sym c.new.ensures.empty) (Represents-empty c.args.remembered)

use Rattle.std.proofs.Common.{subst, sym, []}
use Rattle.its_loctable.specs.Content.{Represents}
use Rattle.its_loctable.specs.Ordered.{contained}
use Rattle.its_loctable.proofs.ContentLemmas.{Represents-empty}
use Rattle.its_loctable.proofs.ordered.OrderedTableLocationStore.clear.Goals as goal

pub returns-clause-represents : goal.returns-clause-represents
returns-clause-represents c =
    subst (λ es. Represents c.args.self.now.remembered (contained es) [] 0)
    (sym c.clear.ensures.empty)
    (Represents-empty c.args.self.now.remembered)

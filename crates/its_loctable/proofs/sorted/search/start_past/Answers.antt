use Rattle.std.proofs.Common.{◌≡◌, subst, suc, ◌+◌, Some, arith}
use Rattle.its_loctable.specs.Sorted.{IsStartAbove}
use Rattle.its_loctable.proofs.AddressLemmas.{start-found, start-gap}
use Rattle.its_loctable.proofs.sorted.search.start_past.Goals as goal

pub returns-in-Ok-clause-start : goal.returns-in-Ok-clause-start
returns-in-Ok-clause-start c =
    let next : suc c.in-Ok.i ≡ c.in-Ok.i + 1 = omega arith in
    subst (λ i. IsStartAbove c.args.addresses.now (Some c.args.address) i) next
    (start-found c.args.addresses.now c.args.address c.in-Ok.i
    c.requires c.in-Ok.ensures.found.0)

pub returns-in-Err-clause-start : goal.returns-in-Err-clause-start
returns-in-Err-clause-start c =
    start-gap c.args.addresses.now c.args.address c.in-Err.i c.in-Err.ensures.absent.0

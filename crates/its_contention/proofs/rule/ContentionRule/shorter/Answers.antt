use Rattle.std.proofs.Common.{◌≡◌, ◌+◌, ◌*◌, ap, refl, arith, ◌∙◌}
use Rattle.its_model.specs.Contention.{ContentionRule as Rule}
use Rattle.its_contention.proofs.Roots.{shorter-found, at_end}
use Rattle.its_contention.proofs.rule.ContentionRule.shorter.Goals as goal

pub returns-clause-value : goal.returns-clause-value
returns-clause-value c =
    let inv = c.loop-over.invariant in
    let next : c.loop-over.over ≡ c.loop-over.fits + 1 = omega arith in
    shorter-found c.args.self.now c.args.distance2 c.args.span c.loop-over.fits c.from.result
    c.from-2.result c.from-3.result (100 * c.from-reach.result) _ c.from.ensures c.from-2.ensures
    c.from-3.ensures
    (ap (λ n. 100 * n) (c.from-reach.ensures ∙ ap (λ (r : Rule). r.range) c.self.view_is))
    c.requires.span refl inv.below
    (at_end c.loop-over.fits c.loop-over.over c.args.span _ _ next inv.above) (omega arith)

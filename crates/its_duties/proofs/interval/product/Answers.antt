use Rattle.std.proofs.Common.{◌≤◌, subst, sym, lit<}
use Rattle.std.specs.Prelude.{ℤ, unsigned_abs}
use Rattle.its_geometry.proofs.SignedLemmas.{product_value, product_bound}
use Rattle.its_duties.proofs.interval.product.Goals as goal

pub returns-clause-value : goal.returns-clause-value
returns-clause-value c =
    product_value c.args.end c.args.factor 137438953472 10000 c.ranges.end c.ranges.factor
    c.requires.end c.requires.factor (lit< tt)

pub returns-clause-bound : goal.returns-clause-bound
returns-clause-bound c = subst (λ (z : ℤ). unsigned_abs z ≤ 1374389534720000)
    (sym (product_value c.args.end c.args.factor 137438953472 10000 c.ranges.end c.ranges.factor
    c.requires.end c.requires.factor (lit< tt)))
    (product_bound c.args.end c.args.factor 137438953472 10000 c.requires.end c.requires.factor)

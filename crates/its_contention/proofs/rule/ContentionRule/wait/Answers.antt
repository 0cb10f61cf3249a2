use Rattle.std.proofs.Common.{ap, ◌-◌}
use Rattle.its_model.specs.Contention.{wait}
use Rattle.its_contention.proofs.rule.ContentionRule.wait.Goals as goal

pub returns-in-Some-clause-value : goal.returns-in-Some-clause-value
unfolding wait
returns-in-Some-clause-value c =
    rw (c.in-Some.is, ← c.self.view_is)
    (cc (c.shorter.ensures.value, c.distance2.ensures.value, c.self.view_is))

pub returns-in-None-clause-value : goal.returns-in-None-clause-value
unfolding wait
returns-in-None-clause-value c =
    rw (c.in-None.is, ← c.self.view_is)
    (ap (λ n. c.self.inside.max_wait - n) c.spread.ensures.value)

use Rattle.std.proofs.Common.{sym, ap, ◌∙◌}
use Rattle.its_duties.specs.Verdicts.{is_fail}
use Rattle.its_duties.proofs.AgainLaws.{relay_again_proof}
use Rattle.its_duties.proofs.once.judge_once.Goals as goal

pub returns-clause-fail_is_proof : goal.returns-clause-fail_is_proof
returns-clause-fail_is_proof c = λ tap j r t all modelled found fails.
    relay_again_proof c.args.claims.now tap j r t c.args.earlier all modelled found
    (ap is_fail (sym c.once_of.ensures) ∙ fails)

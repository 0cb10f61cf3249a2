use Rattle.std.proofs.Common.{sym, ap, ◌∙◌}
use Rattle.its_duties.specs.Verdicts.{is_fail}
use Rattle.its_duties.proofs.NumberLaws.{number_step_proof}
use Rattle.its_duties.proofs.numbers.judge_numbers.Goals as goal

pub returns-clause-fail_is_proof : goal.returns-clause-fail_is_proof
returns-clause-fail_is_proof c = λ tap i j r s t u all modelled is fails.
    number_step_proof c.args.claims.now tap i j r s t u c.args.step all modelled is
    (ap is_fail (sym c.numbers_of.ensures) ∙ fails)

use Rattle.std.proofs.Common.{sym, ap, ◌∙◌}
use Rattle.its_duties.specs.Verdicts.{is_fail}
use Rattle.its_duties.proofs.RelayLaws.{late_proof}
use Rattle.its_duties.proofs.relays.judge_in_time.Goals as goal

pub returns-clause-fail_is_proof : goal.returns-clause-fail_is_proof
returns-clause-fail_is_proof c = λ tap j r t all modelled found fails.
    late_proof c.args.claims.now tap j r t c.args.search all modelled found
    (ap is_fail (sym c.in_time_of.ensures) ∙ fails)

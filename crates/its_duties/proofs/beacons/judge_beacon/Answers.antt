use Rattle.std.proofs.Common.{sym, ap, ◌∙◌}
use Rattle.its_duties.specs.Verdicts.{is_fail}
use Rattle.its_duties.proofs.Waiting.{beacon_proof}
use Rattle.its_duties.proofs.beacons.judge_beacon.Goals as goal

pub returns-clause-fail_is_proof : goal.returns-clause-fail_is_proof
returns-clause-fail_is_proof c = λ tap i j r s t u all modelled is sure fails.
    beacon_proof c.args.claims.now tap i j r s t u c.args.gap.since c.args.gap.sure
    c.args.gap.alone all modelled is sure (ap is_fail (sym c.gap_of.ensures) ∙ fails)

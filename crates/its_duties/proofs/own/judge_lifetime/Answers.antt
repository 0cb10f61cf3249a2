use Rattle.std.proofs.Common.{sym, ap, ◌∙◌}
use Rattle.its_linkframe.specs.Frames.{transmission_of}
use Rattle.its_duties.specs.Verdicts.{is_fail}
use Rattle.its_duties.proofs.OwnLaws.{lifetime_proof}
use Rattle.its_duties.proofs.own.judge_lifetime.Goals as goal

pub returns-clause-fail_is_proof : goal.returns-clause-fail_is_proof
returns-clause-fail_is_proof c = λ tap i r all modelled is fails.
    lifetime_proof c.args.claims.now tap i r (transmission_of c.args.frame.now) all modelled is
    (ap is_fail (sym c.packet_lifetime.ensures) ∙ fails)

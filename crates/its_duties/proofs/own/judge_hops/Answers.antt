use Rattle.std.proofs.Common.{sym, ap, ◌∙◌}
use Rattle.its_linkframe.specs.Frames.{transmission_of}
use Rattle.its_duties.specs.Verdicts.{is_fail}
use Rattle.its_duties.proofs.OwnLaws.{hops_proof}
use Rattle.its_duties.proofs.own.judge_hops.Goals as goal

pub returns-clause-fail_is_proof : goal.returns-clause-fail_is_proof
returns-clause-fail_is_proof c = λ k tap i r all is fails.
    hops_proof k tap i r (transmission_of c.args.frame.now) all is
    (ap is_fail (sym c.hops_of.ensures) ∙ fails)

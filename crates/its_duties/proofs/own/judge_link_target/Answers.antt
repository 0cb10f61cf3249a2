use Rattle.std.proofs.Common.{Bool, sym, ap, ◌∙◌}
use Rattle.its_linkframe.specs.Frames.{transmission_of}
use Rattle.its_duties.specs.Verdicts.{is_fail, link_target_verdict}
use Rattle.its_duties.proofs.OwnLaws.{link_target_proof}
use Rattle.its_duties.proofs.own.judge_link_target.Goals as goal

pub returns-clause-fail_is_proof : goal.returns-clause-fail_is_proof
returns-clause-fail_is_proof c = λ k tap i r all is known fails.
    link_target_proof k tap i r (transmission_of c.args.frame.now) all is
    (ap (λ (b : Bool). is_fail (link_target_verdict b (transmission_of c.args.frame.now))) known
    ∙ ap is_fail (sym c.link_target_of.ensures) ∙ fails)

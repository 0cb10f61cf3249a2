use Rattle.std.proofs.Common.{sym, ◌∙◌}
use Rattle.its_linkframe.specs.Frames.{transmission_of}
use Rattle.its_duties.proofs.InsideLaws.{own_target_proof}
use Rattle.its_duties.proofs.inside.judge_area_target.Goals as goal

pub returns-clause-fail_is_proof : goal.returns-clause-fail_is_proof
returns-clause-fail_is_proof c = λ tap j r v all is known e fails.
    own_target_proof c.args.claims.now tap j r (transmission_of c.args.frame.now) c.args.known_target v
    all is known (sym c.area_target_of.ensures ∙ e) fails

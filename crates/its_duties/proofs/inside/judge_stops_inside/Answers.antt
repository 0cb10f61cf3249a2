use Rattle.std.proofs.Common.{sym, ◌∙◌}
use Rattle.its_linkframe.specs.Frames.{transmission_of}
use Rattle.its_duties.proofs.InsideLaws.{anycast_proof}
use Rattle.its_duties.proofs.inside.judge_stops_inside.Goals as goal

pub returns-clause-fail_is_proof : goal.returns-clause-fail_is_proof
returns-clause-fail_is_proof c = λ tap j r v all is e fails.
    anycast_proof c.args.claims.now tap j r (transmission_of c.args.frame.now) c.args.in_time v all is
    (sym c.stops_inside_of.ensures ∙ e) fails

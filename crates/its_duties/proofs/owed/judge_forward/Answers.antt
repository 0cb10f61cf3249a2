use Rattle.std.proofs.Common.{sym, ◌∙◌}
use Rattle.its_linkframe.specs.Frames.{transmission_of}
use Rattle.its_duties.proofs.FoundLaws.{found_proof}
use Rattle.its_duties.proofs.owed.judge_forward.Goals as goal

pub returns-clause-fail_is_proof : goal.returns-clause-fail_is_proof
returns-clause-fail_is_proof c = λ tap i r n v all modelled found is fails.
    found_proof c.args.claims.now tap i r (transmission_of c.args.frame.now) n c.args.search v all
    modelled found (sym c.relay_owed_of.ensures ∙ is) fails

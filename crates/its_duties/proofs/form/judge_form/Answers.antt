use Rattle.its_duties.proofs.OwnLaws.{form_proof}
use Rattle.its_duties.proofs.form.judge_form.Goals as goal

pub returns-clause-fail_is_proof : goal.returns-clause-fail_is_proof
returns-clause-fail_is_proof c = λ tap i r all is cut octets fails.
    form_proof c.args.claims.now tap i r c.args.cut c.args.octets.now c.form_of.result all is cut
    octets c.form_of.ensures fails

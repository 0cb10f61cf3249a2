use Rattle.its_duties.proofs.AllLaws.{fail_is_proof}
use Rattle.its_duties.proofs.laws.a_fail_is_proof.Goals as goal

pub returns : goal.returns
returns c = fail_is_proof

use Rattle.its_duties.proofs.WireLaws.{missing_proof, another_proof, again_proof}
use Rattle.its_duties.proofs.laws.a_wire_is_decided.Goals as goal

pub returns-clause-missing : goal.returns-clause-missing
returns-clause-missing c = missing_proof

pub returns-clause-another : goal.returns-clause-another
returns-clause-another c = another_proof

pub returns-clause-again : goal.returns-clause-again
returns-clause-again c = again_proof

use Rattle.its_duties.proofs.AskedLaws.{left_out_proof}
use Rattle.its_duties.proofs.laws.nothing_is_left_out.Goals as goal

pub returns : goal.returns
returns c = left_out_proof

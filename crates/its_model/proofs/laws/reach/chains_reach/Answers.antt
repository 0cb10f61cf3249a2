use Rattle.its_model.proofs.Linked.{chains_reach}
use Rattle.its_model.proofs.laws.reach.chains_reach.Goals as goal

pub returns : goal.returns
returns c = chains_reach

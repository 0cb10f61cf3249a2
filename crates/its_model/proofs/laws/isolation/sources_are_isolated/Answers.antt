use Rattle.its_model.proofs.Isolated.{sources_are_isolated}
use Rattle.its_model.proofs.laws.isolation.sources_are_isolated.Goals as goal

pub returns : goal.returns
returns c = sources_are_isolated

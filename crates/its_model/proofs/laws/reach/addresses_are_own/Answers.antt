use Rattle.its_model.proofs.Linked.{addresses_are_own}
use Rattle.its_model.proofs.laws.reach.addresses_are_own.Goals as goal

pub returns : goal.returns
returns c = addresses_are_own

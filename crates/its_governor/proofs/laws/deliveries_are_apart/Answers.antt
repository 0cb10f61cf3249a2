use Rattle.its_governor.proofs.Deliveries.{apart}
use Rattle.its_governor.proofs.laws.deliveries_are_apart.Goals as goal

pub returns : goal.returns
returns c = apart

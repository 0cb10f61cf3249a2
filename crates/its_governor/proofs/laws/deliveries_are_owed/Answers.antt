use Rattle.its_governor.proofs.Deliveries.{owed}
use Rattle.its_governor.proofs.laws.deliveries_are_owed.Goals as goal

pub returns : goal.returns
returns c = owed

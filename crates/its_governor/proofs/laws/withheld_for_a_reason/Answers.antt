use Rattle.its_governor.proofs.Pressure.{withheld}
use Rattle.its_governor.proofs.laws.withheld_for_a_reason.Goals as goal

pub returns : goal.returns
returns c = withheld

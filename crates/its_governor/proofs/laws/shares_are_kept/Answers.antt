use Rattle.its_governor.proofs.Pressure.{shares_kept}
use Rattle.its_governor.proofs.laws.shares_are_kept.Goals as goal

pub returns : goal.returns
returns c = shares_kept

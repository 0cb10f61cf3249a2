use Rattle.its_governor.proofs.Forwarding.{sources_stay}
use Rattle.its_governor.proofs.laws.sources_stay_bounded.Goals as goal

pub returns : goal.returns
returns c = sources_stay

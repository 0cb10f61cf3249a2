use Rattle.its_governor.proofs.Forwarding.{forwards_bounded}
use Rattle.its_governor.proofs.laws.forwards_are_bounded.Goals as goal

pub returns : goal.returns
returns c = forwards_bounded

use Rattle.its_station.proofs.Sizes.{short_secured}
use Rattle.its_station.proofs.received.VerifiedFrameReceivedFrame.relay.Goals as goal

pub returns-clause-short : goal.returns-clause-short
returns-clause-short c = short_secured _ c.relay_verified.result c.relay_verified.ensures

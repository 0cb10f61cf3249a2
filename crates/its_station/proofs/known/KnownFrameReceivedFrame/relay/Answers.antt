use Rattle.its_station.proofs.Sizes.{short_frame}
use Rattle.its_station.proofs.known.KnownFrameReceivedFrame.relay.Goals as goal

pub returns-clause-short : goal.returns-clause-short
returns-clause-short c = short_frame _ c.relay_frame.result c.relay_frame.ensures

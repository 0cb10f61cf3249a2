use Rattle.std.proofs.Common.{subst}
use Rattle.its_linkframe.specs.Frames.{EncodesFrame, transmission_of}
use Rattle.cap_records.proofs.found.FramePlace.view.Goals as goal

pub returns : goal.returns
returns c =
    subst (EncodesFrame (transmission_of c.of_frame.result)) c.octets.ensures c.of_frame.ensures

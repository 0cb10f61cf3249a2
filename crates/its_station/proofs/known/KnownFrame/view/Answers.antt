use Rattle.std.proofs.Common.{◌∙◌}
use Rattle.its_linkframe.specs.Frames.{transmission_of}
use Rattle.its_station.specs.Known.{frame_with}
use Rattle.its_station.proofs.known.KnownFrame.view.Goals as goal

pub returns : goal.returns
returns c =
    let octets = c.self.inside.octets.now in
    c.one_frame.ensures (transmission_of c.of_frame.result)
    (frame_with octets c.self.inside.contents.now) octets c.of_frame.ensures
    c.self.invariant.encodes ∙ c.self.view_is

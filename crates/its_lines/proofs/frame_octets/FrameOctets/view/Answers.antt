use Rattle.std.proofs.Common.{subst, ◌∙◌}
use Rattle.its_linkframe.specs.Frames.{EncodesFrame}
use Rattle.its_lines.proofs.frame_octets.FrameOctets.view.Goals as goal

pub returns : goal.returns
returns c = subst (EncodesFrame _) (c.as_slice.ensures.value ∙ c.self.view_is) c.of_frame.ensures

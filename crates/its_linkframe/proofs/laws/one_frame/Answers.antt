use Rattle.its_linkframe.proofs.FrameLaws.{one_frame_lem}
use Rattle.its_linkframe.proofs.laws.one_frame.Goals as goal

pub returns : goal.returns
returns c = one_frame_lem

use Rattle.its_linkframe.proofs.CapturesRead.{one_capture_lem}
use Rattle.its_linkframe.proofs.laws.one_capture.Goals as goal

pub returns : goal.returns
returns c = one_capture_lem

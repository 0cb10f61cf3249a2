use Rattle.its_model.proofs.Givers.{delivered_is}
use Rattle.its_model.proofs.laws.runs.a_line_has_its_frame.Goals as goal

pub returns : goal.returns
returns c = delivered_is

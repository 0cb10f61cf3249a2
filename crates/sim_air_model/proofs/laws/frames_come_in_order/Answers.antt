use Rattle.sim_air_model.proofs.InLine.{frames_come_in_order}
use Rattle.sim_air_model.proofs.laws.frames_come_in_order.Goals as goal

pub returns : goal.returns
returns c = frames_come_in_order

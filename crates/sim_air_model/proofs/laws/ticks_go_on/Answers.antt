use Rattle.sim_air_model.proofs.Ticks.{ticks_go_on}
use Rattle.sim_air_model.proofs.laws.ticks_go_on.Goals as goal

pub returns : goal.returns
returns c = ticks_go_on

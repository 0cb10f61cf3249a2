use Rattle.sim_air_model.proofs.Ticks.{ticks_are_due}
use Rattle.sim_air_model.proofs.laws.ticks_are_due.Goals as goal

pub returns : goal.returns
returns c = ticks_are_due

use Rattle.sim_air_model.proofs.Carried.{reaches_in_air}
use Rattle.sim_air_model.proofs.laws.reaches_in_air.Goals as goal

pub returns : goal.returns
returns c = reaches_in_air

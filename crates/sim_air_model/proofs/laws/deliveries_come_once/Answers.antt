use Rattle.sim_air_model.proofs.Once.{delivers_once}
use Rattle.sim_air_model.proofs.laws.deliveries_come_once.Goals as goal

pub returns : goal.returns
returns c = delivers_once

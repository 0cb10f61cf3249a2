use Rattle.sim_air_model.proofs.Heard.{deliveries_are_heard}
use Rattle.sim_air_model.proofs.laws.deliveries_are_heard.Goals as goal

pub returns : goal.returns
returns c = deliveries_are_heard

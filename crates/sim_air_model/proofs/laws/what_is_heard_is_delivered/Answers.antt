use Rattle.sim_air_model.proofs.Heard.{what_is_heard_is_delivered}
use Rattle.sim_air_model.proofs.laws.what_is_heard_is_delivered.Goals as goal

pub returns : goal.returns
returns c = what_is_heard_is_delivered

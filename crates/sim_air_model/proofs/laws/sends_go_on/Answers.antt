use Rattle.sim_air_model.proofs.Sends.{sends_go_on}
use Rattle.sim_air_model.proofs.laws.sends_go_on.Goals as goal

pub returns : goal.returns
returns c = sends_go_on

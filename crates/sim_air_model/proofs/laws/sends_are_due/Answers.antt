use Rattle.sim_air_model.proofs.Sends.{sends_are_due}
use Rattle.sim_air_model.proofs.laws.sends_are_due.Goals as goal

pub returns : goal.returns
returns c = sends_are_due

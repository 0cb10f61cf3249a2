use Rattle.sim_air_model.proofs.Logs.{logs_never_fall}
use Rattle.sim_air_model.proofs.laws.logs_never_fall.Goals as goal

pub returns : goal.returns
returns c = logs_never_fall

use Rattle.sim_air_model.proofs.OneRun.{one_run}
use Rattle.sim_air_model.proofs.laws.one_run.Goals as goal

pub returns : goal.returns
returns c = one_run

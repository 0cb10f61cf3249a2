use Rattle.sim_air_model.proofs.Moments.{moments_never_fall}
use Rattle.sim_air_model.proofs.laws.moments_never_fall.Goals as goal

pub returns : goal.returns
returns c = moments_never_fall

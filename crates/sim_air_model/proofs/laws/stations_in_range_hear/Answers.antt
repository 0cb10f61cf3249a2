use Rattle.sim_air_model.proofs.Carried.{stations_in_range_hear}
use Rattle.sim_air_model.proofs.laws.stations_in_range_hear.Goals as goal

pub returns : goal.returns
returns c = stations_in_range_hear

use Rattle.its_world.proofs.Late.{were_there}
use Rattle.its_world.proofs.laws.late_stations_were_there.Goals as goal

pub returns : goal.returns
returns c = were_there

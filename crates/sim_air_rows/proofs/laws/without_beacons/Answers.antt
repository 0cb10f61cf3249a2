use Rattle.sim_air_rows.specs.FourStations.{four, file, rules_without, lines_without}
use Rattle.sim_air_rows.proofs.Evaluated.{without_beacons}
use Rattle.sim_air_rows.proofs.Taken.{runs_take}
use Rattle.sim_air_rows.proofs.laws.without_beacons.Goals as goal

pub returns-clause-lines : goal.returns-clause-lines
returns-clause-lines c = without_beacons

pub returns-clause-taken : goal.returns-clause-taken
returns-clause-taken c = runs_take rules_without four file lines_without without_beacons

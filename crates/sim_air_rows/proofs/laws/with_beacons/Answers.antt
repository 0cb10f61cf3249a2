use Rattle.sim_air_rows.specs.FourStations.{four, file, rules_with, lines_with}
use Rattle.sim_air_rows.proofs.Evaluated.{with_beacons}
use Rattle.sim_air_rows.proofs.Taken.{runs_take}
use Rattle.sim_air_rows.proofs.laws.with_beacons.Goals as goal

pub returns-clause-lines : goal.returns-clause-lines
returns-clause-lines c = with_beacons

pub returns-clause-taken : goal.returns-clause-taken
returns-clause-taken c = runs_take rules_with four file lines_with with_beacons

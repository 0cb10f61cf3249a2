use Rattle.its_model.proofs.StationLemmas.{stations_at-Rises, by_address-stations_at}
use Rattle.its_model.proofs.StationLemmas.{stations_at-is}
use Rattle.its_model.proofs.laws.tables.stations_stand_by_address.Goals as goal

pub returns-clause-rises : goal.returns-clause-rises
returns-clause-rises c = stations_at-Rises

pub returns-clause-each : goal.returns-clause-each
returns-clause-each c = by_address-stations_at

pub returns-clause-only : goal.returns-clause-only
returns-clause-only c = stations_at-is

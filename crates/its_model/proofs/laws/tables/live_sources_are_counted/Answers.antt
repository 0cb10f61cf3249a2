use Rattle.its_model.proofs.StationLaws.{counted, is_full-stations_at}
use Rattle.its_model.proofs.laws.tables.live_sources_are_counted.Goals as goal

pub returns-clause-full : goal.returns-clause-full
returns-clause-full c = is_full-stations_at

pub returns-clause-count : goal.returns-clause-count
returns-clause-count c =
    λ remember moment history sources distinct same.
    counted remember sources moment history distinct same

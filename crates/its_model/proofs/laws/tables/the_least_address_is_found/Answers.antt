use Rattle.std.proofs.Common.{sym, ◌∙◌, arith}
use Rattle.its_model.specs.Stations.{stations_at}
use Rattle.its_model.proofs.StationLemmas.{addr, address-known, stations_at-Rises}
use Rattle.its_model.proofs.StationLemmas.{by_address-stations_at}
use Rattle.its_model.proofs.StationLaws.{found_passes, found_stands, found_least, none_passes}
use Rattle.its_model.proofs.laws.tables.the_least_address_is_found.Goals as goal

pub returns-clause-found : goal.returns-clause-found
returns-clause-found c = λ remember moment history test k found. (
  sym (by_address-stations_at remember moment history (addr k))
      ∙ found_stands test (stations_at remember moment history) k
      (stations_at-Rises remember moment history) found,
  found_passes test (stations_at remember moment history) k found,
)

pub returns-clause-least : goal.returns-clause-least
returns-clause-least c = λ remember moment history test k other source found is passes. (
    let least =
    found_least test (stations_at remember moment history) k other source
    (stations_at-Rises remember moment history) found
    (by_address-stations_at remember moment history source ∙ is) passes in
    omega (arith, least, address-known remember source moment history other is))

pub returns-clause-none : goal.returns-clause-none
returns-clause-none c = λ remember moment history test other source none is.
    none_passes test (stations_at remember moment history) other source none
    (by_address-stations_at remember moment history source ∙ is)

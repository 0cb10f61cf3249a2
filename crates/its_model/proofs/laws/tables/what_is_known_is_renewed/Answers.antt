use Rattle.its_model.proofs.Renewal.{known_nothing, known_own, known_other, known_stays}
use Rattle.its_model.proofs.Renewal.{is_some-known}
use Rattle.its_model.proofs.StationLemmas.{address-known}
use Rattle.its_model.proofs.laws.tables.what_is_known_is_renewed.Goals as goal

pub returns-clause-nothing : goal.returns-clause-nothing
returns-clause-nothing c = known_nothing

pub returns-clause-own : goal.returns-clause-own
returns-clause-own c = known_own

pub returns-clause-others : goal.returns-clause-others
returns-clause-others c = known_other

pub returns-clause-stays : goal.returns-clause-stays
returns-clause-stays c = known_stays

pub returns-clause-live : goal.returns-clause-live
returns-clause-live c = is_some-known

pub returns-clause-address : goal.returns-clause-address
returns-clause-address c =
    λ remember source moment history k is. address-known remember source moment history k is

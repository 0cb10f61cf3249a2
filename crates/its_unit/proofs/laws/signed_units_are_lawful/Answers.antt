use Rattle.its_unit.proofs.Signed.{delivers_as_sealed, forwards_as_sealed, signed_units_run}
use Rattle.its_unit.proofs.Signed.{floods_bounded, change_nothing}
use Rattle.its_unit.proofs.SignedReleases.{releases_as_sealed}
use Rattle.its_unit.proofs.SignedRunsOnce.{accepts_once}
use Rattle.its_unit.proofs.laws.signed_units_are_lawful.Goals as goal

pub returns-clause-delivered : goal.returns-clause-delivered
returns-clause-delivered c = delivers_as_sealed

pub returns-clause-forwarded : goal.returns-clause-forwarded
returns-clause-forwarded c = forwards_as_sealed

pub returns-clause-released : goal.returns-clause-released
returns-clause-released c = releases_as_sealed

pub returns-clause-units : goal.returns-clause-units
returns-clause-units c = signed_units_run

pub returns-clause-bounded : goal.returns-clause-bounded
returns-clause-bounded c = floods_bounded

pub returns-clause-unchanged : goal.returns-clause-unchanged
returns-clause-unchanged c = change_nothing

pub returns-clause-once : goal.returns-clause-once
returns-clause-once c = accepts_once

-- A unit that begins.
use Rattle.std.proofs.Common.{◌≡◌, refl, subst, sym}
use Rattle.std.specs.Prelude.{IfOk, None, Ok, Err, Result}
use Rattle.its_gnvalue.specs.declared.fault.NoMemory.{NoMemory}
use Rattle.its_governor.specs.Governing.{IsNewGovernor}
use Rattle.its_governor.specs.declared.rate.Limits.{Limits}
use Rattle.its_model.specs.Station.{StationModel}
use Rattle.its_station.specs.State.{RepresentsStation, StationState}
use Rattle.its_unit.specs.Unit.{UnitState}
use Rattle.cmd_stats.specs.Units.{BeginsUnit}

-- it has its station, and represents the unit of the model that does
pub begins : (limits : Limits) (s : StationModel) (station : StationState)
    (made : Result UnitState NoMemory) → RepresentsStation station s
    → IfOk made (λ u. u.station ≡ station) → IfOk made (λ u. IsNewGovernor limits u.governor)
    → IfOk made (λ u. u.contention ≡ None) → IfOk made (BeginsUnit limits s)
begins limits s station (Err e) rep same within none = tt
begins limits s station (Ok u) rep same within none = (
  record { station = s; contention = None; governor = u.governor },
  record { station = refl; contention = refl; governor = within },
  record {
    station = subst (λ (t : StationState). RepresentsStation t s) (sym same) rep;
    contention = sym none;
    governor = refl;
  },
)

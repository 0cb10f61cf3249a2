-- A call that doesn't run out of memory makes the station of its step, refused or not.
use Rattle.std.proofs.Common.{◌≢◌, refl}
use Rattle.std.specs.Prelude.{Result, Ok, Err}
use Rattle.its_model.specs.Calls.{Answer}
use Rattle.its_model.specs.Packet.{Transmission}
use Rattle.its_model.specs.Station.{Step}
use Rattle.its_station.specs.declared.refused.Refused.{Refused}
use Rattle.its_station.specs.declared.refused.Refused.TheVariants as refused
use Rattle.its_station.specs.State.{StationState, RepresentsStation}
use Rattle.its_station.specs.Steps.{IsStepOf}

pub station_after : {T : Type 0} (Tells : T → Answer Transmission → Type 0) (said : Result T Refused)
    (new : StationState) (step : Step) → said ≢ Err refused.NoMemory
    → IsStepOf Tells said new step → RepresentsStation new step.station
station_after Tells (Ok x) new step some is = is.1
station_after Tells (Err refused.MomentEarlier) new step some is = is.1
station_after Tells (Err refused.MomentTooLate) new step some is = is.1
station_after Tells (Err refused.JitterRange) new step some is = is.1
station_after Tells (Err (refused.Frame fault)) new step some is = is.1
station_after Tells (Err (refused.Secured fault)) new step some is = is.1
station_after Tells (Err (refused.Port fault)) new step some is = is.1
station_after Tells (Err refused.PayloadTooLong) new step some is = is.1
station_after Tells (Err refused.HopLimitZero) new step some is = is.1
station_after Tells (Err refused.TableFull) new step some is = is.1
station_after Tells (Err refused.NoMemory) new step some is = absurd (some refl)

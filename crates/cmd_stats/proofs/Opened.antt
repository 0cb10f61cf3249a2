-- One more port that is opened.
use Rattle.std.proofs.Common.{◌≡◌, ◌≢◌, ℕ, List, [], ◌∷◌, ◌++◌, refl, ap, ◌∙◌}
use Rattle.std.proofs.Common.{map, Ok, Err}
use Rattle.std.specs.Prelude.{Result}
use Rattle.its_model.specs.Calls.{Answer, Own, Opened}
use Rattle.its_model.specs.Packet.{Transmission}
use Rattle.its_model.specs.Calls.OwnCall.{Open}
use Rattle.its_model.specs.Isolation.{TimedCall, station_run}
use Rattle.its_model.specs.Station.{StationModel, Step, station_step}
use Rattle.its_station.specs.State.{StationState, RepresentsStation}
use Rattle.its_station.specs.Steps.{IsStepOf, Says}
use Rattle.its_station.specs.declared.refused.Refused.{Refused}
use Rattle.its_station.specs.declared.refused.Refused.TheVariants as refused
use Rattle.cmd_stats.specs.Units.{opening, with_open}

-- whatever is answered but want of memory, the station is that after the step
pub stands_by : {T : Type 0} (says : T → Answer Transmission → Type 0) (answer : Result T Refused)
    (new : StationState) (step : Step) → IsStepOf says answer new step
    → answer ≢ Err refused.NoMemory → RepresentsStation new step.station
stands_by says (Ok x) new step is not = is.1
stands_by says (Err refused.MomentEarlier) new step is not = is.1
stands_by says (Err refused.MomentTooLate) new step is not = is.1
stands_by says (Err refused.JitterRange) new step is not = is.1
stands_by says (Err (refused.Frame fault)) new step is not = is.1
stands_by says (Err (refused.Secured fault)) new step is not = is.1
stands_by says (Err (refused.Port fault)) new step is not = is.1
stands_by says (Err refused.PayloadTooLong) new step is not = is.1
stands_by says (Err refused.HopLimitZero) new step is not = is.1
stands_by says (Err refused.TableFull) new step is not = is.1
stands_by says (Err refused.NoMemory) new step is not = absurd (not refl)

-- the same of a port that is opened
pub stands_after : {T : Type 0} (answer : Result T Refused) (new : StationState) (step : Step)
    → IsStepOf (Says Opened) answer new step → answer ≢ Err refused.NoMemory
    → RepresentsStation new step.station
stands_after answer new step is not = stands_by (Says Opened) answer new step is not

map_last : (ports : List ℕ) (port : ℕ)
    → map opening (ports ++ port ∷ []) ≡ map opening ports ++ opening port ∷ []
map_last [] port = refl
map_last (p ∷ ports) port = ap (λ l. opening p ∷ l) (map_last ports port)

-- one more port is one more call
pub open_last : (s : StationModel) (ports : List ℕ) (port : ℕ)
    → ((m : StationModel) (first next : List TimedCall) →
    station_run m (first ++ next) ≡ station_run (station_run m first) next)
    → with_open s (ports ++ port ∷ [])
    ≡ (station_step (with_open s ports) 0 (Own (Open port))).station
open_last s ports port go_on =
    ap (station_run s) (map_last ports port) ∙ go_on s (map opening ports) (opening port ∷ [])

-- What a call of a station is in the model.
use Rattle.std.specs.Prelude.{◌≡◌, Option, Some, None, Result, Ok, Err, IfSome}
use Rattle.its_model.specs.Packet.{Transmission}
use Rattle.its_model.specs.Calls as model
use Rattle.its_model.specs.Calls.{Answer, Refusal}
use Rattle.its_model.specs.Station.{Step}
use Rattle.its_btp.specs.declared.ports.PortFault.{PortFault}
use Rattle.its_btp.specs.declared.ports.PortFault.TheVariants as ports
use Rattle.its_station.specs.declared.refused.Refused.{Refused}
use Rattle.its_station.specs.declared.refused.Refused.TheVariants as refused
use Rattle.its_station.specs.State.{StationState, RepresentsStation}

-- what a fault of a port is in the model
abbrev pub port_refusal : PortFault → Refusal
port_refusal ports.AlreadyOpen = model.Refusal.AlreadyOpen
port_refusal ports.Full = model.Refusal.PortsFull
port_refusal ports.NotOpen = model.Refusal.NotOpen

-- what a refusal is in the model, which never runs out of memory
abbrev pub refusal_of : Refused → Option Refusal
refusal_of refused.MomentEarlier = Some model.Refusal.MomentEarlier
refusal_of refused.MomentTooLate = Some model.Refusal.MomentTooLate
refusal_of refused.JitterRange = Some model.Refusal.JitterRange
refusal_of (refused.Frame fault) = Some (model.Refusal.BadFrame fault)
refusal_of (refused.Secured fault) = Some (model.Refusal.BadSecured fault)
refusal_of (refused.Port fault) = Some (port_refusal fault)
refusal_of refused.PayloadTooLong = Some model.Refusal.PayloadTooLong
refusal_of refused.HopLimitZero = Some model.Refusal.HopLimitZero
refusal_of refused.TableFull = Some model.Refusal.TableFull
refusal_of refused.NoMemory = None

-- the refusal that is answered, if there is one
abbrev pub refusal_in : {T : Type 0} → Result T Refused → Option Refusal
refusal_in (Ok x) = None
refusal_in (Err e) = refusal_of e

-- a refusal is the step's answer, and the station stands after it, unless an allocation failed
abbrev pub IsRefusedStep : Refused → StationState → Step → Type 0
IsRefusedStep e new step =
    IfSome (refusal_of e) (λ refusal. (step.answer ≡ model.Answer.Refused refusal)
    × RepresentsStation new step.station)

-- The answer and the station afterwards are those of the model's step, unless an allocation failed.
abbrev pub IsStepOf : {T : Type 0} → (T → Answer Transmission → Type 0) → Result T Refused
    → StationState → Step → Type 0
IsStepOf says (Ok x) new step = says x step.answer × RepresentsStation new step.station
IsStepOf says (Err e) new step = IsRefusedStep e new step

-- whatever is answered, it is this
abbrev pub Says : {T : Type 0} → Answer Transmission → T → Answer Transmission → Type 0
Says this x answer = answer ≡ this

-- What a call of a unit is in the model.
use Rattle.std.specs.Prelude.{◌≡◌, false, Result, Ok, Err, IfSome}
use Rattle.std.specs.Prelude.{ℕ, Vec}
use Rattle.std.specs.declared.alloc.Global.{Global}
use Rattle.its_headers.specs.declared.kind.Kind.{Kind}
use Rattle.its_model.specs.Packet.{Transmission}
use Rattle.its_model.specs.Calls as model
use Rattle.its_model.specs.Calls.{Answer}
use Rattle.its_station.specs.Counting.{counted_outcome, counted_accepted, counted_refusal, counted_sent}
use Rattle.its_station.specs.Counting.{one_more}
use Rattle.its_station.specs.Receiving.{Encoded, TellsBy}
use Rattle.its_station.specs.Requests.{TellsSent}
use Rattle.its_station.specs.Steps.{refusal_of}
use Rattle.its_station.specs.declared.counts.Counts.{Counts}
use Rattle.its_station.specs.declared.outcome.Outcome.{Outcome}
use Rattle.its_station.specs.declared.refused.Refused.{Refused}
use Rattle.std.specs.Prelude.{Option, Some}
use Rattle.std.specs.Option.{option_map}
use Rattle.its_gnvalue.specs.declared.fault.NoMemory.{NoMemory}
use Rattle.its_station.specs.Answers.{StationAnswer}
use Rattle.its_station.specs.declared.answer.Answer.TheVariants as answers
use Rattle.its_contention.specs.Buffer.{Buffer, cleared}
use Rattle.its_contention.specs.Waiting.{Waiting}
use Rattle.its_governor.specs.Governing.{after_call, governed, is_repeated_in}
use Rattle.its_governor.specs.declared.governor.Governor.{Governor}
use Rattle.its_governor.specs.declared.receiver.Receiver.{Receiver}
use Rattle.its_unit.specs.declared.limiting.Limiting.{Limiting}
use Rattle.its_unit.specs.declared.outcome.UnitOutcome.{UnitOutcome}
use Rattle.its_unit.specs.declared.outcome.UnitOutcome.TheVariants as outcomes
use Rattle.its_unit.specs.declared.outcome.Reaction.{Reaction}
use Rattle.its_unit.specs.declared.unsent.Unsent.{Unsent}
use Rattle.its_unit.specs.declared.unsent.Unsent.TheVariants as unsent
use Rattle.its_unit.specs.Unit.{UnitAnswer, UnitState, UnitStep, RepresentsUnit, answer_by}

-- the answer of the station passed, and it is this
abbrev pub SaysPassed : {T : Type 0} → (T → Answer Transmission → Type 0) → T → UnitAnswer → Type 0
SaysPassed tells x (UnitAnswer.Passed answer) = tells x answer
SaysPassed tells x UnitAnswer.Repeated = ⊥
SaysPassed tells x UnitAnswer.OverRate = ⊥

-- a refusal is the step's answer, and the unit stands after it, unless an allocation failed
abbrev pub IsRefusedStep : Refused → UnitState → UnitStep → Type 0
IsRefusedStep e new step =
    IfSome (refusal_of e)
    (λ refusal. (step.answer ≡ UnitAnswer.Passed (model.Answer.Refused refusal))
    × RepresentsUnit new step.unit)

-- the answer and the unit afterwards are those of the step, unless an allocation failed
abbrev pub IsStepOf : {T : Type 0} → (T → UnitAnswer → Type 0) → Result T Refused → UnitState
    → UnitStep → Type 0
IsStepOf says (Ok x) new step = says x step.answer × RepresentsUnit new step.unit
IsStepOf says (Err e) new step = IsRefusedStep e new step

-- the same of a call that asks for an own packet
abbrev pub IsSendOf : Result (Vec ℕ Global) Unsent → UnitState → UnitStep → Type 0
IsSendOf (Ok w) new step = SaysPassed TellsSent w step.answer × RepresentsUnit new step.unit
IsSendOf (Err (unsent.Refused e)) new step = IsRefusedStep e new step
IsSendOf (Err unsent.OverRate) new step =
    (step.answer ≡ UnitAnswer.OverRate) × RepresentsUnit new step.unit

-- the outcome of a frame that came is this answer
abbrev pub TellsUnit : (Outcome → Answer Transmission → Type 0) → UnitOutcome → UnitAnswer → Type 0
TellsUnit tells (outcomes.Passed outcome) answer = SaysPassed tells outcome answer
TellsUnit tells outcomes.Repeated answer = answer ≡ UnitAnswer.Repeated

-- What came of a frame is what the step says: the answer, when the frame is due that waits, and
-- whether one is cancelled; and the unit stands after it.
abbrev pub IsReactionOf : (Outcome → Answer Transmission → Type 0) → Result Reaction Refused
    → UnitState → UnitStep → Type 0
IsReactionOf tells (Ok r) new step =
    TellsUnit tells r.outcome step.answer × (r.due ≡ step.due) × (r.cancelled ≡ step.cancelled)
    × RepresentsUnit new step.unit
IsReactionOf tells (Err e) new step = IsRefusedStep e new step

-- this holds of the station's outcome, unless the packet was delivered before
abbrev pub WherePassed : (Outcome → Type 0) → UnitOutcome → Type 0
WherePassed Holds (outcomes.Passed outcome) = Holds outcome
WherePassed Holds outcomes.Repeated = Unit {0}

-- the same station, the same frames that wait and the same limits
pub record IsSameUnit (old new : UnitState) : Type 0 where
  pub station : new.station ≡ old.station
  pub contention : new.contention ≡ old.contention
  pub governor : new.governor ≡ old.governor

-- ---- counts

-- by what became of a frame that is not refused
abbrev pub counted_unit : UnitOutcome → Counts → Counts
counted_unit (outcomes.Passed outcome) c = counted_outcome (Ok outcome) c
counted_unit outcomes.Repeated c = counted_accepted false false c

-- by what became of a frame
abbrev pub counted_heard : Result Reaction Refused → Counts → Counts
counted_heard (Ok r) c = counted_unit r.outcome c
counted_heard (Err refused) c = counted_refusal refused c

-- one more received, and what became of it
abbrev pub counted_received : Result Reaction Refused → Counts → Counts
counted_received result c = counted_heard result (record c { received = one_more c.received })

-- by what came of a request for an own packet of this kind; one over its rate is not among these counts
abbrev pub counted_request : Kind → Result (Vec ℕ Global) Unsent → Counts → Counts
counted_request kind (Ok frame) c = counted_sent kind c
counted_request kind (Err (unsent.Refused refused)) c = counted_refusal refused c
counted_request kind (Err unsent.OverRate) c = c

-- ---- words of private functions

-- what the station gives, as the answer to a request
abbrev pub unsent_of : Result (Vec ℕ Global) Refused → Result (Vec ℕ Global) Unsent
unsent_of (Ok frame) = Ok frame
unsent_of (Err refused) = Err (unsent.Refused refused)

-- ---- calls past the limits

-- past the limits nothing is noted in them
abbrev pub AreKept : Limiting → Governor → Governor → Type 0
AreKept Limiting.Within old new = Unit {0}
AreKept Limiting.Past old new = new ≡ old

-- what passes of the outcome of a frame within the limits, or past them: there all of it passes
abbrev pub IsPassedBy : Limiting → Encoded → Governor → Receiver → ℕ → Transmission → Outcome
    → UnitOutcome → Governor → Type 0
IsPassedBy Limiting.Within Encodes old r now t outcome passed new =
    ((a : Answer Transmission) → TellsBy Encodes outcome a → TellsUnit (TellsBy Encodes) passed
    (answer_by (is_repeated_in old now (Some t) a) (governed old r now (Some t) a)))
    × ((a : Answer Transmission) → TellsBy Encodes outcome a
    → new ≡ after_call old r now false (Some t) a)
IsPassedBy Limiting.Past Encodes old r now t outcome passed new =
    (passed ≡ outcomes.Passed outcome) × (new ≡ old)

-- the frames that wait after an answer: a restart drops them
abbrev pub after_line : Result StationAnswer NoMemory → Option (Buffer Waiting)
    → Option (Buffer Waiting)
after_line (Ok answers.Restarted) o = option_map cleared o
after_line (Ok answer) o = o
after_line (Err no_memory) o = o

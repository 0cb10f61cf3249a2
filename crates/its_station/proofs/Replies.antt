-- An answer that owns its octets, to a frame that was received.
use Rattle.std.proofs.Common.{◌≡◌, Option, Some, None, sym, subst, Ok, Err}
use Rattle.std.proofs.lemmas.Bool.{false≢true}
use Rattle.std.specs.Prelude.{Result, IfSome, IsSome, IsSomeAnd}
use Rattle.its_model.specs.Calls as model
use Rattle.its_model.specs.Calls.{Refusal}
use Rattle.its_model.specs.Station.{Step}
use Rattle.its_station.specs.Answers.{IsAnswerOf, IsAnswerTo, StationAnswer}
use Rattle.its_station.specs.Receiving.{TellsAccepted, Tells}
use Rattle.its_station.specs.State.{StationState, RepresentsStation}
use Rattle.its_station.specs.Steps.{IsStepOf, refusal_of}
use Rattle.its_station.specs.declared.outcome.Outcome.{Outcome}
use Rattle.its_station.specs.declared.outcome.Outcome.TheVariants as outcomes
use Rattle.its_station.specs.declared.refused.Refused.{Refused}

-- a refusal that is answered is the step's
pub refused_step : (o : Option Refusal) (new : StationState) (step : Step) → IsSome o
    → IfSome o (λ refusal. (step.answer ≡ model.Answer.Refused refusal)
    × RepresentsStation new step.station)
    → IsSomeAnd o (λ refusal. step.answer ≡ model.Answer.Refused refusal)
    × RepresentsStation new step.station
refused_step None new step some is = absurd (false≢true some)
refused_step (Some refusal) new step some is = is

-- it is the step's answer
pub is_answer : (answer : StationAnswer) (outcome : Result Outcome Refused) (new : StationState)
    (step : Step) → IsAnswerOf answer outcome → IsStepOf Tells outcome new step
    → IsAnswerTo answer new step
is_answer answer (Ok (outcomes.Ignored why)) new step same is =
    subst (λ (r : StationAnswer). IsAnswerTo r new step) (sym same) is
is_answer answer (Ok (outcomes.Accepted lent sent)) new step (handed, same, delivers) is =
    subst (λ (r : StationAnswer). IsAnswerTo r new step) (sym same)
    (subst (λ m. TellsAccepted m sent step.answer) (sym delivers) is.0, is.1)
is_answer answer (Err e) new step same is =
    subst (λ (r : StationAnswer). IsAnswerTo r new step) (sym same.0)
    (refused_step (refusal_of e) new step same.1 is)

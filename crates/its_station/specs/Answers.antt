-- What an answer of a station tells, with octets of its own.
use Rattle.std.specs.Prelude.{◌≡◌, ℕ, ◌≤◌, length, Option, Some, None, Vec}
use Rattle.std.specs.Prelude.{IsSome, IsSomeAnd, Result, Ok, Err}
use Rattle.std.specs.Option.{option_map}
use Rattle.std.specs.declared.alloc.Global.{Global}
use Rattle.its_model.specs.Packet.{Message, Transmission}
use Rattle.its_model.specs.Calls as model
use Rattle.its_model.specs.Station.{Step}
use Rattle.its_station.specs.declared.answer.Answer.{Answer}
use Rattle.its_station.specs.declared.answer.Answer.TheVariants as answers
use Rattle.its_station.specs.declared.answer.Delivery.{Delivery}
use Rattle.its_station.specs.declared.outcome.Handed.{Handed}
use Rattle.its_station.specs.declared.outcome.Outcome.{Outcome}
use Rattle.its_station.specs.declared.outcome.Outcome.TheVariants as outcomes
use Rattle.its_station.specs.declared.refused.Refused.{Refused}
use Rattle.its_station.specs.State.{StationState, RepresentsStation}
use Rattle.its_station.specs.Steps.{refusal_of}
use Rattle.its_station.specs.Requests.{TellsSent}
use Rattle.its_station.specs.Receiving.{TellsAccepted, said_by, why_of}

-- an answer of a station, with the octets of the frame that it sends
abbrev pub StationAnswer : Type 0
StationAnswer = Answer (Vec ℕ Global) Refused

-- the message that was delivered
abbrev pub delivered : Delivery → Message
delivered d = record { port = d.port; info = d.info; payload = d.payload.items }

-- the answer is this one of the model
abbrev pub TellsAnswer : Answer (Vec ℕ Global) Refused → model.Answer Transmission → Type 0
TellsAnswer answers.Moved answer = answer ≡ model.Answer.Moved
TellsAnswer answers.Opened answer = answer ≡ model.Answer.Opened
TellsAnswer answers.Closed answer = answer ≡ model.Answer.Closed
TellsAnswer answers.Restarted answer = answer ≡ model.Answer.Restarted
TellsAnswer answers.Quiet answer = answer ≡ model.Answer.Quiet
TellsAnswer (answers.Sent frame) answer = TellsSent frame answer
TellsAnswer (answers.Ignored why) answer = answer ≡ model.Answer.Ignored (why_of why)
TellsAnswer (answers.Accepted handed sent) answer =
    TellsAccepted (option_map delivered handed) sent answer
TellsAnswer (answers.Refused refused) answer =
    IsSomeAnd (refusal_of refused) (λ refusal. answer ≡ model.Answer.Refused refusal)

-- the answer and the station afterwards are those of the step
abbrev pub IsAnswerTo : StationAnswer → StationState → Step → Type 0
IsAnswerTo answer new step = TellsAnswer answer step.answer × RepresentsStation new step.station

-- the answer has what the outcome has, with octets of its own
abbrev pub Owns : StationAnswer → Outcome → Type 0
Owns answer (outcomes.Ignored why) = answer ≡ answers.Ignored why
Owns answer (outcomes.Accepted lent sent) =
    (handed : Option Delivery) × (answer ≡ answers.Accepted handed sent)
    × (option_map delivered handed ≡ option_map said_by lent)

-- the answer is what `receive` returned, and no refusal for want of memory
abbrev pub IsAnswerOf : StationAnswer → Result Outcome Refused → Type 0
IsAnswerOf answer (Ok outcome) = Owns answer outcome
IsAnswerOf answer (Err refused) =
    (answer ≡ answers.Refused refused) × IsSome (refusal_of refused)

-- ---- words of private functions

-- what is delivered, if anything is, has room for its payload in so many octets
abbrev pub HandingFits : ℕ → Option Handed → Type 0
HandingFits room None = Unit {0}
HandingFits room (Some h) = length h.payload.now ≤ room

-- what is delivered of this outcome has room in so many octets
abbrev pub Fits : ℕ → Outcome → Type 0
Fits room (outcomes.Ignored why) = Unit {0}
Fits room (outcomes.Accepted handed sent) = HandingFits room handed

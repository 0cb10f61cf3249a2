-- The answer of a unit to a frame that was received.
use Rattle.std.proofs.Common.{◌≡◌, ◌≤◌, ℕ, List, length, length-append, arith, refl, sym, subst, ap}
use Rattle.std.proofs.Common.{Option, Some, None, Result, Ok, Err}
use Rattle.std.proofs.lemmas.Bool.{false≢true}
use Rattle.std.specs.Prelude.{IfOk, IfSome, IsSome}
use Rattle.its_gnvalue.specs.declared.fault.NoMemory.{NoMemory}
use Rattle.its_linkframe.specs.Frames.{EncodesFrame}
use Rattle.its_model.specs.Calls as model
use Rattle.its_model.specs.Calls.{Refusal}
use Rattle.its_station.specs.Answers.{Fits, HandingFits, Owns, StationAnswer, TellsAnswer}
use Rattle.its_station.specs.Receiving.{DeliversEndOf, HandsOutEndOf, IsFrameCall, Tells, TellsAccepted}
use Rattle.its_station.specs.Steps.{refusal_of}
use Rattle.its_station.specs.declared.answer.Answer.TheVariants as answers
use Rattle.its_station.specs.declared.outcome.Handed.{Handed}
use Rattle.its_station.specs.declared.outcome.Outcome.{Outcome}
use Rattle.its_station.specs.declared.outcome.Outcome.TheVariants as outcomes
use Rattle.its_station.specs.declared.refused.Refused.{Refused}
use Rattle.its_unit.specs.Steps.{IsReactionOf, IsRefusedStep, SaysPassed, TellsUnit, WherePassed}
use Rattle.its_unit.specs.Unit.{RepresentsUnit, UnitAnswer, UnitModel, UnitState, UnitStep}
use Rattle.its_unit.specs.declared.outcome.Reaction.{Reaction}
use Rattle.its_unit.specs.declared.outcome.UnitOutcome.{UnitOutcome}
use Rattle.its_unit.specs.declared.outcome.UnitOutcome.TheVariants as units
use Rattle.cmd_stats.specs.Replies.{IsReplyBy, OwnsOutcome, OwnsReaction}
use Rattle.cmd_stats.specs.declared.replay.reply.UnitReply.{UnitReply}
use Rattle.cmd_stats.specs.declared.replay.reply.UnitReply.TheVariants as replies

-- a refusal that is answered is the step's
refused_is : (refused : Refused) (o : Option Refusal) (new : UnitState) (step : UnitStep)
    → refusal_of refused ≡ o → IsSome o
    → IfSome o (λ refusal. (step.answer ≡ UnitAnswer.Passed (model.Answer.Refused refusal))
    × RepresentsUnit new step.unit)
    → IsReplyBy (replies.Passed (answers.Refused refused)) new step
refused_is refused None new step gives some is = absurd (false≢true some)
refused_is refused (Some refusal) new step gives some is = (
  subst (λ (a : UnitAnswer). SaysPassed TellsAnswer (answers.Refused refused) a) (sym is.0)
      (rw gives refl),
  is.1,
)

-- an answer with the octets of an outcome tells what that tells
owned_tells : (reply : StationAnswer) (outcome : Outcome) (answer : UnitAnswer)
    → Owns reply outcome → SaysPassed Tells outcome answer → SaysPassed TellsAnswer reply answer
owned_tells reply (outcomes.Ignored why) (UnitAnswer.Passed answer) same is =
    subst (λ (r : StationAnswer). TellsAnswer r answer) (sym same) is
owned_tells reply (outcomes.Accepted lent sent) (UnitAnswer.Passed answer)
    (handed, same, delivers) is =
    subst (λ (r : StationAnswer). TellsAnswer r answer) (sym same)
    (subst (λ m. TellsAccepted m sent answer) (sym delivers) is)
owned_tells reply outcome UnitAnswer.Repeated same is = absurd is
owned_tells reply outcome UnitAnswer.OverRate same is = absurd is

outcome_tells : (reply : UnitReply) (outcome : UnitOutcome) (new : UnitState)
    (step : UnitStep) → OwnsOutcome reply outcome → TellsUnit Tells outcome step.answer
    → RepresentsUnit new step.unit → IsReplyBy reply new step
outcome_tells (replies.Passed reply) (units.Passed outcome) new step same is rep =
    (owned_tells reply outcome step.answer same is, rep)
outcome_tells (replies.Passed reply) units.Repeated new step same is rep = absurd same
outcome_tells replies.Repeated (units.Passed outcome) new step same is rep = absurd same
outcome_tells replies.Repeated units.Repeated new step same is rep = (is, rep)

-- what is answered of what a unit said is the answer of the step
said_tells : (reply : UnitReply) (said : Result Reaction Refused) (new : UnitState)
    (step : UnitStep) → OwnsReaction reply said → IsReactionOf Tells said new step
    → IsReplyBy reply new step
said_tells reply (Ok r) new step same is = outcome_tells reply r.outcome new step same is.0 is.3
said_tells reply (Err e) new step same is =
    subst (λ (r : UnitReply). IsReplyBy r new step) (sym same.0)
    (refused_is e (refusal_of e) new step refl same.1 is)

pub received_by : (result : Result (UnitReply) NoMemory)
    (said : Result Reaction Refused) (w : List ℕ) (old new : UnitState)
    (step : model.Call → UnitModel → UnitStep)
    → ((call : model.Call) × IsFrameCall w call × ((u : UnitModel) → RepresentsUnit old u
    → IsReactionOf Tells said new (step call u)))
    → IfOk result (λ reply. OwnsReaction reply said)
    → IfOk result (λ reply. (call : model.Call) × IsFrameCall w call × ((u : UnitModel)
    → RepresentsUnit old u → IsReplyBy reply new (step call u)))
received_by (Err e) said w old new step is same = tt
received_by (Ok reply) said w old new step (call, comes, is) same =
    (call, comes, λ u rep. said_tells reply said new (step call u) same (is u rep))

-- what is delivered of octets has room in a buffer of their length
handing_fits : (w : List ℕ) (room : ℕ) (handed : Option Handed) → length w ≤ room
    → HandsOutEndOf w handed → HandingFits room handed
handing_fits w room None few ends = tt
handing_fits w room (Some h) few (front, is) =
    omega (arith, ap length is, length-append front h.payload.now, few)

outcome_fits : (w : List ℕ) (room : ℕ) (o : UnitOutcome) → length w ≤ room
    → WherePassed (DeliversEndOf w) o → WherePassed (Fits room) o
outcome_fits w room (units.Passed (outcomes.Ignored why)) few ends = tt
outcome_fits w room (units.Passed (outcomes.Accepted handed sent)) few ends =
    handing_fits w room handed few ends
outcome_fits w room units.Repeated few ends = tt

pub said_fits : (w : List ℕ) (room : ℕ) (said : Result Reaction Refused) → length w ≤ room
    → IfOk said (λ r. WherePassed (DeliversEndOf w) r.outcome)
    → IfOk said (λ r. WherePassed (Fits room) r.outcome)
said_fits w room (Ok r) few ends = outcome_fits w room r.outcome few ends
said_fits w room (Err e) few ends = ends

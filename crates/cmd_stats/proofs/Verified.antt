-- A secured frame that was received with its plain part.
use Rattle.std.proofs.Common.{◌≡◌, ◌≢◌, ℕ, List, refl, subst, Err, Ok}
use Rattle.std.specs.Prelude.{IsSome, IfSome, Option, Some, None, Result}
use Rattle.std.proofs.lemmas.Bool.{false≢true}
use Rattle.its_model.specs.Calls as model
use Rattle.its_model.specs.Calls.{Refusal}
use Rattle.its_model.specs.Packet.{Transmission}
use Rattle.its_station.specs.Receiving.{IsVerifiedCall, TellsBy, VerifiedCall, sealed_by}
use Rattle.its_station.specs.Steps.{refusal_of}
use Rattle.its_station.specs.declared.outcome.Outcome.{Outcome}
use Rattle.its_station.specs.declared.refused.Refused.{Refused}
use Rattle.its_unit.specs.Steps.{IsReactionOf}
use Rattle.its_unit.specs.Unit.{RepresentsUnit, UnitAnswer, UnitModel, UnitState, UnitStep, step_by}
use Rattle.its_unit.specs.Unit.UnitCall.{ReceiveVerified}
use Rattle.its_unit.specs.declared.limiting.Limiting.{Limiting}
use Rattle.its_unit.specs.declared.outcome.Reaction.{Reaction}
use Rattle.cmd_stats.specs.Replays.{TellsSecured}
use Rattle.cmd_stats.specs.Replies.{OwnsReaction}
use Rattle.cmd_stats.specs.declared.replay.heard.Heard.TheVariants as heards
use Rattle.cmd_stats.specs.declared.replay.reply.UnitReply.{UnitReply}
use Rattle.cmd_stats.specs.declared.replay.secured_octets.SecuredOctets.{SecuredOctets}

-- a refusal that is answered leaves the unit of the step
refused_stands : (o : Option Refusal) (new : UnitState) (step : UnitStep) → IsSome o
    → IfSome o (λ refusal. (step.answer ≡ UnitAnswer.Passed (model.Answer.Refused refusal))
    × RepresentsUnit new step.unit)
    → RepresentsUnit new step.unit
refused_stands None new step some is = absurd (false≢true some)
refused_stands (Some refusal) new step some is = is.1

-- so does whatever is answered
stands_after : (says : Outcome → model.Answer Transmission → Type 0) (reply : UnitReply)
    (said : Result Reaction Refused) (new : UnitState) (step : UnitStep)
    → OwnsReaction reply said → IsReactionOf says said new step → RepresentsUnit new step.unit
stands_after says reply (Ok r) new step owns is = is.3
stands_after says reply (Err e) new step owns is =
    refused_stands (refusal_of e) new step owns.1 is

-- what is told of it, whatever the reply
pub received : (limiting : Limiting) (secured : SecuredOctets) (moment : ℕ) (u : UnitModel)
    (reply : UnitReply) (w plain : List ℕ) (said : Result Reaction Refused) (new : UnitState)
    (call : VerifiedCall) → w ≡ secured.frame.items → IsVerifiedCall w plain call
    → IsReactionOf (TellsBy (sealed_by call)) said new
    (step_by limiting u moment (ReceiveVerified call))
    → OwnsReaction reply said
    → TellsSecured limiting secured moment u (heards.Received moment secured.frame reply) new
received limiting secured moment u reply w plain said new call is came step owns = record {
  told = refl;
  next = (step_by limiting u moment (ReceiveVerified call)).unit;
  received = (
    refl,
    (plain, call, subst (λ (v : List ℕ). IsVerifiedCall v plain call) is came, refl),
  );
  stands = stands_after (TellsBy (sealed_by call)) reply said new
      (step_by limiting u moment (ReceiveVerified call)) owns step;
}

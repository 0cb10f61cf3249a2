-- What a station answers to what is asked of it.
use Rattle.std.proofs.Common.{◌≡◌, ℕ, ◌≤◌, List, length, drop, Option, Some, None, Ok, Err}
use Rattle.std.proofs.Common.{ap, subst, sym, ◌∙◌}
use Rattle.std.specs.Prelude.{Result, MatchResult, IfOk, IsSome, IsSomeAnd, Vec}
use Rattle.std.specs.Option.{option_map}
use Rattle.std.specs.declared.alloc.Global.{Global}
use Rattle.its_gnvalue.specs.declared.fault.NoMemory.{NoMemory}
use Rattle.its_model.specs.Packet.{Transmission}
use Rattle.its_model.specs.Calls.{Answer, Refusal}
use Rattle.its_model.specs.Station.{Step}
use Rattle.its_model.specs.World.{entry_of, frame_of, numbered, with_one_more}
use Rattle.its_station.specs.Receiving.{IsRelay, Tells, said_by}
use Rattle.its_station.specs.declared.outcome.Handed.{Handed}
use Rattle.its_station.specs.declared.outcome.Outcome.TheVariants as outcomes
use Rattle.its_station.specs.declared.outcome.Why.{Why}
use Rattle.its_station.specs.declared.refused.Refused.{Refused}
use Rattle.its_station.specs.declared.refused.Refused.TheVariants as refused
use Rattle.its_station.specs.declared.answer.Answer.TheVariants as entries
use Rattle.its_station.specs.declared.answer.Delivery.{Delivery}
use Rattle.its_station.specs.Answers.{delivered}
use Rattle.its_station.specs.Steps.{IsStepOf, refusal_of}
use Rattle.its_station.proofs.Replies.{refused_step}
use Rattle.its_station.specs.State.{StationState, RepresentsStation}
use Rattle.its_world.specs.declared.entry.EntryFault.TheVariants as faults
use Rattle.its_world.specs.Entries.{Entry, TellsEntry}
use Rattle.its_world.specs.Frames.{AreFrames}
use Rattle.its_world.proofs.Worlds.{kept_last}

-- the frame that was given, if one was, is the last of those that are kept
pub given_numbered : (given : Option (Vec ℕ Global)) (relayed : Option Transmission)
    (released : ℕ) (frames : List (Vec ℕ Global)) (air : List Transmission)
    → released ≤ length air → AreFrames frames (drop released air) → IsRelay given relayed
    → AreFrames (with_one_more frames given) (drop released (with_one_more air relayed))
given_numbered None None released frames air le h is = h
given_numbered None (Some t) released frames air le h is = absurd is
given_numbered (Some w) None released frames air le h is = absurd is
given_numbered (Some w) (Some t) released frames air le h is =
    kept_last released frames air w t le h is

-- ---- a frame that was received

-- the entry, the frame that is sent and the station afterwards are those of the step
pub record IsToldOf (entry : Entry) (sent : Option (Vec ℕ Global)) (n : ℕ) (new : StationState)
    (step : Step) : Type 0 where
  pub told : TellsEntry entry (entry_of n step.answer)
  pub sends : IsRelay sent (frame_of step.answer)
  pub stands : RepresentsStation new step.station

-- it was ignored
pub ignored_told : (why : Why) (n : ℕ) (new : StationState) (step : Step)
    → IsStepOf Tells (Ok (outcomes.Ignored why)) new step
    → IsToldOf (entries.Ignored why) None n new step
ignored_told why n new step is =
    record {
      told = ap (entry_of n) is.0;
      sends = subst (λ (a : Answer Transmission). IsRelay None (frame_of a)) (sym is.0) tt;
      stands = is.1;
    }

-- it was accepted
pub accepted_told : (lent : Option Handed) (sent : Option (Vec ℕ Global))
    (handed : Option Delivery) (number : Option ℕ) (n : ℕ) (new : StationState) (step : Step)
    → IsStepOf Tells (Ok (outcomes.Accepted lent sent)) new step
    → option_map delivered handed ≡ option_map said_by lent
    → ((relayed : Option Transmission) → IsRelay sent relayed → number ≡ numbered n relayed)
    → IsToldOf (entries.Accepted handed number) sent n new step
accepted_told lent sent handed number n new step is delivers numbers =
    let accepted = is.0 in
    record {
      told = ap (entry_of n) accepted.is
          ∙ ap (λ m. Answer.Accepted m (numbered n accepted.relayed)) (sym delivers)
          ∙ ap (Answer.Accepted (option_map delivered handed))
          (sym (numbers accepted.relayed accepted.frame));
      sends = subst (λ (a : Answer Transmission). IsRelay sent (frame_of a)) (sym accepted.is)
          accepted.frame;
      stands = is.1;
    }

-- a refusal has no number and sends no frame
refusal_told : (o : Option Refusal) (n : ℕ) (answer : Answer Transmission)
    → IsSomeAnd o (λ refusal. answer ≡ Answer.Refused refusal)
    → IsSomeAnd o (λ refusal. entry_of n answer ≡ Answer.Refused refusal)
    × IsRelay None (frame_of answer)
refusal_told None n answer is = absurd is
refusal_told (Some refusal) n answer is = (
  ap (entry_of n) is,
  subst (λ (a : Answer Transmission). IsRelay None (frame_of a)) (sym is) tt,
)

-- it was refused
pub refused_told : (e : Refused) (n : ℕ) (new : StationState) (step : Step)
    → IsSome (refusal_of e) → IsStepOf Tells (Err e) new step
    → IsToldOf (entries.Refused (faults.Station e)) None n new step
refused_told e n new step some is =
    let refused = refused_step (refusal_of e) new step some is in
    let told = refusal_told (refusal_of e) n step.answer refused.0 in
    record { told = told.0; sends = told.1; stands = refused.1 }

-- what holds of the entry of a refusal holds, unless an allocation failed
pub refused_entry : (r : Result Entry NoMemory) (e : Refused) (P : Entry → Type 0)
    → MatchResult r
    (λ entry. (entry ≡ entries.Refused (faults.Station e)) × IsSome (refusal_of e))
    (λ _. e ≡ refused.NoMemory)
    → (IsSome (refusal_of e) → P (entries.Refused (faults.Station e))) → IfOk r P
refused_entry (Ok entry) e P is holds = subst P (sym is.0) (holds is.1)
refused_entry (Err n) e P is holds = tt

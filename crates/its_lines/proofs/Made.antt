-- The answer of a unit to a call, and how it is counted.
use Rattle.std.proofs.Common.{◌≡◌, ◌≤◌, ℕ, Bool, List, length, length-append, arith}
use Rattle.std.proofs.Common.{Option, Some, None, Result, Ok, Err, refl, sym, subst, ap, ◌∙◌}
use Rattle.std.proofs.lemmas.Bool.{false≢true}
use Rattle.std.specs.Prelude.{IfOk, IfSome, IsSome, IsSomeAnd, OnErr, Vec}
use Rattle.std.specs.declared.alloc.Global.{Global}
use Rattle.its_station.specs.State.{RepresentsStation, StationState}
use Rattle.its_unit.specs.Releases.{IsReleaseOf, UnitRelease}
use Rattle.its_gnvalue.specs.declared.fault.NoMemory.{NoMemory}
use Rattle.its_headers.specs.declared.kind.Kind.{Kind}
use Rattle.its_model.specs.Calls as model
use Rattle.its_model.specs.Calls.{OwnCall as ModelOwnCall, Refusal}
use Rattle.its_model.specs.Packet.{Transmission}
use Rattle.its_station.specs.Answers.{Fits, HandingFits, Owns, StationAnswer, TellsAnswer}
use Rattle.its_station.specs.Counting.{own_kind}
use Rattle.its_station.specs.Receiving.{DeliversEndOf, Encoded, HandsOutEndOf, TellsAcceptedBy}
use Rattle.its_station.specs.Receiving.{IsFrameCall, IsVerifiedCall, TellsBy, VerifiedCall, sealed_by}
use Rattle.its_station.specs.Runs.{own_of}
use Rattle.its_station.specs.Steps.{refusal_of}
use Rattle.its_station.specs.declared.answer.Answer.TheVariants as answers
use Rattle.its_station.specs.declared.call.OwnCall.{OwnCall}
use Rattle.its_station.specs.declared.counts.Counts.{Counts}
use Rattle.its_station.specs.declared.outcome.Handed.{Handed}
use Rattle.its_station.specs.declared.outcome.Outcome.{Outcome}
use Rattle.its_station.specs.declared.outcome.Outcome.TheVariants as outcomes
use Rattle.its_station.specs.declared.refused.Refused.{Refused}
use Rattle.its_unit.specs.Steps.{IsReactionOf, IsRefusedStep, IsSameUnit, SaysPassed, TellsUnit, WherePassed}
use Rattle.its_unit.specs.declared.outcome.Reaction.{Reaction}
use Rattle.its_unit.specs.Unit.{Own, RepresentsUnit, UnitAnswer, UnitModel, UnitState, UnitStep}
use Rattle.its_unit.specs.Unit.{unit_step}
use Rattle.its_unit.specs.declared.outcome.UnitOutcome.{UnitOutcome}
use Rattle.its_unit.specs.declared.outcome.UnitOutcome.TheVariants as units
use Rattle.its_lines.specs.Within.{IsMadeBy, IsMadeOf, IsMadeOfFrame, IsMadeOfOutcome, TellsHeard}
use Rattle.its_lines.specs.Within.{TellsReaction, counted_made}
use Rattle.its_lines.specs.declared.making.Made.{Made}
use Rattle.its_lines.specs.declared.making.MadeOfFrame.{MadeOfFrame}
use Rattle.its_lines.specs.declared.making.Made.TheVariants as mades

-- a refusal that is answered is the step's
refused_by : (tells : StationAnswer → model.Answer Transmission → Type 0) (reply : StationAnswer)
    (o : Option Refusal) (new : UnitState) (step : UnitStep)
    → ((a : model.Answer Transmission) → IsSomeAnd o (λ refusal. a ≡ model.Answer.Refused refusal)
    → tells reply a)
    → IsSome o
    → IfSome o (λ refusal. (step.answer ≡ UnitAnswer.Passed (model.Answer.Refused refusal))
    × RepresentsUnit new step.unit)
    → SaysPassed tells reply step.answer × RepresentsUnit new step.unit
refused_by tells reply None new step gives some is = absurd (false≢true some)
refused_by tells reply (Some refusal) new step gives some is = (
  subst (λ (a : UnitAnswer). SaysPassed tells reply a) (sym is.0)
      (gives (model.Answer.Refused refusal) refl),
  is.1,
)

pub refused_own : (e : Refused) (new : UnitState) (step : UnitStep) → IsSome (refusal_of e)
    → IsRefusedStep e new step
    → IsMadeBy TellsAnswer (mades.Passed (answers.Refused e)) new step
refused_own e new step some is =
    refused_by TellsAnswer (answers.Refused e) (refusal_of e) new step (λ a told. told) some is

refused_heard : (Encodes : Encoded) (e : Refused) (new : UnitState) (step : UnitStep)
    → IsSome (refusal_of e) → IsRefusedStep e new step
    → IsMadeBy (TellsHeard Encodes) (mades.Passed (answers.Refused e)) new step
refused_heard Encodes e new step some is =
    refused_by (TellsHeard Encodes) (answers.Refused e) (refusal_of e) new step (λ a told. told)
    some is

-- an answer with the octets of an outcome tells what that tells
owned_heard : (Encodes : Encoded) (reply : StationAnswer) (outcome : Outcome)
    (answer : UnitAnswer) → Owns reply outcome → SaysPassed (TellsBy Encodes) outcome answer
    → SaysPassed (TellsHeard Encodes) reply answer
owned_heard Encodes reply (outcomes.Ignored why) (UnitAnswer.Passed answer) same is =
    subst (λ r. TellsHeard Encodes r answer) (sym same) is
owned_heard Encodes reply (outcomes.Accepted lent sent) (UnitAnswer.Passed answer)
    (handed, same, delivers) is =
    subst (λ r. TellsHeard Encodes r answer) (sym same)
    (subst (λ m. TellsAcceptedBy Encodes m sent answer) (sym delivers) is)
owned_heard Encodes reply outcome UnitAnswer.Repeated same is = absurd is
owned_heard Encodes reply outcome UnitAnswer.OverRate same is = absurd is

-- so of a frame that was received, with what it says of the frames that wait
outcome_heard : (Encodes : Encoded) (made : Made) (due : Option ℕ) (cancelled : Bool)
    (outcome : UnitOutcome) (new : UnitState) (step : UnitStep) → IsMadeOfOutcome made outcome
    → TellsUnit (TellsBy Encodes) outcome step.answer → due ≡ step.due
    → cancelled ≡ step.cancelled → RepresentsUnit new step.unit
    → IsMadeBy (TellsHeard Encodes) made new step × TellsReaction made due cancelled step
outcome_heard Encodes (mades.Passed reply) due cancelled (units.Passed (outcomes.Ignored why)) new step
    same is waits cancels rep =
    subst (λ (r : StationAnswer). IsMadeBy (TellsHeard Encodes) (mades.Passed r) new step
    × TellsReaction (mades.Passed r) due cancelled step) (sym same) (
      (owned_heard Encodes (answers.Ignored why) (outcomes.Ignored why) step.answer refl is, rep),
      (waits, cancels),
    )
outcome_heard Encodes (mades.Passed reply) due cancelled
    (units.Passed (outcomes.Accepted lent sent)) new step (handed, same, delivers) is waits cancels rep =
    subst (λ (r : StationAnswer). IsMadeBy (TellsHeard Encodes) (mades.Passed r) new step
    × TellsReaction (mades.Passed r) due cancelled step) (sym same) (
      (
        owned_heard Encodes (answers.Accepted handed sent) (outcomes.Accepted lent sent) step.answer
            (handed, refl, delivers) is,
        rep,
      ),
      (waits, cancels),
    )
outcome_heard Encodes (mades.Passed reply) due cancelled units.Repeated new step same is waits cancels
    rep = absurd same
outcome_heard Encodes mades.Repeated due cancelled (units.Passed outcome) new step same is waits
    cancels rep = absurd same
outcome_heard Encodes mades.Repeated due cancelled units.Repeated new step same is waits cancels rep =
    ((is, rep), (waits, cancels))
outcome_heard Encodes mades.OverRate due cancelled outcome new step same is waits cancels rep =
    absurd same

made_heard : (Encodes : Encoded) (f : MadeOfFrame) (said : Result Reaction Refused)
    (new : UnitState) (step : UnitStep) → IsMadeOf f said
    → IsReactionOf (TellsBy Encodes) said new step → IsMadeOfFrame Encodes f new step
made_heard Encodes f (Ok r) new step same is =
    outcome_heard Encodes f.made f.due f.cancelled r.outcome new step same.0 is.0 (same.1 ∙ is.1)
    (same.2 ∙ is.2) is.3
made_heard Encodes f (Err e) new step same is =
    subst (λ (m : Made). IsMadeBy (TellsHeard Encodes) m new step
    × TellsReaction m f.due f.cancelled step) (sym same.0)
    (refused_heard Encodes e new step same.3 is, (same.1, same.2))

pub received_made : (Encodes : Encoded) (r : Result MadeOfFrame NoMemory)
    (said : Result Reaction Refused) (w : List ℕ) (old new : UnitState)
    (step : model.Call → UnitModel → UnitStep)
    → ((call : model.Call) × IsFrameCall w call × ((u : UnitModel) → RepresentsUnit old u
    → IsReactionOf (TellsBy Encodes) said new (step call u)))
    → IfOk r (λ made. IsMadeOf made said)
    → IfOk r (λ made. (call : model.Call) × IsFrameCall w call × ((u : UnitModel)
    → RepresentsUnit old u → IsMadeOfFrame Encodes made new (step call u)))
received_made Encodes (Err e) said w old new step is same = tt
received_made Encodes (Ok f) said w old new step (call, comes, is) same =
    (call, comes, λ u rep. made_heard Encodes f said new (step call u) same (is u rep))

pub verified_made : (r : Result MadeOfFrame NoMemory) (said : Result Reaction Refused)
    (w plain : List ℕ) (old new : UnitState) (step : VerifiedCall → UnitModel → UnitStep)
    → ((call : VerifiedCall) × IsVerifiedCall w plain call × ((u : UnitModel) → RepresentsUnit old u
    → IsReactionOf (TellsBy (sealed_by call)) said new (step call u)))
    → IfOk r (λ made. IsMadeOf made said)
    → IfOk r (λ made. (call : VerifiedCall) × IsVerifiedCall w plain call × ((u : UnitModel)
    → RepresentsUnit old u → IsMadeOfFrame (sealed_by call) made new (step call u)))
verified_made (Err e) said w plain old new step is same = tt
verified_made (Ok f) said w plain old new step (call, comes, is) same =
    (call, comes, λ u rep. made_heard (sealed_by call) f said new (step call u) same (is u rep))

-- what is delivered of octets has room in a buffer of their length
handing_fits : (w : List ℕ) (room : ℕ) (handed : Option Handed) → length w ≤ room
    → HandsOutEndOf w handed → HandingFits room handed
handing_fits w room None few ends = tt
handing_fits w room (Some h) few (front, is) =
    omega (arith, ap length is, length-append front h.payload.now, few)

outcome_fits : (w : List ℕ) (room : ℕ) (o : UnitOutcome) → length w ≤ room
    → WherePassed (DeliversEndOf w) o → WherePassed (Fits room) o
outcome_fits w room (units.Passed (outcomes.Ignored why)) few ends = tt
outcome_fits w room (units.Passed (outcomes.Accepted handed sent)) few ends =
    handing_fits w room handed few ends
outcome_fits w room units.Repeated few ends = tt

pub received_fits : (w : List ℕ) (room : ℕ) (said : Result Reaction Refused)
    → length w ≤ room → IfOk said (λ r. WherePassed (DeliversEndOf w) r.outcome)
    → IfOk said (λ r. WherePassed (Fits room) r.outcome)
received_fits w room (Ok r) few ends = outcome_fits w room r.outcome few ends
received_fits w room (Err e) few ends = ends

-- it is that of the call that it is in the model
pub own_made : (r : Result Made NoMemory) (call : OwnCall) (own : ModelOwnCall)
    (old new : UnitState) (at : ℕ) → own_of call ≡ own
    → ((u : UnitModel) → RepresentsUnit old u
    → IfOk r (λ made. IsMadeBy TellsAnswer made new (unit_step u at (Own own))))
    → (u : UnitModel) → RepresentsUnit old u
    → IfOk r (λ made. IsMadeBy TellsAnswer made new (unit_step u at (Own (own_of call))))
own_made r call own old new at is made = λ u rep.
    subst (λ (x : ModelOwnCall). IfOk r (λ made. IsMadeBy TellsAnswer made new
    (unit_step u at (Own x)))) (sym is) (made u rep)

-- it is counted by the kind of packet that the call sends
pub own_counts : (r : Result Made NoMemory) (call : OwnCall) (kind : Option Kind)
    (counts noted later : Counts) → own_kind call ≡ kind → later ≡ noted
    → IfOk r (λ made. noted ≡ counted_made kind made counts)
    → IfOk r (λ made. later ≡ counted_made (own_kind call) made counts)
own_counts (Err n) call kind counts noted later is same told = tt
own_counts (Ok made) call kind counts noted later is same told =
    same ∙ told ∙ ap (λ (k : Option Kind). counted_made k made counts) (sym is)

-- the unit after a release represents one of the model
pub released : (said : Result (Option (Vec ℕ Global)) Refused) (old new : UnitState)
    (release : UnitModel → UnitRelease)
    → ((u : UnitModel) → RepresentsUnit old u → IsReleaseOf said new (release u))
    → OnErr said (IsSameUnit old new) → (u : UnitModel) → RepresentsUnit old u
    → (x : UnitModel) × RepresentsUnit new x
released (Ok sent) old new release is same u rep = ((release u).unit, (is u rep).2)
released (Err e) old new release is same u rep = (
  u,
  record {
    station = subst (λ (st : StationState). RepresentsStation st u.station) (sym same.station)
        rep.station;
    contention = rep.contention ∙ sym same.contention;
    governor = rep.governor ∙ sym same.governor;
  },
)

-- A frame by whose answer nothing is forwarded: whether its source was known decides nothing.
use Rattle.std.proofs.Common.{◌≡◌, ℕ, List, Bool, true, false, Option, Some, None, is_some, refl, sym}
use Rattle.std.proofs.Common.{ap, subst, ◌∙◌}
use Rattle.std.proofs.lemmas.Bool.{false≢true}
use Rattle.std.specs.Prelude.{Result, Ok, Err, IfSome, Vec}
use Rattle.std.specs.Option.{option_map}
use Rattle.std.specs.declared.alloc.Global.{Global}
use Rattle.its_model.specs.Packet.{Body, Message, Transmission, beacon, gac, gbc, number_in, shb}
use Rattle.its_model.specs.Calls as model
use Rattle.its_model.specs.Calls.{Answer, Refusal}
use Rattle.its_model.specs.Contention.{Fate}
use Rattle.its_model.specs.Station.{StationModel, Step, Verdict, after_hearing, handing, receive_step}
use Rattle.its_model.specs.Station.{receive_step_by, relayed, station_step, verdict}
use Rattle.its_gnvalue.specs.Values.{mid_of}
use Rattle.its_station.specs.State.{RepresentsStation, StationState}
use Rattle.its_station.specs.Steps.{refusal_of}
use Rattle.its_station.specs.declared.refused.Refused.{Refused}
use Rattle.its_station.specs.Receiving.{Encoded, IsPlaceOf, IsRelayBy, IsVerdictOf}
use Rattle.its_station.specs.Receiving.{TellsBy, said_by}
use Rattle.its_station.specs.declared.looked_up.LookedUp.{LookedUp}
use Rattle.its_station.specs.declared.looked_up.LookedUp.TheVariants as looks
use Rattle.its_station.specs.declared.outcome.Outcome.{Outcome}
use Rattle.its_station.specs.declared.outcome.Outcome.TheVariants as outcomes
use Rattle.its_contention.specs.Buffer.{Buffer}
use Rattle.its_contention.specs.Waiting.{Waiting}
use Rattle.its_governor.specs.Governing.{after_call, governed, is_repeated_in}
use Rattle.its_governor.specs.declared.governor.Governor.{Governor}
use Rattle.its_governor.specs.declared.receiver.Receiver.{Receiver}
use Rattle.its_unit.specs.Contending.{after_frame, applied, at_once, cancels, due_of_frame, fate_in}
use Rattle.its_unit.specs.Contending.{left_of}
use Rattle.its_unit.specs.Steps.{IsPassedBy, IsReactionOf, TellsUnit}
use Rattle.its_unit.specs.Unit.{RepresentsUnit, UnitAnswer, UnitModel, UnitState, UnitStep, answer_by}
use Rattle.its_unit.specs.Unit.{asked, may_forward, step_of_by}
use Rattle.its_unit.specs.declared.limiting.Limiting.{Limiting}
use Rattle.its_unit.specs.declared.outcome.Reaction.{Reaction}
use Rattle.its_unit.specs.declared.outcome.UnitOutcome.{UnitOutcome}
use Rattle.its_unit.proofs.Contended.{reacts_by}

-- by this answer nothing is forwarded
abbrev ForwardsNothing : Answer Transmission → Type 0
ForwardsNothing (model.Answer.Accepted handed (Some relay)) = ⊥
ForwardsNothing (model.Answer.Accepted handed None) = Unit {0}
ForwardsNothing answer = Unit {0}

-- and by this outcome
abbrev SendsNothing : Outcome → Type 0
SendsNothing (outcomes.Accepted handed (Some frame)) = ⊥
SendsNothing (outcomes.Accepted handed None) = Unit {0}
SendsNothing (outcomes.Ignored why) = Unit {0}

-- ---- what contention leaves of it

none_at_once : (f : Fate) → at_once {A = Transmission} None f ≡ None
none_at_once (Fate.Waits due) = refl
none_at_once Fate.Goes = refl
none_at_once Fate.Stays = refl

left_nothing : (o : Option (Buffer Waiting)) (g : Option Governor) (s : StationModel) (now : ℕ)
    (t : Transmission) (a : Answer Transmission) → ForwardsNothing a
    → ForwardsNothing (left_of o g s now t a)
left_nothing None g s now t a h = h
left_nothing (Some b) g s now t (model.Answer.Accepted handed None) h =
    subst (λ (r : Option Transmission). ForwardsNothing (model.Answer.Accepted handed r))
    (sym (none_at_once (fate_in b g s now t None))) tt
left_nothing (Some b) g s now t (model.Answer.Accepted handed (Some relay)) h = absurd h
left_nothing (Some b) g s now t (model.Answer.Sent sent) h = tt
left_nothing (Some b) g s now t model.Answer.Moved h = tt
left_nothing (Some b) g s now t model.Answer.Opened h = tt
left_nothing (Some b) g s now t model.Answer.Closed h = tt
left_nothing (Some b) g s now t model.Answer.Restarted h = tt
left_nothing (Some b) g s now t model.Answer.Quiet h = tt
left_nothing (Some b) g s now t (model.Answer.Ignored why) h = tt
left_nothing (Some b) g s now t (model.Answer.Refused refusal) h = tt

-- ---- an outcome and its answer

none_sent : (E : Encoded) (w : Vec ℕ Global) (handed : Option Message) (r : Option Transmission)
    → IsRelayBy E (Some w) r → ForwardsNothing (model.Answer.Accepted handed r) → ⊥
none_sent E w handed None frame h = absurd frame
none_sent E w handed (Some t) frame h = absurd h

sends_nothing : (E : Encoded) (left : Outcome) (a : Answer Transmission) → TellsBy E left a
    → ForwardsNothing a → SendsNothing left
sends_nothing E (outcomes.Ignored why) a tells h = tt
sends_nothing E (outcomes.Accepted handed None) a tells h = tt
sends_nothing E (outcomes.Accepted handed (Some w)) a tells h =
    absurd (none_sent E w (option_map said_by handed) tells.relayed tells.frame
    (subst (λ (x : Answer Transmission). ForwardsNothing x) tells.is h))

none_relayed : (E : Encoded) (handed : Option Message) (r : Option Transmission)
    → IsRelayBy E None r → ForwardsNothing (model.Answer.Accepted handed r)
none_relayed E handed None frame = tt
none_relayed E handed (Some t) frame = absurd frame

tells_nothing : (E : Encoded) (left : Outcome) (a : Answer Transmission) → SendsNothing left
    → TellsBy E left a → ForwardsNothing a
tells_nothing E (outcomes.Ignored why) a nothing tells =
    subst (λ (x : Answer Transmission). ForwardsNothing x) (sym tells) tt
tells_nothing E (outcomes.Accepted handed None) a nothing tells =
    subst (λ (x : Answer Transmission). ForwardsNothing x) (sym tells.is)
    (none_relayed E (option_map said_by handed) tells.relayed tells.frame)
tells_nothing E (outcomes.Accepted handed (Some w)) a nothing tells = absurd nothing

-- ---- by two receivers

governed_alike : (g : Governor) (q r : Receiver) (now : ℕ) (t : Transmission)
    (a : Answer Transmission) → ForwardsNothing a
    → governed g q now (Some t) a ≡ governed g r now (Some t) a
governed_alike g q r now t (model.Answer.Accepted handed None) h = refl
governed_alike g q r now t (model.Answer.Accepted handed (Some relay)) h = absurd h
governed_alike g q r now t (model.Answer.Sent sent) h = refl
governed_alike g q r now t model.Answer.Moved h = refl
governed_alike g q r now t model.Answer.Opened h = refl
governed_alike g q r now t model.Answer.Closed h = refl
governed_alike g q r now t model.Answer.Restarted h = refl
governed_alike g q r now t model.Answer.Quiet h = refl
governed_alike g q r now t (model.Answer.Ignored why) h = refl
governed_alike g q r now t (model.Answer.Refused refusal) h = refl

after_alike : (g : Governor) (q r : Receiver) (now : ℕ) (t : Transmission)
    (a : Answer Transmission) → ForwardsNothing a
    → after_call g q now false (Some t) a ≡ after_call g r now false (Some t) a
after_alike g q r now t (model.Answer.Accepted handed None) h = refl
after_alike g q r now t (model.Answer.Accepted handed (Some relay)) h = absurd h
after_alike g q r now t (model.Answer.Sent sent) h = refl
after_alike g q r now t model.Answer.Moved h = refl
after_alike g q r now t model.Answer.Opened h = refl
after_alike g q r now t model.Answer.Closed h = refl
after_alike g q r now t model.Answer.Restarted h = refl
after_alike g q r now t model.Answer.Quiet h = refl
after_alike g q r now t (model.Answer.Ignored why) h = refl
after_alike g q r now t (model.Answer.Refused refusal) h = refl

waits_alike : (o : Option (Buffer Waiting)) (g : Option Governor) (s : StationModel) (now : ℕ)
    (say : Transmission → List ℕ) (j k : Bool) (t : Transmission) (a : Answer Transmission)
    → ForwardsNothing a → after_frame o g s now say j t a ≡ after_frame o g s now say k t a
waits_alike o g s now say j k t (model.Answer.Accepted handed None) h = refl
waits_alike o g s now say j k t (model.Answer.Accepted handed (Some relay)) h = absurd h
waits_alike o g s now say j k t (model.Answer.Sent sent) h = refl
waits_alike o g s now say j k t model.Answer.Moved h = refl
waits_alike o g s now say j k t model.Answer.Opened h = refl
waits_alike o g s now say j k t model.Answer.Closed h = refl
waits_alike o g s now say j k t model.Answer.Restarted h = refl
waits_alike o g s now say j k t model.Answer.Quiet h = refl
waits_alike o g s now say j k t (model.Answer.Ignored why) h = refl
waits_alike o g s now say j k t (model.Answer.Refused refusal) h = refl

passed_alike : (l : Limiting) (E : Encoded) (old : Governor) (q r : Receiver) (now : ℕ)
    (t : Transmission) (left : Outcome) (passed : UnitOutcome) (new : Governor) → SendsNothing left
    → IsPassedBy l E old q now t left passed new → IsPassedBy l E old r now t left passed new
passed_alike Limiting.Past E old q r now t left passed new nothing passes = passes
passed_alike Limiting.Within E old q r now t left passed new nothing passes = (
  λ a tells. subst (λ (x : Answer Transmission). TellsUnit (TellsBy E) passed
      (answer_by (is_repeated_in old now (Some t) a) x))
      (governed_alike old q r now t a (tells_nothing E left a nothing tells)) (passes.0 a tells),
  λ a tells. passes.1 a tells
      ∙ after_alike old q r now t a (tells_nothing E left a nothing tells),
)

-- ---- what a look-up says of the answer

unnumbered : (s : StationModel) (now : ℕ) (t : Transmission) (body : Body) → number_in body ≡ None
    → relayed s now t body ≡ None
unnumbered s now t beacon is = refl
unnumbered s now t (shb media message) is = refl
unnumbered s now t (gbc number area message) is = absurd (false≢true (sym (ap is_some is)))
unnumbered s now t (gac number area message) is = absurd (false≢true (sym (ap is_some is)))

by_verdict : (s : StationModel) (now : ℕ) (t : Transmission) (v : Verdict)
    → number_in t.pdu.body ≡ None → ForwardsNothing (receive_step_by s now t v).answer
by_verdict s now t (Verdict.Refuse refusal) is = tt
by_verdict s now t (Verdict.Ignore why) is = tt
by_verdict s now t Verdict.Accept is =
    subst
    (λ (r : Option Transmission). ForwardsNothing (model.Answer.Accepted (handing s t.pdu.body) r))
    (sym (unnumbered (after_hearing s now t) now t t.pdu.body is)) tt

not_forwarded : (s : StationModel) (st : StationState) (now : ℕ) (t : Transmission)
    (looked : LookedUp) → IsVerdictOf (Ok looked) (verdict s now t) → IsPlaceOf looked st now t
    → may_forward looked ≡ false → ForwardsNothing (receive_step s now t).answer
unfolding receive_step
not_forwarded s st now t (looks.Ignored why) found at may =
    subst (λ (v : Verdict). ForwardsNothing (receive_step_by s now t v).answer) (sym found) tt
not_forwarded s st now t (looks.New heard index) found at may =
    by_verdict s now t (verdict s now t)
    (sym (ap (λ h. h.number) at.0) ∙ none heard.number may)
  where
    none : (o : Option ℕ) → is_some o ≡ false → o ≡ None
    none None e = refl
    none (Some n) e = absurd (false≢true (sym e))

-- ---- the step of a unit

-- the reaction to a frame whose source was looked up only if it may be forwarded
pub reacts_to : (l : Limiting) (E : Encoded) (say : Transmission → List ℕ) (u : UnitModel)
    (now : ℕ) (t : Transmission) (looked : LookedUp) (left : Outcome) (result : Reaction)
    (r : Receiver) (old new : UnitState) → RepresentsUnit old u
    → IsVerdictOf (Ok looked) (verdict u.station now t) → IsPlaceOf looked old.station now t
    → r ≡ asked l u now t.pdu.vector.address (may_forward looked)
    → RepresentsStation new.station (station_step u.station now (model.Call.Receive t)).station
    → TellsBy E left (left_of old.contention (applied l old.governor)
    (station_step u.station now (model.Call.Receive t)).station now t
    (station_step u.station now (model.Call.Receive t)).answer)
    → result.due ≡ due_of_frame old.contention (applied l old.governor)
    (station_step u.station now (model.Call.Receive t)).station now t
    (station_step u.station now (model.Call.Receive t)).answer
    → result.cancelled ≡ cancels old.contention
    (mid_of (station_step u.station now (model.Call.Receive t)).station.address) (say t) t.link_source
    (station_step u.station now (model.Call.Receive t)).answer
    → new.contention ≡ after_frame old.contention (applied l old.governor)
    (station_step u.station now (model.Call.Receive t)).station now say r.knew_source t
    (station_step u.station now (model.Call.Receive t)).answer
    → IsPassedBy l E old.governor r now t left result.outcome new.governor
    → IsReactionOf (TellsBy E) (Ok result) new (step_of_by l say u now t)
reacts_to l E say u now t looked left result r old new rep found at is stands leaves due cancelled waits
    passes =
    by (may_forward looked) refl
  where
    step : Step
    step = station_step u.station now (model.Call.Receive t)

    whole : Receiver
    whole = asked l u now t.pdu.vector.address true

    by : (m : Bool) → may_forward looked ≡ m
        → IsReactionOf (TellsBy E) (Ok result) new (step_of_by l say u now t)
    by true may =
        reacts_by l E say u now t left result r old new rep
        (is ∙ ap (asked l u now t.pdu.vector.address) may) stands leaves due cancelled waits passes
    by false may =
        let nothing = not_forwarded u.station old.station now t looked found at may in
        let limits = applied l old.governor in
        let left_sends = sends_nothing E left
        (left_of old.contention limits step.station now t step.answer) leaves
        (left_nothing old.contention limits step.station now t step.answer nothing) in
        reacts_by l E say u now t left result whole old new rep refl stands leaves due cancelled
        (waits ∙ waits_alike old.contention limits step.station now say r.knew_source
        whole.knew_source t step.answer nothing)
        (passed_alike l E old.governor r whole now t left result.outcome new.governor left_sends passes)

-- ---- a unit whose counts alone changed

stands_for : (a b : UnitState) (u : UnitModel) → b.station ≡ a.station
    → b.contention ≡ a.contention → b.governor ≡ a.governor → RepresentsUnit a u
    → RepresentsUnit b u
stands_for a b u station contention governor rep = record {
  station = subst (λ (s : StationState). RepresentsStation s u.station) (sym station) rep.station;
  contention = rep.contention ∙ sym contention;
  governor = rep.governor ∙ sym governor;
}

refused_to : (o : Option Refusal) (a b : UnitState) (step : UnitStep) → b.station ≡ a.station
    → b.contention ≡ a.contention → b.governor ≡ a.governor
    → IfSome o (λ refusal. (step.answer ≡ UnitAnswer.Passed (model.Answer.Refused refusal))
    × RepresentsUnit a step.unit)
    → IfSome o (λ refusal. (step.answer ≡ UnitAnswer.Passed (model.Answer.Refused refusal))
    × RepresentsUnit b step.unit)
refused_to None a b step station contention governor is = tt
refused_to (Some refusal) a b step station contention governor is =
    (is.0, stands_for a b step.unit station contention governor is.1)

pub reacted : (says : Outcome → Answer Transmission → Type 0) (r : Result Reaction Refused)
    (a b : UnitState) (step : UnitStep) → b.station ≡ a.station → b.contention ≡ a.contention
    → b.governor ≡ a.governor → IsReactionOf says r a step → IsReactionOf says r b step
reacted says (Ok r) a b step station contention governor is = (
  is.0,
  is.1,
  is.2,
  stands_for a b step.unit station contention governor is.3,
)
reacted says (Err e) a b step station contention governor is =
    refused_to (refusal_of e) a b step station contention governor is

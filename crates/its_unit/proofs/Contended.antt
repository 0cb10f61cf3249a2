-- A frame at a unit that may contend: what contention leaves of the answer, and what passes of that.
use Rattle.std.proofs.Common.{◌≡◌, ◌≤◌, ℕ, ◌^◌, ◌&&◌, ◌||◌, leb, ltb, not, Bool, true, false, cond}
use Rattle.std.proofs.Common.{List, Option, Some, None, refl, sym, ap, ◌∙◌, subst, is_some, arith}
use Rattle.std.proofs.lemmas.Bool.{ltb-false, false≢true}
use Rattle.std.proofs.lemmas.Option.{none-some, same_Some}
use Rattle.std.specs.Prelude.{Vec}
use Rattle.std.specs.declared.alloc.Global.{Global}
use Rattle.its_model.specs.Packet.{Message, Transmission}
use Rattle.its_model.specs.Calls as model
use Rattle.its_model.specs.Calls.{Answer, Refusal}
use Rattle.its_model.specs.Station.{StationModel, Verdict, moment_refusal, or_else, receive_step}
use Rattle.its_model.specs.Station.{receive_step_by, station_step, verdict}
use Rattle.its_station.specs.State.{RepresentsStation}
use Rattle.its_station.specs.Receiving.{Encoded, IsRelayBy, TellsAcceptedBy, TellsBy}
use Rattle.its_model.specs.Contention.{Fate}
use Rattle.std.specs.Prelude.{Ok, IfSome}
use Rattle.its_station.specs.Steps as station
use Rattle.its_station.specs.Steps.{refusal_of}
use Rattle.its_station.specs.declared.refused.Refused.{Refused}
use Rattle.its_station.specs.declared.outcome.Outcome.{Outcome}
use Rattle.its_contention.specs.Buffer.{Buffer}
use Rattle.its_contention.specs.Waiting.{Waiting}
use Rattle.its_governor.specs.declared.bucket.Bucket.{Bucket}
use Rattle.its_governor.specs.declared.governor.Governor.{Governor}
use Rattle.its_governor.specs.declared.governor.Passed.{Passed}
use Rattle.its_governor.specs.declared.receiver.Receiver.{Receiver}
use Rattle.its_governor.specs.Bucket.{is_low}
use Rattle.its_governor.specs.Governing.{accepted_by, after_call, after_passing, governed, is_echo}
use Rattle.its_governor.specs.Governing.{is_repeated_in, room_in, source_room}
use Rattle.its_governor.specs.Pressure.{has_share, is_pressed, may_share}
use Rattle.its_governor.specs.Shares.{ShareState}
use Rattle.its_unit.specs.Contending.{after_frame, applied, at_once, cancels, due_of_frame, fate_in, left_of}
use Rattle.its_unit.specs.Releases.{octets_sent}
use Rattle.its_gnvalue.specs.Values.{mid_of}
use Rattle.its_unit.specs.Steps.{AreKept, IsPassedBy, IsReactionOf, IsRefusedStep, TellsUnit}
use Rattle.its_unit.specs.Unit.{RepresentsUnit, UnitAnswer, UnitModel, UnitState, answer_by, asked}
use Rattle.its_unit.specs.Unit.{knows, receiver_of}
use Rattle.its_unit.specs.Unit.{step_of_by, unit_step_of, unlimited_step_of}
use Rattle.its_unit.specs.declared.limiting.Limiting.{Limiting}
use Rattle.its_unit.specs.Waits.{InTime}
use Rattle.its_unit.specs.declared.outcome.Reaction.{Reaction}
use Rattle.its_unit.specs.declared.outcome.UnitOutcome.{UnitOutcome}
use Rattle.its_unit.specs.declared.outcome.UnitOutcome.TheVariants as units

-- ---- what is accepted is accepted at a time that isn't refused

in_range : (clock now : ℕ) (p q : Bool) → ltb (2 ^ 62) now ≡ q
    → None ≡ cond p (Some model.Refusal.MomentEarlier)
    (cond q (Some model.Refusal.MomentTooLate) None) → now ≤ 2 ^ 62
in_range clock now true q far e = absurd (none-some model.Refusal.MomentEarlier e)
in_range clock now false true far e = absurd (none-some model.Refusal.MomentTooLate e)
in_range clock now false false far e = ltb-false (2 ^ 62) now far

accepted_within : (s : StationModel) (now : ℕ) (t : Transmission) (v : Verdict) → now ≤ 2 ^ 62
    → InTime (receive_step_by s now t v).station now (receive_step_by s now t v).answer
accepted_within s now t (Verdict.Refuse refusal) within = tt
accepted_within s now t (Verdict.Ignore why) within = tt
accepted_within s now t Verdict.Accept within = (grind (arith), within)

accepted_by_time : (s : StationModel) (now : ℕ) (t : Transmission) (o : Option Refusal) (v : Verdict)
    → o ≡ moment_refusal s now
    → InTime (receive_step_by s now t (or_else o v)).station now
    (receive_step_by s now t (or_else o v)).answer
accepted_by_time s now t (Some refusal) v is = tt
accepted_by_time s now t None v is =
    accepted_within s now t v
    (in_range s.clock now (ltb now s.clock) (ltb (2 ^ 62) now) refl is)

pub accepted_in_time : (s : StationModel) (now : ℕ) (t : Transmission)
    → InTime (receive_step s now t).station now (receive_step s now t).answer
unfolding receive_step verdict
accepted_in_time s now t = accepted_by_time s now t (moment_refusal s now) _ refl

-- ---- the frame in which an accepted packet goes on

relay_left : (Encodes : Encoded) (w : Vec ℕ Global) (sent : Option (Vec ℕ Global))
    (relay : Transmission) (f : Fate) → Encodes relay w.items
    → octets_sent sent ≡ at_once (Some w.items) f
    → IsRelayBy Encodes sent (at_once (Some relay) f)
relay_left Encodes w None relay (Fate.Waits due) encodes is = tt
relay_left Encodes w (Some v) relay (Fate.Waits due) encodes is =
    absurd (none-some v.items (sym is))
relay_left Encodes w None relay Fate.Goes encodes is = absurd (none-some w.items is)
relay_left Encodes w (Some v) relay Fate.Goes encodes is =
    subst (Encodes relay) (sym (same_Some v.items w.items is)) encodes
relay_left Encodes w None relay Fate.Stays encodes is = absurd (none-some w.items is)
relay_left Encodes w (Some v) relay Fate.Stays encodes is =
    subst (Encodes relay) (sym (same_Some v.items w.items is)) encodes

-- what is sent of it at once is what contention leaves of the answer
pub told_held : (Encodes : Encoded) (handed : Option Message) (w : Vec ℕ Global)
    (sent : Option (Vec ℕ Global)) (b : Buffer Waiting) (g : Option Governor) (s : StationModel) (now : ℕ)
    (t : Transmission) (answer : Answer Transmission) → InTime s now answer
    → TellsAcceptedBy Encodes handed (Some w) answer
    → ((relay : Transmission) → s.clock ≤ now → now ≤ 2 ^ 62
    → octets_sent sent ≡ at_once (Some w.items) (fate_in b g s now t (Some relay)))
    → TellsAcceptedBy Encodes handed sent (left_of (Some b) g s now t answer)
told_held Encodes handed w sent b g s now t answer in_time tells held =
    by tells.relayed tells.is tells.frame
  where
    by : (relayed : Option Transmission) → answer ≡ model.Answer.Accepted handed relayed
        → IsRelayBy Encodes (Some w) relayed
        → TellsAcceptedBy Encodes handed sent (left_of (Some b) g s now t answer)
    by None is frame = absurd frame
    by (Some relay) is frame =
        let within = subst (InTime s now) is in_time in
        let its_fate = fate_in b g s now t (Some relay) in
        record {
          relayed = at_once (Some relay) its_fate;
          is = ap (left_of (Some b) g s now t) is;
          frame = relay_left Encodes w sent relay its_fate frame (held relay within.0 within.1);
        }

-- ---- a source is looked up where that decides anything

share_by : (l x y : Bool) → l ≡ false → (not l || x) ≡ (not l || y)
share_by true x y e = absurd (false≢true (sym e))
share_by false x y e = refl

share_same : (f : Option Bucket) (s : Option ShareState) (address now : ℕ) (t : Transmission)
    (contends knew p : Bool) → is_pressed f s now ≡ p
    → has_share f s (record { address = address; knew_source = (contends || p) && knew }) now t
    ≡ has_share f s (record { address = address; knew_source = knew }) now t
share_same f s address now t true knew p is = refl
share_same f s address now t false knew true is = refl
share_same None s address now t false knew false is = refl
share_same (Some b) None address now t false knew false is = refl
share_same (Some b) (Some s) address now t false knew false is =
    share_by (is_low b now)
    (may_share b s (record { address = address; knew_source = false }) now t)
    (may_share b s (record { address = address; knew_source = knew }) now t) is

-- what passes, by whether the source has its share
abbrev passed_by : Governor → ℕ → Transmission → Bool → Bool → Bool → Passed
passed_by g now t handed sent share =
    record {
      delivers = handed && not (is_echo g.delivered now t);
      forwards = sent && (not (is_echo g.delivered now t)
          && (leb t.hops_left g.hop_cap && room_in g.forward now
          && source_room g.sources t.pdu.vector.address now && share));
      is_repeated = is_echo g.delivered now t;
    }

governed_same : (g : Governor) (q r : Receiver) (now : ℕ) (t : Transmission)
    (a : Answer Transmission)
    → has_share g.forward g.shares q now t ≡ has_share g.forward g.shares r now t
    → governed g q now (Some t) a ≡ governed g r now (Some t) a
governed_same g q r now t (model.Answer.Accepted handed relayed) same =
    ap (λ (share : Bool). accepted_by handed relayed
    (passed_by g now t (is_some handed) (is_some relayed) share)) same
governed_same g q r now t (model.Answer.Sent sent) same = refl
governed_same g q r now t model.Answer.Moved same = refl
governed_same g q r now t model.Answer.Opened same = refl
governed_same g q r now t model.Answer.Closed same = refl
governed_same g q r now t model.Answer.Restarted same = refl
governed_same g q r now t model.Answer.Quiet same = refl
governed_same g q r now t (model.Answer.Ignored why) same = refl
governed_same g q r now t (model.Answer.Refused refusal) same = refl

after_same : (g : Governor) (q r : Receiver) (now : ℕ) (t : Transmission) (a : Answer Transmission)
    → has_share g.forward g.shares q now t ≡ has_share g.forward g.shares r now t
    → after_call g q now false (Some t) a ≡ after_call g r now false (Some t) a
after_same g q r now t (model.Answer.Accepted handed relayed) same =
    ap (λ (share : Bool). after_passing g now t (is_some relayed)
    (passed_by g now t (is_some handed) (is_some relayed) share)) same
after_same g q r now t (model.Answer.Sent sent) same = refl
after_same g q r now t model.Answer.Moved same = refl
after_same g q r now t model.Answer.Opened same = refl
after_same g q r now t model.Answer.Closed same = refl
after_same g q r now t model.Answer.Restarted same = refl
after_same g q r now t model.Answer.Quiet same = refl
after_same g q r now t (model.Answer.Ignored why) same = refl
after_same g q r now t (model.Answer.Refused refusal) same = refl

-- a unit that doesn't contend holds nothing
none_waits : (g : Option Governor) (s : StationModel) (now : ℕ) (say : Transmission → List ℕ)
    (knew : Bool) (t : Transmission) (a : Answer Transmission)
    → after_frame None g s now say knew t a ≡ None
none_waits g s now say knew t (model.Answer.Accepted handed relayed) = refl
none_waits g s now say knew t (model.Answer.Ignored model.Why.NotForMe) = refl
none_waits g s now say knew t (model.Answer.Ignored model.Why.OwnSource) = refl
none_waits g s now say knew t (model.Answer.Ignored model.Why.SenderMismatch) = refl
none_waits g s now say knew t (model.Answer.Ignored model.Why.Duplicate) = refl
none_waits g s now say knew t (model.Answer.Sent sent) = refl
none_waits g s now say knew t model.Answer.Moved = refl
none_waits g s now say knew t model.Answer.Opened = refl
none_waits g s now say knew t model.Answer.Closed = refl
none_waits g s now say knew t model.Answer.Restarted = refl
none_waits g s now say knew t model.Answer.Quiet = refl
none_waits g s now say knew t (model.Answer.Refused refusal) = refl

waiting_same : (o : Option (Buffer Waiting)) (g : Option Governor) (s : StationModel) (now : ℕ)
    (say : Transmission → List ℕ) (p knew : Bool) (t : Transmission) (a : Answer Transmission)
    → after_frame o g s now say ((is_some o || p) && knew) t a ≡ after_frame o g s now say knew t a
waiting_same None g s now say p knew t a =
    none_waits g s now say (p && knew) t a ∙ sym (none_waits g s now say knew t a)
waiting_same (Some b) g s now say p knew t a = refl

-- ---- the step of a unit

composed : (Encodes : Encoded) (say : Transmission → List ℕ) (u : UnitModel) (now : ℕ)
    (t : Transmission) (left : Outcome) (result : Reaction) (r : Receiver) (new : UnitState)
    → r ≡ asked Limiting.Within u now t.pdu.vector.address true
    → RepresentsStation new.station (station_step u.station now (model.Call.Receive t)).station
    → TellsBy Encodes left (left_of u.contention (Some u.governor)
    (station_step u.station now (model.Call.Receive t)).station now t
    (station_step u.station now (model.Call.Receive t)).answer)
    → result.due ≡ due_of_frame u.contention (Some u.governor)
    (station_step u.station now (model.Call.Receive t)).station now t
    (station_step u.station now (model.Call.Receive t)).answer
    → result.cancelled ≡ cancels u.contention
    (mid_of (station_step u.station now (model.Call.Receive t)).station.address) (say t) t.link_source
    (station_step u.station now (model.Call.Receive t)).answer
    → new.contention ≡ after_frame u.contention (Some u.governor)
    (station_step u.station now (model.Call.Receive t)).station now say r.knew_source t
    (station_step u.station now (model.Call.Receive t)).answer
    → ((a : Answer Transmission) → TellsBy Encodes left a
    → TellsUnit (TellsBy Encodes) result.outcome
    (answer_by (is_repeated_in u.governor now (Some t) a) (governed u.governor r now (Some t) a)))
    → ((a : Answer Transmission) → TellsBy Encodes left a
    → new.governor ≡ after_call u.governor r now false (Some t) a)
    → IsReactionOf (TellsBy Encodes) (Ok result) new (unit_step_of say u now t)
composed Encodes say u now t left result r new is rep leaves due cancelled waits told limits =
    let step = station_step u.station now (model.Call.Receive t) in
    let a = left_of u.contention (Some u.governor) step.station now t step.answer in
    let source = t.pdu.vector.address in
    let knew = knows u.station now source in
    let p = is_pressed u.governor.forward u.governor.shares now in
    let share : has_share u.governor.forward u.governor.shares r now t
    ≡ has_share u.governor.forward u.governor.shares (receiver_of u.station now (Some t)) now t =
    ap (λ (q : Receiver). has_share u.governor.forward u.governor.shares q now t) is
    ∙ share_same u.governor.forward u.governor.shares u.station.address now t
    (is_some u.contention) knew p refl in (
      subst (λ (x : Answer Transmission). TellsUnit (TellsBy Encodes) result.outcome
          (answer_by (is_repeated_in u.governor now (Some t) a) x))
          (governed_same u.governor r (receiver_of u.station now (Some t)) now t a share)
          (told a leaves),
      due,
      cancelled,
      record {
        station = rep;
        contention = sym (waits
            ∙ ap (λ (q : Receiver). after_frame u.contention (Some u.governor) step.station now say
            q.knew_source t step.answer) is
            ∙ waiting_same u.contention (Some u.governor) step.station now say p knew t step.answer);
        governor = sym (limits a leaves
            ∙ after_same u.governor r (receiver_of u.station now (Some t)) now t a share);
      },
    )

-- the same by the unit as contracts see it
composed_from : (Encodes : Encoded) (say : Transmission → List ℕ) (u : UnitModel) (now : ℕ)
    (t : Transmission) (left : Outcome) (result : Reaction) (r : Receiver) (old new : UnitState)
    → RepresentsUnit old u → r ≡ asked Limiting.Within u now t.pdu.vector.address true
    → RepresentsStation new.station (station_step u.station now (model.Call.Receive t)).station
    → TellsBy Encodes left (left_of old.contention (Some old.governor)
    (station_step u.station now (model.Call.Receive t)).station now t
    (station_step u.station now (model.Call.Receive t)).answer)
    → result.due ≡ due_of_frame old.contention (Some old.governor)
    (station_step u.station now (model.Call.Receive t)).station now t
    (station_step u.station now (model.Call.Receive t)).answer
    → result.cancelled ≡ cancels old.contention
    (mid_of (station_step u.station now (model.Call.Receive t)).station.address) (say t) t.link_source
    (station_step u.station now (model.Call.Receive t)).answer
    → new.contention ≡ after_frame old.contention (Some old.governor)
    (station_step u.station now (model.Call.Receive t)).station now say r.knew_source t
    (station_step u.station now (model.Call.Receive t)).answer
    → ((a : Answer Transmission) → TellsBy Encodes left a
    → TellsUnit (TellsBy Encodes) result.outcome
    (answer_by (is_repeated_in old.governor now (Some t) a) (governed old.governor r now (Some t) a)))
    → ((a : Answer Transmission) → TellsBy Encodes left a
    → new.governor ≡ after_call old.governor r now false (Some t) a)
    → IsReactionOf (TellsBy Encodes) (Ok result) new (unit_step_of say u now t)
composed_from Encodes say u now t left result r old new rep is stands leaves due cancelled waits told
    limits =
    let s = (station_step u.station now (model.Call.Receive t)).station in
    let answer = (station_step u.station now (model.Call.Receive t)).answer in
    let held = sym rep.contention in
    let same = sym rep.governor in
    composed Encodes say u now t left result r new is stands
    (subst (λ (o : Option (Buffer Waiting)).
    TellsBy Encodes left (left_of o (Some u.governor) s now t answer)) held
    (subst (λ (g : Governor). TellsBy Encodes left (left_of old.contention (Some g) s now t answer)) same
    leaves))
    (due ∙ ap (λ (g : Governor). due_of_frame old.contention (Some g) s now t answer) same
    ∙ ap (λ (o : Option (Buffer Waiting)). due_of_frame o (Some u.governor) s now t answer) held)
    (cancelled ∙ ap (λ (o : Option (Buffer Waiting)).
    cancels o (mid_of s.address) (say t) t.link_source answer) held)
    (waits
    ∙ ap (λ (g : Governor). after_frame old.contention (Some g) s now say r.knew_source t answer) same
    ∙ ap (λ (o : Option (Buffer Waiting)).
    after_frame o (Some u.governor) s now say r.knew_source t answer) held)
    (λ a tells. subst (λ (g : Governor). TellsUnit (TellsBy Encodes) result.outcome
    (answer_by (is_repeated_in g now (Some t) a) (governed g r now (Some t) a))) same (told a tells))
    (λ a tells. limits a tells ∙ ap (λ (g : Governor). after_call g r now false (Some t) a) same)

-- ---- a frame past the limits

-- whether the source was known is asked only if the unit contends
knew_same : (o : Option (Buffer Waiting)) (g : Option Governor) (s : StationModel) (now : ℕ)
    (say : Transmission → List ℕ) (knew : Bool) (t : Transmission) (a : Answer Transmission)
    → after_frame o g s now say (is_some o && knew) t a ≡ after_frame o g s now say knew t a
knew_same None g s now say knew t a =
    none_waits g s now say false t a ∙ sym (none_waits g s now say knew t a)
knew_same (Some b) g s now say knew t a = refl

past_limits : (Encodes : Encoded) (say : Transmission → List ℕ) (u : UnitModel) (now : ℕ)
    (t : Transmission) (left : Outcome) (result : Reaction) (knew : Bool) (old new : UnitState)
    → RepresentsUnit old u
    → knew ≡ is_some old.contention && knows u.station now t.pdu.vector.address
    → RepresentsStation new.station (station_step u.station now (model.Call.Receive t)).station
    → TellsBy Encodes left (left_of old.contention None
    (station_step u.station now (model.Call.Receive t)).station now t
    (station_step u.station now (model.Call.Receive t)).answer)
    → result.outcome ≡ units.Passed left
    → result.due ≡ due_of_frame old.contention None
    (station_step u.station now (model.Call.Receive t)).station now t
    (station_step u.station now (model.Call.Receive t)).answer
    → result.cancelled ≡ cancels old.contention
    (mid_of (station_step u.station now (model.Call.Receive t)).station.address) (say t) t.link_source
    (station_step u.station now (model.Call.Receive t)).answer
    → new.contention ≡ after_frame old.contention None
    (station_step u.station now (model.Call.Receive t)).station now say knew t
    (station_step u.station now (model.Call.Receive t)).answer
    → new.governor ≡ old.governor
    → IsReactionOf (TellsBy Encodes) (Ok result) new (unlimited_step_of say u now t)
past_limits Encodes say u now t left result knew old new rep is stands leaves passes due cancelled
    waits limits =
    let s = (station_step u.station now (model.Call.Receive t)).station in
    let answer = (station_step u.station now (model.Call.Receive t)).answer in
    let held = sym rep.contention in
    let knows_it = knows u.station now t.pdu.vector.address in (
      subst (λ (x : UnitOutcome). TellsUnit (TellsBy Encodes) x
          (UnitAnswer.Passed (left_of u.contention None s now t answer))) (sym passes)
          (subst (λ (o : Option (Buffer Waiting)).
          TellsBy Encodes left (left_of o None s now t answer)) held leaves),
      due ∙ ap (λ (o : Option (Buffer Waiting)). due_of_frame o None s now t answer) held,
      cancelled ∙ ap (λ (o : Option (Buffer Waiting)).
          cancels o (mid_of s.address) (say t) t.link_source answer) held,
      record {
        station = stands;
        contention = sym (waits
            ∙ ap (λ (k : Bool). after_frame old.contention None s now say k t answer) is
            ∙ knew_same old.contention None s now say knows_it t answer
            ∙ ap (λ (o : Option (Buffer Waiting)). after_frame o None s now say knows_it t answer)
            held);
        governor = sym (limits ∙ sym rep.governor);
      },
    )

-- ---- a frame that is refused

left_refused : (o : Option (Buffer Waiting)) (g : Option Governor) (s : StationModel) (now : ℕ)
    (t : Transmission) (a : Answer Transmission) (refusal : Refusal)
    → a ≡ model.Answer.Refused refusal → left_of o g s now t a ≡ model.Answer.Refused refusal
left_refused None g s now t a refusal is = is
left_refused (Some b) g s now t a refusal is =
    ap (λ (x : Answer Transmission). left_of (Some b) g s now t x) is

refused_by : (say : Transmission → List ℕ) (u : UnitModel) (now : ℕ) (t : Transmission)
    (o : Option Refusal) (new : UnitState) → u.contention ≡ new.contention
    → u.governor ≡ new.governor
    → IfSome o (λ refusal. ((station_step u.station now (model.Call.Receive t)).answer
    ≡ model.Answer.Refused refusal)
    × RepresentsStation new.station (station_step u.station now (model.Call.Receive t)).station)
    → IfSome o (λ refusal. ((unit_step_of say u now t).answer
    ≡ UnitAnswer.Passed (model.Answer.Refused refusal))
    × RepresentsUnit new (unit_step_of say u now t).unit)
refused_by say u now t None new held same is = tt
refused_by say u now t (Some refusal) new held same is =
    let step = station_step u.station now (model.Call.Receive t) in
    let r = receiver_of u.station now (Some t) in
    let left = left_refused u.contention (Some u.governor) step.station now t step.answer refusal is.0 in (
      ap (λ (a : Answer Transmission). answer_by (is_repeated_in u.governor now (Some t) a)
          (governed u.governor r now (Some t) a)) left,
      record {
        station = is.1;
        contention = ap (λ (a : Answer Transmission). after_frame u.contention (Some u.governor)
            step.station now say r.knew_source t a) is.0 ∙ held;
        governor = ap (λ (a : Answer Transmission). after_call u.governor r now false (Some t) a) left
            ∙ same;
      },
    )

refused_frame : (say : Transmission → List ℕ) (u : UnitModel) (now : ℕ) (t : Transmission)
    (e : Refused) (new : UnitState) → u.contention ≡ new.contention → u.governor ≡ new.governor
    → station.IsRefusedStep e new.station (station_step u.station now (model.Call.Receive t))
    → IsRefusedStep e new (unit_step_of say u now t)
refused_frame say u now t e new held same is = refused_by say u now t (refusal_of e) new held same is

refused_past_by : (say : Transmission → List ℕ) (u : UnitModel) (now : ℕ) (t : Transmission)
    (o : Option Refusal) (new : UnitState) → u.contention ≡ new.contention
    → u.governor ≡ new.governor
    → IfSome o (λ refusal. ((station_step u.station now (model.Call.Receive t)).answer
    ≡ model.Answer.Refused refusal)
    × RepresentsStation new.station (station_step u.station now (model.Call.Receive t)).station)
    → IfSome o (λ refusal. ((unlimited_step_of say u now t).answer
    ≡ UnitAnswer.Passed (model.Answer.Refused refusal))
    × RepresentsUnit new (unlimited_step_of say u now t).unit)
refused_past_by say u now t None new held same is = tt
refused_past_by say u now t (Some refusal) new held same is =
    let step = station_step u.station now (model.Call.Receive t) in
    let r = receiver_of u.station now (Some t) in (
      ap UnitAnswer.Passed (left_refused u.contention None step.station now t step.answer refusal is.0),
      record {
        station = is.1;
        contention = ap (λ (a : Answer Transmission). after_frame u.contention None step.station now
            say r.knew_source t a) is.0 ∙ held;
        governor = same;
      },
    )

refused_past : (say : Transmission → List ℕ) (u : UnitModel) (now : ℕ) (t : Transmission)
    (e : Refused) (new : UnitState) → u.contention ≡ new.contention → u.governor ≡ new.governor
    → station.IsRefusedStep e new.station (station_step u.station now (model.Call.Receive t))
    → IsRefusedStep e new (unlimited_step_of say u now t)
refused_past say u now t e new held same is =
    refused_past_by say u now t (refusal_of e) new held same is

-- ---- within the limits or past them

pub reacts_by : (l : Limiting) (Encodes : Encoded) (say : Transmission → List ℕ) (u : UnitModel)
    (now : ℕ) (t : Transmission) (left : Outcome) (result : Reaction) (r : Receiver)
    (old new : UnitState) → RepresentsUnit old u → r ≡ asked l u now t.pdu.vector.address true
    → RepresentsStation new.station (station_step u.station now (model.Call.Receive t)).station
    → TellsBy Encodes left (left_of old.contention (applied l old.governor)
    (station_step u.station now (model.Call.Receive t)).station now t
    (station_step u.station now (model.Call.Receive t)).answer)
    → result.due ≡ due_of_frame old.contention (applied l old.governor)
    (station_step u.station now (model.Call.Receive t)).station now t
    (station_step u.station now (model.Call.Receive t)).answer
    → result.cancelled ≡ cancels old.contention
    (mid_of (station_step u.station now (model.Call.Receive t)).station.address) (say t) t.link_source
    (station_step u.station now (model.Call.Receive t)).answer
    → new.contention ≡ after_frame old.contention (applied l old.governor)
    (station_step u.station now (model.Call.Receive t)).station now say r.knew_source t
    (station_step u.station now (model.Call.Receive t)).answer
    → IsPassedBy l Encodes old.governor r now t left result.outcome new.governor
    → IsReactionOf (TellsBy Encodes) (Ok result) new (step_of_by l say u now t)
reacts_by Limiting.Within Encodes say u now t left result r old new rep is stands leaves due cancelled
    waits passes =
    composed_from Encodes say u now t left result r old new rep is stands leaves due cancelled waits
    passes.0 passes.1
reacts_by Limiting.Past Encodes say u now t left result r old new rep is stands leaves due cancelled
    waits passes =
    let knew : r.knew_source
    ≡ (is_some old.contention && knows u.station now t.pdu.vector.address) =
    ap (λ (q : Receiver). q.knew_source) is ∙ ap (λ (o : Option (Buffer Waiting)).
    is_some o && knows u.station now t.pdu.vector.address) rep.contention in
    past_limits Encodes say u now t left result r.knew_source old new rep knew stands leaves passes.0
    due cancelled waits passes.1

pub refused_by_limits : (l : Limiting) (say : Transmission → List ℕ) (u : UnitModel) (now : ℕ)
    (t : Transmission) (e : Refused) (new : UnitState) → u.contention ≡ new.contention
    → u.governor ≡ new.governor
    → station.IsRefusedStep e new.station (station_step u.station now (model.Call.Receive t))
    → IsRefusedStep e new (step_of_by l say u now t)
refused_by_limits Limiting.Within say u now t e new held same is =
    refused_frame say u now t e new held same is
refused_by_limits Limiting.Past say u now t e new held same is =
    refused_past say u now t e new held same is

pub kept_by : (l : Limiting) (old new : Governor) → new ≡ old → AreKept l old new
kept_by Limiting.Within old new same = tt
kept_by Limiting.Past old new same = same

pub kept_from : (l : Limiting) (a b old new : Governor) → AreKept l a b → old ≡ a → new ≡ b
    → AreKept l old new
kept_from Limiting.Within a b old new kept first last = tt
kept_from Limiting.Past a b old new kept first last = last ∙ kept ∙ sym first

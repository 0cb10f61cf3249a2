-- What a station does with a frame.
use Rattle.std.proofs.Common.{◌≡◌, ℕ, ◌≤◌, ◌^◌, List, ◌∷◌, Option, Some, None, Bool, true, false}
use Rattle.std.proofs.Common.{not, cond, eqb, refl, sym, ap, subst, ◌∙◌, true≢false}
use Rattle.std.proofs.Common.{is_some}
use Rattle.std.specs.Prelude.{Result, Ok, Err, IfSome, Vec, IsErrAnd}
use Rattle.std.specs.Option.{option_map}
use Rattle.std.specs.declared.alloc.Global.{Global}
use Rattle.std.proofs.lemmas.Bool.{le-ltb}
use Rattle.its_model.specs.Packet.{Transmission, number_in}
use Rattle.its_model.specs.History.{Reception}
use Rattle.its_model.specs.Stations.{stations_at, is_full}
use Rattle.its_model.specs.Calls as model
use Rattle.its_model.specs.Calls.{Answer, Refusal}
use Rattle.its_model.specs.Station as station
use Rattle.its_model.specs.Station.{StationModel, Step, Verdict, moment_refusal, verdict}
use Rattle.its_model.specs.Station.{receive_step, receive_step_by, is_for, is_sender_wrong}
use Rattle.its_model.specs.Station.{is_repeated, or_else, handing, relayed, sent_on, decided}
use Rattle.its_model.specs.Station.{after_hearing, first, own_refusal, own_step, station_step}
use Rattle.its_model.specs.Station.{junk_step_by}
use Rattle.its_loctable.specs.Content.{Represents}
use Rattle.its_loctable.specs.Heard as table
use Rattle.its_loctable.specs.Heard.{verdict_at}
use Rattle.its_loctable.specs.SourceReport.{SourceReport}
use Rattle.its_loctable.specs.Found.{verdict_of as answer_of, HasIndex}
use Rattle.its_loctable.specs.declared.found.Found.{Found}
use Rattle.its_loctable.specs.declared.found.Found.TheVariants as found
use Rattle.its_loctable.proofs.VerdictLemmas.{verdict_at-by}
use Rattle.its_loctable.specs.declared.store.Verdict.{Verdict as StoreVerdict}
use Rattle.its_loctable.specs.declared.store.Verdict.TheVariants as verdicts
use Rattle.its_loctable.specs.declared.refused.StoreRefused.{StoreRefused}
use Rattle.its_loctable.specs.declared.refused.StoreRefused.TheVariants as refusals
use Rattle.its_station.specs.declared.refused.Refused.{Refused}
use Rattle.its_station.specs.declared.outcome.Handed.{Handed}
use Rattle.its_station.specs.declared.outcome.Outcome.{Outcome}
use Rattle.its_station.specs.declared.outcome.Outcome.TheVariants as outcomes
use Rattle.its_station.specs.declared.outcome.Why.{Why}
use Rattle.its_station.specs.declared.outcome.Why.TheVariants as why
use Rattle.its_station.specs.State.{StationState, HasPast, IsPast, RepresentsStation}
use Rattle.its_station.specs.State.{SamePorts, model_of}
use Rattle.its_station.specs.Steps.{IsStepOf, IsRefusedStep}
use Rattle.its_station.specs.Receiving.{Encoded, IsSentFrame, Tells, TellsBy, IsRelayBy}
use Rattle.its_station.specs.Receiving.{report_of, said_by}
use Rattle.its_station.specs.Receiving.{why_of, why_found, why_unasked, accept_step}
use Rattle.its_station.specs.Receiving.{secured_step_by, IsAdmitted, IsVerdictOf}
use Rattle.its_station.specs.declared.looked_up.LookedUp.{LookedUp}
use Rattle.its_station.specs.declared.refused.Refused.TheVariants as refused
use Rattle.its_faults.specs.declared.frame.FrameFault.{FrameFault}
use Rattle.its_faults.specs.declared.secured.SecuredFault.{SecuredFault}
use Rattle.its_station.specs.Steps.{refusal_of}
use Rattle.its_station.proofs.Stations.{represents, Represents-later, own_refused, at_model}
use Rattle.its_station.proofs.Stations.{later}

-- ---- the frame that goes on

pub frame_of_relay : (E : Encoded) (w : Vec ℕ Global) (o : Option Transmission)
    → IsRelayBy E (Some w) o → IsSentFrame E w.items
frame_of_relay E w None h = absurd h
frame_of_relay E w (Some t) h = record { transmission = t; encodes = h }

-- ---- a packet that is accepted

pub accepted : (E : Encoded) (old new : StationState) (now : ℕ) (t : Transmission) (ports : List ℕ)
    (history : List Reception) (h : SourceReport) (handed : Option Handed)
    (sent : Option (Vec ℕ Global))
    → h ≡ report_of t.pdu → new ≡ record old { clock = now; content = new.content }
    → IsPast old ports history
    → Represents new.remember new.content (table.reception now h ∷ history) now
    → option_map said_by handed ≡ handing (model_of old ports history) t.pdu.body
    → IsRelayBy E sent (relayed (model_of new ports (table.reception now h ∷ history)) now t t.pdu.body)
    → IsStepOf (TellsBy E) (Ok (outcomes.Accepted handed sent)) new
    (accept_step (model_of old ports history) now t)
accepted E old new now t ports history h handed sent heard fields past now_table handing_is relay_is =
    let r : table.reception now h ≡ station.reception now t = ap (table.reception now) heard in
    let s : model_of new ports (table.reception now h ∷ history)
    ≡ after_hearing (model_of old ports history) now t =
    λ i. model_of (fields i) ports (r i ∷ history) in
    let after : IsPast new ports (table.reception now h ∷ history) = record {
      ports = subst (λ (st : StationState). SamePorts st.ports ports) (sym fields) past.ports;
      table = subst
          (λ (m : ℕ). Represents new.remember new.content (table.reception now h ∷ history) m)
          (sym (ap (λ (st : StationState). st.clock) fields)) now_table;
    } in (
      record {
        relayed = relayed (after_hearing (model_of old ports history) now t) now t t.pdu.body;
        is = ap (λ m.
            model.Answer.Accepted m
            (relayed (after_hearing (model_of old ports history) now t) now t t.pdu.body))
            (sym handing_is);
        frame = subst (λ (m : StationModel). IsRelayBy E sent (relayed m now t t.pdu.body)) s relay_is;
      },
      subst (RepresentsStation new) s
          (represents new ports (table.reception now h ∷ history) after),
    )

-- ---- the judgement

moment_fine : (s : StationModel) (now : ℕ) → s.clock ≤ now → now ≤ 2 ^ 62
    → moment_refusal s now ≡ None
moment_fine s now from to =
    λ i. cond (le-ltb now s.clock from i) (Some model.Refusal.MomentEarlier)
    (cond (le-ltb (2 ^ 62) now to i) (Some model.Refusal.MomentTooLate) None)

abbrev pub verdict_of : Option Why → Bool → Verdict
verdict_of (Some reason) full = station.Verdict.Ignore (why_of reason)
verdict_of None true = station.Verdict.Refuse model.Refusal.TableFull
verdict_of None false = station.Verdict.Accept

chain : (a b c d e : Bool)
    → (cond a (station.Verdict.Ignore model.Why.NotForMe)
    (cond b (station.Verdict.Ignore model.Why.OwnSource)
    (cond c (station.Verdict.Ignore model.Why.SenderMismatch)
    (cond d (station.Verdict.Ignore model.Why.Duplicate)
    (cond e (station.Verdict.Refuse model.Refusal.TableFull) station.Verdict.Accept)))))
    ≡ verdict_of
    (cond a (Some why.NotForMe)
    (cond b (Some why.OwnSource)
    (cond c (Some why.SenderMismatch) (cond d (Some why.Duplicate) None)))) e
chain true b c d e = refl
chain false true c d e = refl
chain false false true d e = refl
chain false false false true e = refl
chain false false false false true = refl
chain false false false false false = refl

pub verdict_is : (s : StationModel) (now : ℕ) (t : Transmission) → s.clock ≤ now → now ≤ 2 ^ 62
    → verdict s now t
    ≡ verdict_of (why_found s now t)
    (is_full s.capacity t.pdu.vector.address (stations_at s.remember now s.history))
unfolding verdict
verdict_is s now t from to =
    ap (λ o. or_else o
    (cond (not (is_for s t)) (station.Verdict.Ignore model.Why.NotForMe)
    (cond (eqb t.pdu.vector.address s.address) (station.Verdict.Ignore model.Why.OwnSource)
    (cond (is_sender_wrong t t.pdu.body) (station.Verdict.Ignore model.Why.SenderMismatch)
    (cond (is_repeated s.remember (number_in t.pdu.body) t.pdu.vector.address now s.history)
    (station.Verdict.Ignore model.Why.Duplicate)
    (cond (is_full s.capacity t.pdu.vector.address (stations_at s.remember now s.history))
    (station.Verdict.Refuse model.Refusal.TableFull) station.Verdict.Accept))))))
    (moment_fine s now from to)
    ∙ chain (not (is_for s t)) (eqb t.pdu.vector.address s.address) (is_sender_wrong t t.pdu.body)
    (is_repeated s.remember (number_in t.pdu.body) t.pdu.vector.address now s.history)
    (is_full s.capacity t.pdu.vector.address (stations_at s.remember now s.history))

-- a frame that is ignored for a reason
pub verdict_ignored : (s : StationModel) (now : ℕ) (t : Transmission) (reason : Why)
    → s.clock ≤ now → now ≤ 2 ^ 62 → Some reason ≡ why_found s now t
    → verdict s now t ≡ station.Verdict.Ignore (why_of reason)
verdict_ignored s now t reason from to e =
    verdict_is s now t from to ∙ (λ i. verdict_of (sym e i)
    (is_full s.capacity t.pdu.vector.address (stations_at s.remember now s.history)))

-- a frame that isn't ignored
pub verdict_by_room : (s : StationModel) (now : ℕ) (t : Transmission) (full : Bool)
    → s.clock ≤ now → now ≤ 2 ^ 62 → None ≡ why_found s now t
    → full ≡ is_full s.capacity t.pdu.vector.address (stations_at s.remember now s.history)
    → verdict s now t ≡ verdict_of None full
verdict_by_room s now t full from to e room =
    verdict_is s now t from to ∙ (λ i. verdict_of (sym e i) (sym room i))

unasked : (a b c d : Bool) (reason : Why)
    → Some reason ≡ cond a (Some why.NotForMe)
    (cond b (Some why.OwnSource) (cond c (Some why.SenderMismatch) None))
    → Some reason ≡ cond a (Some why.NotForMe)
    (cond b (Some why.OwnSource)
    (cond c (Some why.SenderMismatch) (cond d (Some why.Duplicate) None)))
unasked true b c d reason e = e
unasked false true c d reason e = e
unasked false false true d reason e = e
unasked false false false d reason e = absurd (true≢false (ap is_some e))

asked : (a b c d : Bool)
    → None ≡ cond a (Some why.NotForMe)
    (cond b (Some why.OwnSource) (cond c (Some why.SenderMismatch) None))
    → cond d (Some why.Duplicate) None ≡ cond a (Some why.NotForMe)
    (cond b (Some why.OwnSource)
    (cond c (Some why.SenderMismatch) (cond d (Some why.Duplicate) None)))
asked true b c d e = absurd (true≢false (sym (ap is_some e)))
asked false true c d e = absurd (true≢false (sym (ap is_some e)))
asked false false true d e = absurd (true≢false (sym (ap is_some e)))
asked false false false d e = refl

-- a reason that is found before the table is asked is the first
pub why_before : (s : StationModel) (now : ℕ) (t : Transmission) (reason : Why)
    → Some reason ≡ why_unasked s t → Some reason ≡ why_found s now t
why_before s now t reason e =
    unasked (not (is_for s t)) (eqb t.pdu.vector.address s.address) (is_sender_wrong t t.pdu.body)
    (is_repeated s.remember (number_in t.pdu.body) t.pdu.vector.address now s.history) reason e

-- the verdict that the table owes, by its two questions
abbrev owed_by : (d f : Bool) → Result StoreVerdict StoreRefused
owed_by d f =
    cond d (Ok verdicts.Duplicate) (cond f (Err refusals.Full) (Ok verdicts.Accepted))

was_duplicate : (d f : Bool) → Ok verdicts.Duplicate ≡ owed_by d f → d ≡ true
was_duplicate true f e = refl
was_duplicate false true e = cc
was_duplicate false false e = cc

was_full : (d f : Bool) → Err refusals.Full ≡ owed_by d f → (d ≡ false) × (true ≡ f)
was_full true f e = cc
was_full false true e = (refl, refl)
was_full false false e = cc

was_new : (d f : Bool) → Ok verdicts.Accepted ≡ owed_by d f → (d ≡ false) × (false ≡ f)
was_new true f e = cc
was_new false true e = cc
was_new false false e = (refl, refl)

-- a packet that is found to be new has a history that admits it
pub admitted : (st : StationState) (now : ℕ) (h : SourceReport) (r : Found)
    → HasPast st.remember st.content st.clock → st.clock ≤ now
    → ((history : List Reception) → Represents st.remember st.content history now
    → answer_of r ≡ verdict_at st.remember st.capacity now h history)
    → HasIndex st.content h.vector.address r → IsAdmitted st now h r
admitted st now h found.Duplicate past le owed index = tt
admitted st now h found.Full past le owed index = tt
admitted st now h (found.New i) past le owed index =
    let then = later st.remember st.content st.clock now le past in (
      record {
        history = then.history;
        represented = then.table;
        accepted = sym (owed then.history then.table);
      },
      index,
    )

-- what the table found of the packet, as the judgement of the frame
module _ (s : StationModel) (now : ℕ) (t : Transmission) (first : None ≡ why_unasked s t) where
  abbrev repeated : Bool
  repeated =
      is_repeated s.remember (number_in t.pdu.body) t.pdu.vector.address now s.history

  abbrev full : Bool
  full = is_full s.capacity t.pdu.vector.address (stations_at s.remember now s.history)

  table_owes : verdict_at s.remember s.capacity now (report_of t.pdu) s.history ≡ owed_by repeated full
  table_owes = verdict_at-by s.remember s.capacity now (report_of t.pdu) s.history repeated full refl refl

  by_repeated : (d : Bool) → repeated ≡ d → cond d (Some why.Duplicate) None ≡ why_found s now t
  by_repeated d e = (λ i. cond (sym e i) (Some why.Duplicate) None)
      ∙ asked (not (is_for s t)) (eqb t.pdu.vector.address s.address)
      (is_sender_wrong t t.pdu.body) repeated first

  pub found_duplicate : Ok verdicts.Duplicate
      ≡ verdict_at s.remember s.capacity now (report_of t.pdu) s.history
      → Some why.Duplicate ≡ why_found s now t
  found_duplicate e = by_repeated true (was_duplicate repeated full (e ∙ table_owes))

  pub found_full : Err refusals.Full
      ≡ verdict_at s.remember s.capacity now (report_of t.pdu) s.history
      → (None ≡ why_found s now t) × (true ≡ full)
  found_full e =
      let was = was_full repeated full (e ∙ table_owes) in (by_repeated false was.0, was.1)

  pub found_new : Ok verdicts.Accepted
      ≡ verdict_at s.remember s.capacity now (report_of t.pdu) s.history
      → (None ≡ why_found s now t) × (false ≡ full)
  found_new e =
      let was = was_new repeated full (e ∙ table_owes) in (by_repeated false was.0, was.1)

-- ---- the step of a frame

pub ignored : (E : Encoded) (old new : StationState) (now : ℕ) (t : Transmission) (ports : List ℕ)
    (history : List Reception) (reason : Why)
    → new ≡ record old { clock = now } → old.clock ≤ now → IsPast old ports history
    → verdict (model_of old ports history) now t ≡ station.Verdict.Ignore (why_of reason)
    → IsStepOf (TellsBy E) (Ok (outcomes.Ignored reason)) new
    (receive_step (model_of old ports history) now t)
unfolding receive_step
ignored E old new now t ports history reason fields from past e =
    let m = model_of old ports history in
    let step : receive_step m now t
    ≡ receive_step_by m now t (station.Verdict.Ignore (why_of reason)) =
    ap (receive_step_by m now t) e in
    let after : IsPast (record old { clock = now }) ports history =
    record {
      ports = past.ports;
      table = Represents-later old.remember old.content history old.clock now from past.table;
    } in (
      ap (λ (x : Step). x.answer) step,
      subst (λ (st : StationState). RepresentsStation st (receive_step m now t).station)
          (sym fields)
          (subst (λ (x : Step). RepresentsStation (record old { clock = now }) x.station) (sym step)
          (represents (record old { clock = now }) ports history after)),
    )

pub accept_is : (E : Encoded) (r : Result Outcome Refused) (old new : StationState) (now : ℕ) (t : Transmission)
    (ports : List ℕ) (history : List Reception)
    → verdict (model_of old ports history) now t ≡ station.Verdict.Accept
    → IsStepOf (TellsBy E) r new (accept_step (model_of old ports history) now t)
    → IsStepOf (TellsBy E) r new (receive_step (model_of old ports history) now t)
unfolding receive_step
accept_is E r old new now t ports history e step =
    subst (λ (x : Step). IsStepOf (TellsBy E) r new x)
    (sym (ap (receive_step_by (model_of old ports history) now t) e)) step

refused_by : (st : StationState) (s : StationModel) (now : ℕ) (t : Transmission) (o : Option Refusal)
    → RepresentsStation st s
    → IfSome o (λ refusal. verdict s now t ≡ station.Verdict.Refuse refusal)
    → IfSome o (λ refusal. ((receive_step s now t).answer ≡ model.Answer.Refused refusal)
    × RepresentsStation st (receive_step s now t).station)
unfolding receive_step
refused_by st s now t None rep e = tt
refused_by st s now t (Some refusal) rep e =
    let step : receive_step s now t
    ≡ receive_step_by s now t (station.Verdict.Refuse refusal) =
    ap (receive_step_by s now t) e in (
      ap (λ (x : Step). x.answer) step,
      subst (λ (x : Step). RepresentsStation st x.station) (sym step) rep,
    )

-- a frame that is refused by its look-up
pub refused_frame : (st : StationState) (now : ℕ) (t : Transmission) (e : Refused)
    → ((s : StationModel) → RepresentsStation st s → IsVerdictOf (Err e) (verdict s now t))
    → (s : StationModel) → RepresentsStation st s → IsRefusedStep e st (receive_step s now t)
refused_frame st now t e found s rep =
    refused_by st s now t (refusal_of e) rep (found s rep)

-- the same at the exit of a `?`
pub refused_exit : {T : Type 0} (says : T → Answer Transmission → Type 0) (st : StationState)
    (now : ℕ) (t : Transmission) (e : Refused) (r : Result T Refused) → IsErrAnd r (λ y. y ≡ e)
    → ((s : StationModel) → RepresentsStation st s → IsVerdictOf (Err e) (verdict s now t))
    → (s : StationModel) → RepresentsStation st s → IsStepOf says r st (receive_step s now t)
refused_exit says st now t e (Ok x) is found s rep = absurd is
refused_exit says st now t e (Err y) is found s rep =
    subst (λ (z : Refused). IsRefusedStep z st (receive_step s now t)) (sym is)
    (refused_frame st now t e found s rep)

-- ---- any call

verdict_at_moment : (s : StationModel) (now : ℕ) (t : Transmission) (r : Refusal)
    → moment_refusal s now ≡ Some r → verdict s now t ≡ station.Verdict.Refuse r
unfolding verdict
verdict_at_moment s now t r e =
    ap (λ o. or_else o (cond (not (is_for s t)) (station.Verdict.Ignore model.Why.NotForMe)
    (cond (eqb t.pdu.vector.address s.address) (station.Verdict.Ignore model.Why.OwnSource)
    (cond (is_sender_wrong t t.pdu.body) (station.Verdict.Ignore model.Why.SenderMismatch)
    (cond (is_repeated s.remember (number_in t.pdu.body) t.pdu.vector.address now s.history)
    (station.Verdict.Ignore model.Why.Duplicate)
    (cond (is_full s.capacity t.pdu.vector.address (stations_at s.remember now s.history))
    (station.Verdict.Refuse model.Refusal.TableFull) station.Verdict.Accept)))))) e

received : (s : StationModel) (now : ℕ) (t : Transmission) (r : Refusal)
    → moment_refusal s now ≡ Some r
    → receive_step s now t ≡ record { answer = model.Answer.Refused r; station = s }
unfolding receive_step
received s now t r e = ap (receive_step_by s now t) (verdict_at_moment s now t r e)

-- what is found at a moment that is refused, at the exit of a `?`
pub moment_found : (st : StationState) (now : ℕ) (t : Transmission) (e : Refused)
    (r : Result LookedUp Refused) → IsErrAnd r (λ y. y ≡ e)
    → ((ports : List ℕ) (history : List Reception)
    → refusal_of e ≡ moment_refusal (model_of st ports history) now)
    → (s : StationModel) → RepresentsStation st s → IsVerdictOf r (verdict s now t)
moment_found st now t e (Ok x) is owed = absurd is
moment_found st now t e (Err y) is owed =
    at_model st (λ s. IsVerdictOf (Err y) (verdict s now t))
    (λ ports history past. by (model_of st ports history) (refusal_of y)
    (ap refusal_of is ∙ owed ports history))
  where
    by : (s : StationModel) (o : Option Refusal) → o ≡ moment_refusal s now
        → IfSome o (λ refusal. verdict s now t ≡ station.Verdict.Refuse refusal)
    by s None is = tt
    by s (Some refusal) is = verdict_at_moment s now t refusal (sym is)

refused_by_moment : (s : StationModel) (now : ℕ) (call : model.Call) (r : Refusal)
    → moment_refusal s now ≡ Some r
    → station_step s now call ≡ record { answer = model.Answer.Refused r; station = s }
refused_by_moment s now (model.Call.Own call) r e =
    own_refused s now call r (ap (λ o. first o (own_refusal s call)) e)
refused_by_moment s now (model.Call.Receive t) r e = received s now t r e
refused_by_moment s now (model.Call.Junk fault) r e = ap (junk_step_by s fault) e

-- a call at a moment that is refused
pub moment_refused : {T : Type 0} (says : T → Answer Transmission
    → Type 0) (st : StationState) (now : ℕ) (call : model.Call) (e : Refused)
    → ((ports : List ℕ) (history : List Reception)
    → refusal_of e ≡ moment_refusal (model_of st ports history) now)
    → (s : StationModel) → RepresentsStation st s
    → IsStepOf says (Err e) st (station_step s now call)
moment_refused says st now call e owed =
    at_model st (λ s. IsStepOf says (Err e) st (station_step s now call))
    (λ ports history past. by ports history past (refusal_of e) (owed ports history))
  where
    by : (ports : List ℕ) (history : List Reception) → IsPast st ports history
        → (o : Option Refusal) → o ≡ moment_refusal (model_of st ports history) now
        → IfSome o (λ refusal.
        ((station_step (model_of st ports history) now call).answer
        ≡ model.Answer.Refused refusal)
        × RepresentsStation st (station_step (model_of st ports history) now call).station)
    by ports history past None is = tt
    by ports history past (Some r) is =
        let step = refused_by_moment (model_of st ports history) now call r (sym is) in (
          ap (λ (x : Step). x.answer) step,
          subst (λ (x : Step). RepresentsStation st x.station) (sym step)
              (represents st ports history past),
        )

-- the same at the exit of a `?`
pub moment_exit : {T : Type 0} (says : T → Answer Transmission
    → Type 0) (st : StationState) (now : ℕ) (call : model.Call) (e : Refused) (r : Result T Refused)
    → IsErrAnd r (λ y. y ≡ e)
    → ((ports : List ℕ) (history : List Reception)
    → refusal_of e ≡ moment_refusal (model_of st ports history) now)
    → (s : StationModel) → RepresentsStation st s
    → IsStepOf says r st (station_step s now call)
moment_exit says st now call e (Ok x) is owed = absurd is
moment_exit says st now call e (Err y) is owed =
    moment_refused says st now call y (λ ports history. ap refusal_of is ∙ owed ports history)

-- octets that are no frame
pub junk : (st : StationState) (now : ℕ) (fault : FrameFault)
    → ((ports : List ℕ) (history : List Reception)
    → None ≡ moment_refusal (model_of st ports history) now)
    → (s : StationModel) → RepresentsStation st s
    → IsStepOf Tells (Err (refused.Frame fault)) st
    (junk_step_by s fault (moment_refusal s now))
junk st now fault owed =
    at_model st
    (λ s. IsStepOf Tells (Err (refused.Frame fault)) st
    (junk_step_by s fault (moment_refusal s now)))
    (λ ports history past.
    subst (λ (o : Option Refusal).
    IsStepOf Tells (Err (refused.Frame fault)) st
    (junk_step_by (model_of st ports history) fault o)) (owed ports history) (
      refl,
      represents st ports history past,
    ))

-- a frame, from what holds of it for each past
pub heard : (E : Encoded) (r : Result Outcome Refused) (old new : StationState) (now : ℕ) (t : Transmission)
    → ((ports : List ℕ) (history : List Reception) → IsPast old ports history
    → IsStepOf (TellsBy E) r new (receive_step (model_of old ports history) now t))
    → (s : StationModel) → RepresentsStation old s → IsStepOf (TellsBy E) r new (receive_step s now t)
heard E r old new now t f = at_model old (λ s. IsStepOf (TellsBy E) r new (receive_step s now t)) f

-- octets that are no secured frame with this plain part, at a moment that isn't refused
pub bad_secured : (st : StationState) (now : ℕ) (fault : SecuredFault)
    → ((ports : List ℕ) (history : List Reception)
    → None ≡ moment_refusal (model_of st ports history) now)
    → (s : StationModel) → RepresentsStation st s
    → IsRefusedStep (refused.Secured fault) st (secured_step_by s fault (moment_refusal s now))
bad_secured st now fault owed =
    at_model st
    (λ s. IsRefusedStep (refused.Secured fault) st
    (secured_step_by s fault (moment_refusal s now)))
    (λ ports history past.
    subst (λ (o : Option Refusal).
    IsRefusedStep (refused.Secured fault) st
    (secured_step_by (model_of st ports history) fault o)) (owed ports history) (
      refl,
      represents st ports history past,
    ))

-- and at one that is
pub secured_moment : (st : StationState) (now : ℕ) (fault : SecuredFault) (e : Refused)
    → ((ports : List ℕ) (history : List Reception)
    → refusal_of e ≡ moment_refusal (model_of st ports history) now)
    → (s : StationModel) → RepresentsStation st s
    → IsRefusedStep e st (secured_step_by s fault (moment_refusal s now))
secured_moment st now fault e owed =
    at_model st
    (λ s. IsRefusedStep e st (secured_step_by s fault (moment_refusal s now)))
    (λ ports history past.
    subst (λ (o : Option Refusal).
    IsRefusedStep e st (secured_step_by (model_of st ports history) fault o))
    (owed ports history)
    (by (refusal_of e) (model_of st ports history) (represents st ports history past)))
  where
    by : (o : Option Refusal) (m : StationModel) → RepresentsStation st m
        → IfSome o (λ refusal.
        ((secured_step_by m fault o).answer ≡ model.Answer.Refused refusal)
        × RepresentsStation st (secured_step_by m fault o).station)
    by None m rep = tt
    by (Some r) m rep = (refl, rep)

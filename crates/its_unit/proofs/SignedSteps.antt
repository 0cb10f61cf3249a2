-- What each step of a unit keeps, and what it answers to a frame that its entity read.
use Rattle.std.proofs.Common.{◌≡◌, ◌⊎◌, ℕ, ◌+◌, [], Bool, true, false, cond, leb, Option, Some, None}
use Rattle.std.proofs.Common.{refl, sym, ap, subst, ◌∙◌, inl, inr}
use Rattle.std.specs.Prelude.{IsTrue}
use Rattle.std.proofs.lemmas.Bool.{false≢true}
use Rattle.std.proofs.lemmas.Option.{none-some, same_Some}
use Rattle.its_faults.specs.declared.frame.FrameFault.{FrameFault}
use Rattle.its_faults.specs.declared.secured.SecuredFault.{SecuredFault}
use Rattle.its_model.specs.Packet.{Message, Transmission}
use Rattle.its_model.specs.Calls as model
use Rattle.its_model.specs.Calls.{Answer, Call, OwnCall, Refusal, ShbRequest}
use Rattle.its_model.specs.Station.{StationModel, Step, Verdict, after_hearing, after_sending}
use Rattle.its_model.specs.Station.{beacon_of, first, handing, junk_step_by, moment_refusal}
use Rattle.its_model.specs.Station.{own_refusal, own_step, own_step_by, performed, receive_step}
use Rattle.its_model.specs.Station.{receive_step_by, relayed, verdict}
use Rattle.its_model.specs.World as world
use Rattle.its_model.proofs.Fits.{IsSentOn, relayed_is}
use Rattle.its_station.specs.Beside.{shb_for, shb_refusal}
use Rattle.its_station.specs.Beside.{stands_at, step_by}
use Rattle.its_station.specs.Receiving.{VerifiedCall, secured_step_by, verified_step}
use Rattle.its_unit.specs.Unit.{UnitModel, UnitCall, UnitAnswer, passed_step}
use Rattle.its_unit.specs.Unit.{refused_step, step_within, unit_step}
use Rattle.its_unit.specs.Runs.{UnitCallAt, IsPart, IsPartOf, is_withheld}
use Rattle.its_unit.specs.Signed.{is_own}
use Rattle.its_unit.proofs.Runs.{station_runs}
use Rattle.its_unit.proofs.FleetUnits.{answer_withheld}
use Rattle.its_unit.proofs.FleetMessages.{handed_whole}

-- ---- addresses stay

-- the station has this address, and its own vector bears it
pub record HasAddress (address : ℕ) (s : StationModel) : Type 0 where
  pub station : s.address ≡ address
  pub vector : s.vector.address ≡ address

performed_address : (a : ℕ) (s : StationModel) (now : ℕ) (call : OwnCall) → HasAddress a s
    → HasAddress a (performed s now call).station
performed_address a s now (model.OwnCall.Move place accurate speed heading) h =
    record { station = h.station; vector = h.station }
performed_address a s now (model.OwnCall.Open port) h =
    record { station = h.station; vector = h.vector }
performed_address a s now (model.OwnCall.Close port) h =
    record { station = h.station; vector = h.vector }
performed_address a s now (model.OwnCall.Tick jitter) h = by (leb (s.beacon_from + jitter) now)
  where
    by : (b : Bool)
        → HasAddress a
        (cond {A = Step} b (record { answer = model.Answer.Sent (beacon_of s); station = after_sending s now })
        (record { answer = model.Answer.Quiet; station = record s { clock = now } })).station
    by true = record { station = h.station; vector = h.vector }
    by false = record { station = h.station; vector = h.vector }
performed_address a s now (model.OwnCall.SendShb r) h =
    record { station = h.station; vector = h.vector }
performed_address a s now (model.OwnCall.SendGbc r) h =
    record { station = h.station; vector = h.vector }
performed_address a s now (model.OwnCall.SendGac r) h =
    record { station = h.station; vector = h.vector }
performed_address a s now (model.OwnCall.Restart number) h =
    record { station = h.station; vector = h.vector }

own_address : (a : ℕ) (s : StationModel) (now : ℕ) (call : OwnCall) → HasAddress a s
    → HasAddress a (own_step s now call).station
unfolding own_step
own_address a s now call h = by (first (moment_refusal s now) (own_refusal s call))
  where
    by : (o : Option Refusal) → HasAddress a (own_step_by s now call o).station
    by (Some r) = h
    by None = performed_address a s now call h

received_address : (a : ℕ) (s : StationModel) (now : ℕ) (t : Transmission) → HasAddress a s
    → HasAddress a (receive_step s now t).station
unfolding receive_step
received_address a s now t h = by (verdict s now t)
  where
    by : (v : Verdict) → HasAddress a (receive_step_by s now t v).station
    by (Verdict.Refuse r) = h
    by (Verdict.Ignore why) = record { station = h.station; vector = h.vector }
    by Verdict.Accept = record { station = h.station; vector = h.vector }

junk_address : (a : ℕ) (s : StationModel) (fault : FrameFault) (o : Option Refusal)
    → HasAddress a s → HasAddress a (junk_step_by s fault o).station
junk_address a s fault (Some r) h = h
junk_address a s fault None h = h

secured_address : (a : ℕ) (s : StationModel) (fault : SecuredFault) (o : Option Refusal)
    → HasAddress a s → HasAddress a (secured_step_by s fault o).station
secured_address a s fault (Some r) h = h
secured_address a s fault None h = h

beside_address : (a : ℕ) (s : StationModel) (o : Option Refusal) (done : Step) → HasAddress a s
    → HasAddress a done.station → HasAddress a (step_by s o done).station
beside_address a s (Some r) done h d = h
beside_address a s None done h d = d

within_address : (a : ℕ) (s : StationModel) (now : ℕ) (call : UnitCall) → HasAddress a s
    → HasAddress a (step_within s now call).station
within_address a s now (UnitCall.Own call) h = own_address a s now call h
within_address a s now (UnitCall.MoveAt timestamp place accurate speed heading) h =
    beside_address a s (moment_refusal s now) (record {
      answer = model.Answer.Moved;
      station = stands_at s now timestamp place accurate speed heading;
    }) h (record { station = h.station; vector = h.station })
within_address a s now (UnitCall.SendShbFor options request) h =
    beside_address a s (shb_refusal s now request) (record {
      answer = model.Answer.Sent (shb_for s options request);
      station = after_sending s now;
    }) h (record { station = h.station; vector = h.vector })
within_address a s now (UnitCall.Receive (model.Call.Own call)) h = own_address a s now call h
within_address a s now (UnitCall.Receive (model.Call.Receive t)) h = received_address a s now t h
within_address a s now (UnitCall.Receive (model.Call.Junk fault)) h =
    junk_address a s fault (moment_refusal s now) h
within_address a s now (UnitCall.ReceiveVerified (VerifiedCall.Came v)) h =
    received_address a s now v.frame h
within_address a s now (UnitCall.ReceiveVerified (VerifiedCall.Faulty fault)) h =
    secured_address a s fault (moment_refusal s now) h

pub unit_address : (a : ℕ) (u : UnitModel) (now : ℕ) (call : UnitCall) → HasAddress a u.station
    → HasAddress a (unit_step u now call).unit.station
unit_address a u now call h = by (is_withheld u (record { now = now; call = call }))
  where
    by : (b : Bool)
        → HasAddress a (cond b (refused_step u)
        (passed_step u now call (step_within u.station now call))).unit.station
    by true = h
    by false = within_address a u.station now call h

-- ---- what passes of an answer

-- An answer that passes is a part of the station's.
pub passed_part : (u : UnitModel) (now : ℕ) (call : UnitCall) (answer : Answer Transmission)
    → (unit_step u now call).answer ≡ UnitAnswer.Passed answer
    → IsPartOf (UnitAnswer.Passed answer) (step_within u.station now call).answer
passed_part u now call answer passed = by (is_withheld u c) refl
  where
    c : UnitCallAt
    c = record { now = now; call = call }

    never : (a : Answer Transmission) → UnitAnswer.Passed a ≡ UnitAnswer.OverRate → ⊥
    never a e = cc

    by : (b : Bool) → is_withheld u c ≡ b
        → IsPartOf (UnitAnswer.Passed answer) (step_within u.station now call).answer
    by true e = absurd (never answer (sym passed ∙ answer_withheld u c e))
    by false e = subst (λ (x : UnitAnswer). IsPartOf x (step_within u.station now call).answer)
        passed ((station_runs u).answers [] c e)

-- ---- a frame that the entity read

accepted_by : (s : StationModel) (now : ℕ) (t : Transmission) (handed : Option Message)
    (sent : Option Transmission)
    → (receive_step s now t).answer ≡ model.Answer.Accepted handed sent
    → (handing s t.pdu.body ≡ handed) × (relayed (after_hearing s now t) now t t.pdu.body ≡ sent)
unfolding receive_step
accepted_by s now t handed sent e = by (verdict s now t) e
  where
    same : (h g : Option Message) (x y : Option Transmission)
        → ◌≡◌ {A = Answer Transmission} (model.Answer.Accepted h x) (model.Answer.Accepted g y)
        → (h ≡ g) × (x ≡ y)
    same h g x y e = (cc, cc)

    by : (v : Verdict) → (receive_step_by s now t v).answer ≡ model.Answer.Accepted handed sent
        → (handing s t.pdu.body ≡ handed)
        × (relayed (after_hearing s now t) now t t.pdu.body ≡ sent)
    by (Verdict.Refuse r) e = cc
    by (Verdict.Ignore why) e = cc
    by Verdict.Accept e = same _ _ _ _ e

-- a frame that passes of the answer to a frame is the one that the station sends on
sent_of : (handed : Option Message) (t : Transmission) (whole : Answer Transmission)
    → IsPartOf (UnitAnswer.Passed (model.Answer.Accepted handed (Some t))) whole
    → (message : Option Message) × (whole ≡ model.Answer.Accepted message (Some t))
sent_of handed t (model.Answer.Accepted message frame) part = (message, by part.1)
  where
    by : IsPart (Some t) frame
        → model.Answer.Accepted message frame ≡ model.Answer.Accepted message (Some t)
    by (inl none) = absurd (none-some t (sym none))
    by (inr same) = ap (λ x. model.Answer.Accepted message x) (sym same)
sent_of handed t (model.Answer.Sent u) part = cc
sent_of handed t model.Answer.Moved part = cc
sent_of handed t model.Answer.Opened part = cc
sent_of handed t model.Answer.Closed part = cc
sent_of handed t model.Answer.Restarted part = cc
sent_of handed t model.Answer.Quiet part = cc
sent_of handed t (model.Answer.Ignored why) part = cc
sent_of handed t (model.Answer.Refused refusal) part = cc

-- a message that a unit delivers of a frame
pub handed_out : (u : UnitModel) (now : ℕ) (call : UnitCall) (t : Transmission) (m : Message)
    (sent : Option Transmission)
    → (step_within u.station now call).answer ≡ (receive_step u.station now t).answer
    → (unit_step u now call).answer ≡ UnitAnswer.Passed (model.Answer.Accepted (Some m) sent)
    → handing u.station t.pdu.body ≡ Some m
handed_out u now call t m sent within passed =
    let part = passed_part u now call (model.Answer.Accepted (Some m) sent) passed in
    let whole = handed_whole m sent (step_within u.station now call).answer part in
    (accepted_by u.station now t (Some m) whole.0 (sym within ∙ whole.1)).0

-- a frame with which a station answers a packet is sent on
pub answered_on : (s : StationModel) (now : ℕ) (t f : Transmission) (handed : Option Message)
    → (receive_step s now t).answer ≡ model.Answer.Accepted handed (Some f)
    → IsSentOn (after_hearing s now t) t (Some f)
answered_on s now t f handed answered =
    subst (IsSentOn (after_hearing s now t) t) (accepted_by s now t handed (Some f) answered).1
    (relayed_is (after_hearing s now t) now t t.pdu.body)

-- a frame in which a unit sends one on
pub sent_on : (u : UnitModel) (now : ℕ) (call : UnitCall) (t f : Transmission)
    (handed : Option Message)
    → (step_within u.station now call).answer ≡ (receive_step u.station now t).answer
    → (unit_step u now call).answer ≡ UnitAnswer.Passed (model.Answer.Accepted handed (Some f))
    → IsSentOn (after_hearing u.station now t) t (Some f)
sent_on u now call t f handed within passed =
    let part = passed_part u now call (model.Answer.Accepted handed (Some f)) passed in
    let whole = sent_of handed f (step_within u.station now call).answer part in
    answered_on u.station now t f whole.0 (sym within ∙ whole.1)

-- ---- the frame of an answer

-- a frame that a part of an answer has, if it's not that of an accepted one
pub frame_is : (answer : Answer Transmission) (t : Transmission) → world.frame_of answer ≡ Some t
    → (answer ≡ model.Answer.Sent t)
    ⊎ ((handed : Option Message) × (answer ≡ model.Answer.Accepted handed (Some t)))
frame_is (model.Answer.Sent u) t e = inl (ap model.Answer.Sent (same_Some u t e))
frame_is (model.Answer.Accepted handed sent) t e =
    inr (handed, ap (model.Answer.Accepted handed) e)
frame_is model.Answer.Moved t e = absurd (none-some t e)
frame_is model.Answer.Opened t e = absurd (none-some t e)
frame_is model.Answer.Closed t e = absurd (none-some t e)
frame_is model.Answer.Restarted t e = absurd (none-some t e)
frame_is model.Answer.Quiet t e = absurd (none-some t e)
frame_is (model.Answer.Ignored why) t e = absurd (none-some t e)
frame_is (model.Answer.Refused refusal) t e = absurd (none-some t e)

-- a frame that passes as sent is sent by the station
pub sent_whole : (u : UnitModel) (now : ℕ) (call : UnitCall) (t : Transmission)
    → (unit_step u now call).answer ≡ UnitAnswer.Passed (model.Answer.Sent t)
    → (step_within u.station now call).answer ≡ model.Answer.Sent t
sent_whole u now call t passed = sym (passed_part u now call (model.Answer.Sent t) passed)

-- ---- own calls accept nothing, and a frame that is read is not an own packet

abbrev Accepts : Answer Transmission → Type 0
Accepts (model.Answer.Accepted handed sent) = Unit {0}
Accepts answer = ⊥

performed_none : (s : StationModel) (now : ℕ) (call : OwnCall)
    → Accepts (performed s now call).answer → ⊥
performed_none s now (model.OwnCall.Move place accurate speed heading) e = e
performed_none s now (model.OwnCall.Open port) e = e
performed_none s now (model.OwnCall.Close port) e = e
performed_none s now (model.OwnCall.Tick jitter) e = by (leb (s.beacon_from + jitter) now) e
  where
    by : (b : Bool)
        → Accepts
        (cond {A = Step} b (record { answer = model.Answer.Sent (beacon_of s); station = after_sending s now })
        (record { answer = model.Answer.Quiet; station = record s { clock = now } })).answer
        → ⊥
    by true e = e
    by false e = e
performed_none s now (model.OwnCall.SendShb r) e = e
performed_none s now (model.OwnCall.SendGbc r) e = e
performed_none s now (model.OwnCall.SendGac r) e = e
performed_none s now (model.OwnCall.Restart number) e = e

own_none : (s : StationModel) (now : ℕ) (call : OwnCall)
    → Accepts (own_step s now call).answer → ⊥
unfolding own_step
own_none s now call e = by (first (moment_refusal s now) (own_refusal s call)) e
  where
    by : (o : Option Refusal) → Accepts (own_step_by s now call o).answer → ⊥
    by (Some r) e = e
    by None e = performed_none s now call e

beside_none : (s : StationModel) (o : Option Refusal) (done : Step) → (Accepts done.answer → ⊥)
    → Accepts (step_by s o done).answer → ⊥
beside_none s (Some r) done not e = e
beside_none s None done not e = not e

own_accepts_none : (s : StationModel) (now : ℕ) (call : UnitCall) → IsTrue (is_own call)
    → Accepts (step_within s now call).answer → ⊥
own_accepts_none s now (UnitCall.Own call) own e = own_none s now call e
own_accepts_none s now (UnitCall.MoveAt timestamp place accurate speed heading) own e =
    beside_none s (moment_refusal s now) (record {
      answer = model.Answer.Moved;
      station = stands_at s now timestamp place accurate speed heading;
    }) (λ x. x) e
own_accepts_none s now (UnitCall.SendShbFor options request) own e =
    beside_none s (shb_refusal s now request) (record {
      answer = model.Answer.Sent (shb_for s options request);
      station = after_sending s now;
    }) (λ x. x) e
own_accepts_none s now (UnitCall.Receive call) own e = absurd (false≢true own)
own_accepts_none s now (UnitCall.ReceiveVerified call) own e = absurd (false≢true own)

-- the frame that an own call sends is an own packet
pub own_sent : (u : UnitModel) (now : ℕ) (call : UnitCall) (answer : Answer Transmission)
    (t : Transmission) → IsTrue (is_own call)
    → (unit_step u now call).answer ≡ UnitAnswer.Passed answer → world.frame_of answer ≡ Some t
    → answer ≡ model.Answer.Sent t
own_sent u now call answer t own passed gives =
    elim (frame_is answer t gives) [
      | inl sent ↦ sent
      | inr accepted ↦ absurd (never accepted.0 accepted.1)
    ]
  where
    never : (handed : Option Message) → answer ≡ model.Answer.Accepted handed (Some t) → ⊥
    never handed is =
        let whole = sent_of handed t (step_within u.station now call).answer
        (passed_part u now call (model.Answer.Accepted handed (Some t))
        (passed ∙ ap UnitAnswer.Passed is)) in
        own_accepts_none u.station now call own (subst Accepts (sym whole.1) tt)

-- a frame that came is never answered with an own packet
received_sends_none : (s : StationModel) (now : ℕ) (v : VerifiedCall) (t : Transmission)
    → (verified_step s now v).answer ≡ model.Answer.Sent t → ⊥
unfolding receive_step
received_sends_none s now (VerifiedCall.Came v) t e = by (verdict s now v.frame) e
  where
    by : (d : Verdict) → (receive_step_by s now v.frame d).answer ≡ model.Answer.Sent t → ⊥
    by (Verdict.Refuse r) e = cc
    by (Verdict.Ignore why) e = cc
    by Verdict.Accept e = cc
received_sends_none s now (VerifiedCall.Faulty fault) t e = by (moment_refusal s now) e
  where
    by : (o : Option Refusal) → (secured_step_by s fault o).answer ≡ model.Answer.Sent t → ⊥
    by (Some r) e = cc
    by None e = cc

-- so the frame of an answer to one is that of an accepted packet
pub received_sent : (u : UnitModel) (now : ℕ) (v : VerifiedCall) (answer : Answer Transmission)
    (t : Transmission)
    → (unit_step u now (UnitCall.ReceiveVerified v)).answer ≡ UnitAnswer.Passed answer
    → world.frame_of answer ≡ Some t
    → (handed : Option Message) × (answer ≡ model.Answer.Accepted handed (Some t))
received_sent u now v answer t passed gives =
    elim (frame_is answer t gives) [
      | inl sent ↦ absurd (received_sends_none u.station now v t
          (sent_whole u now (UnitCall.ReceiveVerified v) t
          (passed ∙ ap UnitAnswer.Passed sent)))
      | inr accepted ↦ accepted
    ]

-- octets that are no packet with their plain part are not accepted
pub faulty_none : (u : UnitModel) (now : ℕ) (fault : SecuredFault) (handed : Option Message)
    (t : Transmission)
    → (unit_step u now (UnitCall.ReceiveVerified (VerifiedCall.Faulty fault))).answer
    ≡ UnitAnswer.Passed (model.Answer.Accepted handed (Some t)) → ⊥
faulty_none u now fault handed t passed =
    let call = UnitCall.ReceiveVerified (VerifiedCall.Faulty fault) in
    let whole = sent_of handed t (step_within u.station now call).answer
    (passed_part u now call (model.Answer.Accepted handed (Some t)) passed) in
    by whole.0 (moment_refusal u.station now) whole.1
  where
    by : (message : Option Message) (o : Option Refusal)
        → (secured_step_by u.station fault o).answer ≡ model.Answer.Accepted message (Some t) → ⊥
    by message (Some r) e = cc
    by message None e = cc

-- and change nothing
pub faulty_stays : (u : UnitModel) (now : ℕ) (fault : SecuredFault)
    → (unit_step u now (UnitCall.ReceiveVerified (VerifiedCall.Faulty fault))).unit ≡ u
faulty_stays u now fault = by (moment_refusal u.station now)
  where
    by : (o : Option Refusal)
        → (passed_step u now (UnitCall.ReceiveVerified (VerifiedCall.Faulty fault))
        (secured_step_by u.station fault o)).unit ≡ u
    by (Some r) = refl
    by None = refl

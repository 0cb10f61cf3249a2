-- Many calls of a unit.
use Rattle.std.proofs.Common.{◌≡◌, ℕ, zero, suc, ◌^◌, ◌&&◌, leb, ltb, not, Bool, true, false, cond}
use Rattle.std.proofs.Common.{List, [], ◌∷◌, ◌++◌, Option, Some, None, refl, sym, ap, ◌∙◌, subst}
use Rattle.std.proofs.Common.{is_some, inl, inr, length}
use Rattle.std.proofs.lemmas.Bool.{ltb-false, le-leb, false≢true}
use Rattle.std.proofs.lemmas.Option.{none-some, same_Some}
use Rattle.std.specs.Option.{option_map}
use Rattle.its_model.specs.Packet.{Message, Transmission}
use Rattle.its_model.specs.Calls as model
use Rattle.its_model.specs.Calls.{Answer, Call, OwnCall, Refusal, ShbRequest}
use Rattle.its_model.specs.Station.{StationModel, Step, station_step, own_step, own_step_by}
use Rattle.its_model.specs.Station.{own_refusal, first, payload_refusal, after_sending}
use Rattle.its_model.specs.Station.{moment_refusal}
use Rattle.its_model.specs.Isolation.{TimedCall, station_run}
use Rattle.its_station.specs.Beside.{send_shb_for_step, shb_for, step_by}
use Rattle.its_station.specs.declared.requests.ShbOptions.{ShbOptions}
use Rattle.its_station.specs.Receiving.{VerifiedCall}
use Rattle.its_governor.specs.declared.bucket.Bucket.{Bucket}
use Rattle.its_governor.specs.declared.governor.Governor.{Governor}
use Rattle.its_governor.specs.declared.receiver.Receiver.{Receiver}
use Rattle.its_governor.specs.declared.rate.Limits.{Limits}
use Rattle.its_governor.specs.Bucket.{full, drawn, drawn_at, has_room, MayPass}
use Rattle.its_governor.specs.Sources.{Forwarded}
use Rattle.its_governor.specs.Governing.{governed, is_repeated_in, after_call, kept}
use Rattle.its_governor.specs.Governing.{after_judging, after_delivery, after_forwarding, passed_of}
use Rattle.its_governor.specs.Governing.{draw_from, room_in, is_echo, has_room_for, IsNewGovernor}
use Rattle.its_governor.specs.Governing.{source_room}
use Rattle.its_governor.specs.Pressure.{has_share_of}
use Rattle.its_governor.specs.Deliveries.{GovernedCall, after_governed}
use Rattle.its_governor.specs.Forwarding as limits
use Rattle.its_governor.specs.Forwarding.{forward_if, forwarded_by, forwarded, times}
use Rattle.its_governor.proofs.Bounds.{bounded}
use Rattle.its_governor.proofs.Forwarding.{Passed, passed_in}
use Rattle.its_model.specs.Contention.{Fate, first_due, kept_at}
use Rattle.its_contention.specs.Buffer.{Buffer, after_drop, after_late}
use Rattle.its_contention.specs.Waiting.{Waiting}
use Rattle.its_unit.specs.Contending.{Released, after_due_frame, at_once, fate_in}
use Rattle.its_unit.specs.Contending.{has_room_for_due, left_in, receiver_for, release_first}
use Rattle.its_unit.specs.Contending.{released_or}
use Rattle.its_unit.specs.Releases.{release_by, release_of}
use Rattle.its_unit.specs.Unit.{UnitModel, UnitCall, UnitAnswer, UnitStep, answer_by, frame_of}
use Rattle.its_unit.specs.Unit.{is_request, passed_step, receiver_of, refused_step, step_within}
use Rattle.its_unit.specs.Unit.{unit_step}
use Rattle.its_unit.specs.Runs.{UnitCallAt, unit_run, is_withheld, made, station_after, IsPart}
use Rattle.its_unit.specs.Runs.{IsPartOf, IsStationRun, IsModelRun, AreModelCalls, model_call}
use Rattle.its_unit.specs.Runs.{forwarded_in, frames_forwarded, request_if, requests_sent}
use Rattle.its_unit.specs.Runs.{ReleasesAreWithin, UnitAct, after_act}
use Rattle.its_unit.specs.Runs.{gone_in_act, released_at, times_gone}

-- a step, by whether the call is withheld
abbrev pub step_by_rate : UnitModel → UnitCallAt → Bool → UnitStep
step_by_rate u c p =
    cond p (refused_step u) (passed_step u c.now c.call (step_within u.station c.now c.call))

-- ---- the station within

same_station : (u : UnitModel) (calls : List UnitCallAt)
    → (unit_run u calls).station ≡ station_after u.station (made u calls)
same_station u [] = refl
same_station u (c ∷ calls) = by (λ v. same_station v calls) (is_withheld u c)
  where
    by : ((v : UnitModel) → (unit_run v calls).station ≡ station_after v.station (made v calls))
        → (p : Bool)
        → (unit_run (step_by_rate u c p).unit calls).station
        ≡ station_after u.station (cond p (made (step_by_rate u c p).unit calls)
        (c ∷ made (step_by_rate u c p).unit calls))
    by rest true = rest (refused_step u).unit
    by rest false =
        rest (passed_step u c.now c.call (step_within u.station c.now c.call)).unit

kept_part : {A : Type 0} (b : Bool) (x : Option A) → IsPart (kept b x) x
kept_part true x = inr refl
kept_part false x = inl refl

accepted_part : (echo delivers forwards : Bool) (message : Option Message)
    (frame : Option Transmission)
    → IsPartOf (answer_by echo (model.Answer.Accepted (kept delivers message) (kept forwards frame)))
    (model.Answer.Accepted message frame)
accepted_part true delivers forwards message frame = tt
accepted_part false delivers forwards message frame =
    (kept_part delivers message, kept_part forwards frame)

part_of : (g : Governor) (r : Receiver) (now : ℕ) (f : Option Transmission) (a : Answer Transmission)
    → IsPartOf (answer_by (is_repeated_in g now f a) (governed g r now f a)) a
part_of g r now (Some t) (model.Answer.Accepted message frame) =
    accepted_part (is_echo g.delivered now t)
    (passed_of g r now t (is_some message) (is_some frame)).delivers
    (passed_of g r now t (is_some message) (is_some frame)).forwards message frame
part_of g r now None (model.Answer.Accepted message frame) =
    (kept_part (is_some message) message, kept_part false frame)
part_of g r now f (model.Answer.Sent sent) = refl
part_of g r now f model.Answer.Moved = refl
part_of g r now f model.Answer.Opened = refl
part_of g r now f model.Answer.Closed = refl
part_of g r now f model.Answer.Restarted = refl
part_of g r now f model.Answer.Quiet = refl
part_of g r now f (model.Answer.Ignored why) = refl
part_of g r now f (model.Answer.Refused refusal) = refl

-- what contention leaves of an answer
abbrev pub left_answer : UnitModel → UnitCallAt → Answer Transmission
left_answer u c =
    left_in u.contention (Some u.governor) (step_within u.station c.now c.call).station c.now
    (frame_of c.call) (step_within u.station c.now c.call).answer

kept_none : {A : Type 0} (b : Bool) → kept {A = A} b None ≡ None
kept_none true = refl
kept_none false = refl

waiting_part : (echo delivers forwards : Bool) (message : Option Message)
    (frame : Option Transmission) (its_fate : Fate)
    → IsPartOf (answer_by echo (model.Answer.Accepted (kept delivers message)
    (kept forwards (at_once frame its_fate)))) (model.Answer.Accepted message frame)
waiting_part true delivers forwards message frame (Fate.Waits due) = tt
waiting_part false delivers forwards message frame (Fate.Waits due) =
    (kept_part delivers message, inl (kept_none forwards))
waiting_part echo delivers forwards message frame Fate.Goes =
    accepted_part echo delivers forwards message frame
waiting_part echo delivers forwards message frame Fate.Stays =
    accepted_part echo delivers forwards message frame

-- and what passes of that is a part of the answer
left_part : (o : Option (Buffer Waiting)) (g : Governor) (s : StationModel) (r : Receiver) (now : ℕ)
    (f : Option Transmission) (a : Answer Transmission)
    → IsPartOf (answer_by (is_repeated_in g now f (left_in o (Some g) s now f a))
    (governed g r now f (left_in o (Some g) s now f a))) a
left_part o g s r now None a = part_of g r now None a
left_part None g s r now (Some t) a = part_of g r now (Some t) a
left_part (Some b) g s r now (Some t) (model.Answer.Accepted message frame) =
    let its_fate = fate_in b (Some g) s now t frame in
    let p = passed_of g r now t (is_some message) (is_some (at_once frame its_fate)) in
    waiting_part (is_echo g.delivered now t) p.delivers p.forwards message frame its_fate
left_part (Some b) g s r now (Some t) (model.Answer.Sent sent) = refl
left_part (Some b) g s r now (Some t) model.Answer.Moved = refl
left_part (Some b) g s r now (Some t) model.Answer.Opened = refl
left_part (Some b) g s r now (Some t) model.Answer.Closed = refl
left_part (Some b) g s r now (Some t) model.Answer.Restarted = refl
left_part (Some b) g s r now (Some t) model.Answer.Quiet = refl
left_part (Some b) g s r now (Some t) (model.Answer.Ignored why) = refl
left_part (Some b) g s r now (Some t) (model.Answer.Refused refusal) = refl

part_answered : (u : UnitModel) (c : UnitCallAt) → is_withheld u c ≡ false
    → IsPartOf (unit_step u c.now c.call).answer (step_within u.station c.now c.call).answer
part_answered u c within =
    subst (λ (p : Bool).
    IsPartOf (step_by_rate u c p).answer (step_within u.station c.now c.call).answer) (sym within)
    (left_part u.contention u.governor (step_within u.station c.now c.call).station
    (receiver_of u.station c.now (frame_of c.call)) c.now (frame_of c.call)
    (step_within u.station c.now c.call).answer)

pub station_runs : (u : UnitModel) → IsStationRun u
station_runs u = record {
  station = same_station u;
  answers = λ calls next within. part_answered (unit_run u calls) next within;
}

-- ---- runs of the model

same_step : (s : StationModel) (now : ℕ) (call : UnitCall) (c : Call) → model_call call ≡ Some c
    → step_within s now call ≡ station_step s now c
same_step s now (UnitCall.Own own) c is =
    ap (λ (x : Call). station_step s now x) (same_Some (model.Call.Own own) c is)
same_step s now (UnitCall.MoveAt timestamp place accurate speed heading) c is =
    absurd (none-some c is)
same_step s now (UnitCall.SendShbFor options request) c is = absurd (none-some c is)
same_step s now (UnitCall.Receive call) c is =
    ap (λ (x : Call). station_step s now x) (same_Some call c is)
same_step s now (UnitCall.ReceiveVerified (VerifiedCall.Came v)) c is =
    ap (λ (x : Call). station_step s now x) (same_Some (model.Call.Receive v.frame) c is)
same_step s now (UnitCall.ReceiveVerified (VerifiedCall.Faulty fault)) c is =
    absurd (none-some c is)

same_run : (s : StationModel) (calls : List UnitCallAt) (timed : List TimedCall)
    → AreModelCalls calls timed → station_after s calls ≡ station_run s timed
same_run s [] [] are = refl
same_run s [] (t ∷ timed) are = absurd are
same_run s (c ∷ calls) [] are = absurd are
same_run s (c ∷ calls) (t ∷ timed) are =
    let step = same_step s c.now c.call t.call are.1
    ∙ ap (λ (now : ℕ). station_step s now t.call) (sym are.0) in
    ap (λ (x : Step). station_after x.station calls) step
    ∙ same_run (station_step s t.moment t.call).station calls timed are.2

pub model_runs : (u : UnitModel) → IsModelRun u
model_runs u calls timed are =
    same_station u calls ∙ same_run u.station (made u calls) timed are

-- ---- what is forwarded, as the limits see it

abbrev pub governed_by_rate : UnitModel → UnitCallAt → Bool → GovernedCall
governed_by_rate u c p =
    cond p GovernedCall.OverRate
    (GovernedCall.Answered (receiver_of u.station c.now (frame_of c.call)) c.now (is_request c.call) (frame_of c.call)
    (left_answer u c))

abbrev pub governed_calls : UnitModel → List UnitCallAt → List GovernedCall
governed_calls u [] = []
governed_calls u (c ∷ calls) =
    governed_by_rate u c (is_withheld u c)
    ∷ governed_calls (unit_step u c.now c.call).unit calls

pub governed_next : (u : UnitModel) (c : UnitCallAt) (p : Bool)
    → (step_by_rate u c p).unit.governor ≡ after_governed u.governor (governed_by_rate u c p)
governed_next u c true = refl
governed_next u c false = refl

-- an accepted packet is sent on if it passes
sent_on : (t : Transmission) (now : ℕ) (message : Option Message) (frame : Option Transmission)
    (echo room : Bool)
    → forwarded_in (Some t) (answer_by echo (model.Answer.Accepted
    (kept (is_some message && not echo) message)
    (kept (is_some frame && (not echo && room)) frame))) now
    ≡ forward_if (is_some frame && (not echo && room)) now t
sent_on t now message None true room = refl
sent_on t now message None false room = refl
sent_on t now message (Some frame) true room = refl
sent_on t now message (Some frame) false true = refl
sent_on t now message (Some frame) false false = refl

none_sent_on : (now : ℕ) (answer : UnitAnswer) → forwarded_in None answer now ≡ []
none_sent_on now (UnitAnswer.Passed answer) = refl
none_sent_on now UnitAnswer.Repeated = refl
none_sent_on now UnitAnswer.OverRate = refl

withheld_sends_on : (f : Option Transmission) (now : ℕ)
    → forwarded_in f UnitAnswer.OverRate now ≡ []
withheld_sends_on None now = refl
withheld_sends_on (Some t) now = refl

forwarded_of : (g : Governor) (r : Receiver) (now : ℕ) (f : Option Transmission) (a : Answer Transmission)
    → forwarded_in f (answer_by (is_repeated_in g now f a) (governed g r now f a)) now
    ≡ forwarded_by g r now f a
forwarded_of g r now (Some t) (model.Answer.Accepted message frame) =
    sent_on t now message frame (is_echo g.delivered now t) (has_room_for g r now t)
forwarded_of g r now None (model.Answer.Accepted message frame) = refl
forwarded_of g r now None (model.Answer.Sent sent) = refl
forwarded_of g r now None model.Answer.Moved = refl
forwarded_of g r now None model.Answer.Opened = refl
forwarded_of g r now None model.Answer.Closed = refl
forwarded_of g r now None model.Answer.Restarted = refl
forwarded_of g r now None model.Answer.Quiet = refl
forwarded_of g r now None (model.Answer.Ignored why) = refl
forwarded_of g r now None (model.Answer.Refused refusal) = refl
forwarded_of g r now (Some t) (model.Answer.Sent sent) = refl
forwarded_of g r now (Some t) model.Answer.Moved = refl
forwarded_of g r now (Some t) model.Answer.Opened = refl
forwarded_of g r now (Some t) model.Answer.Closed = refl
forwarded_of g r now (Some t) model.Answer.Restarted = refl
forwarded_of g r now (Some t) model.Answer.Quiet = refl
forwarded_of g r now (Some t) (model.Answer.Ignored why) = refl
forwarded_of g r now (Some t) (model.Answer.Refused refusal) = refl

pub forwarded_next : (u : UnitModel) (c : UnitCallAt) (p : Bool)
    → forwarded_in (frame_of c.call) (step_by_rate u c p).answer c.now
    ≡ limits.forwarded_in u.governor (governed_by_rate u c p)
forwarded_next u c true = withheld_sends_on (frame_of c.call) c.now
forwarded_next u c false =
    forwarded_of u.governor (receiver_of u.station c.now (frame_of c.call)) c.now (frame_of c.call) (left_answer u c)

pub same_forwarded : (u : UnitModel) (calls : List UnitCallAt)
    → forwarded u.governor (governed_calls u calls) ≡ frames_forwarded u calls
same_forwarded u [] = refl
same_forwarded u (c ∷ calls) =
    let next = (unit_step u c.now c.call).unit in
    let call = governed_by_rate u c (is_withheld u c) in
    ap (λ (fs : List Forwarded). fs ++ forwarded (after_governed u.governor call) (governed_calls next calls))
    (sym (forwarded_next u c (is_withheld u c)))
    ∙ ap (λ (g : Governor). forwarded_in (frame_of c.call) (unit_step u c.now c.call).answer c.now
    ++ forwarded g (governed_calls next calls)) (sym (governed_next u c (is_withheld u c)))
    ∙ ap (λ (fs : List Forwarded).
    forwarded_in (frame_of c.call) (unit_step u c.now c.call).answer c.now ++ fs)
    (same_forwarded next calls)

-- ---- own packets

forwarding_own : (g : Governor) (now source : ℕ) (sent forwards : Bool)
    → (after_forwarding g now source sent forwards).own ≡ g.own
forwarding_own g now source true true = refl
forwarding_own g now source true false = refl
forwarding_own g now source false true = refl
forwarding_own g now source false false = refl

delivery_own : (g : Governor) (now : ℕ) (t : Transmission) (handed delivers : Bool)
    → (after_delivery g now t handed delivers).own ≡ g.own
delivery_own g now t true true = refl
delivery_own g now t true false = refl
delivery_own g now t false true = refl
delivery_own g now t false false = refl

judging_own : (g : Governor) (r : Receiver) (now : ℕ) (t : Transmission) (handed sent : Bool)
    → (after_judging g r now t handed sent).own ≡ g.own
judging_own g r now t handed sent =
    let p = passed_of g r now t handed sent in
    delivery_own (after_forwarding g now t.pdu.vector.address sent p.forwards) now t
    p.is_repeated p.delivers
    ∙ forwarding_own g now t.pdu.vector.address sent p.forwards

is_sent : Answer Transmission → Bool
is_sent (model.Answer.Sent frame) = true
is_sent answer = false

-- a moment that isn't refused
in_time : (s : StationModel) (now : ℕ) (P : Option Refusal → Type 0)
    → ((r : Refusal) → P (Some r) → ⊥)
    → P (cond (ltb now s.clock) (Some model.Refusal.MomentEarlier)
    (cond (ltb (2 ^ 62) now) (Some model.Refusal.MomentTooLate) None))
    → (leb s.clock now && leb now (2 ^ 62)) ≡ true
in_time s now P never h = by (ltb now s.clock) (ltb (2 ^ 62) now) refl refl h
  where
    both_true : (a b : Bool) → a ≡ true → b ≡ true → (a && b) ≡ true
    both_true true true p q = refl
    both_true true false p q = absurd (false≢true q)
    both_true false b p q = absurd (false≢true p)

    by : (p q : Bool) → ltb now s.clock ≡ p → ltb (2 ^ 62) now ≡ q
        → P (cond p (Some model.Refusal.MomentEarlier)
        (cond q (Some model.Refusal.MomentTooLate) None))
        → (leb s.clock now && leb now (2 ^ 62)) ≡ true
    by true q a b h = absurd (never model.Refusal.MomentEarlier h)
    by false true a b h = absurd (never model.Refusal.MomentTooLate h)
    by false false a b h =
        both_true _ _ (le-leb s.clock now (ltb-false now s.clock a))
        (le-leb now (2 ^ 62) (ltb-false (2 ^ 62) now b))

-- what is sent is sent at a time that isn't refused
own_in_time : (s : StationModel) (now : ℕ) (own : OwnCall) (t : Transmission)
    → (own_step s now own).answer ≡ model.Answer.Sent t
    → (leb s.clock now && leb now (2 ^ 62)) ≡ true
unfolding own_step is_sent
own_in_time s now own t e =
    in_time s now
    (λ (o : Option Refusal).
    (own_step_by s now own (first o (own_refusal s own))).answer ≡ model.Answer.Sent t)
    (λ r h. false≢true (ap is_sent h)) e

shb_in_time : (s : StationModel) (now : ℕ) (options : ShbOptions) (r : ShbRequest)
    (t : Transmission)
    → (send_shb_for_step s now options r).answer ≡ model.Answer.Sent t
    → (leb s.clock now && leb now (2 ^ 62)) ≡ true
unfolding is_sent
shb_in_time s now options r t e =
    in_time s now
    (λ (o : Option Refusal). (step_by s (first o (payload_refusal r.message)) (record {
      answer = model.Answer.Sent (shb_for s options r);
      station = after_sending s now;
    })).answer ≡ model.Answer.Sent t)
    (λ r h. false≢true (ap is_sent h)) e

sent_in_time : (s : StationModel) (now : ℕ) (call : UnitCall) (t : Transmission)
    → is_request call ≡ true → (step_within s now call).answer ≡ model.Answer.Sent t
    → (leb s.clock now && leb now (2 ^ 62)) ≡ true
sent_in_time s now (UnitCall.Own own) t is e = own_in_time s now own t e
sent_in_time s now (UnitCall.SendShbFor options request) t is e =
    shb_in_time s now options request t e
sent_in_time s now (UnitCall.MoveAt timestamp place accurate speed heading) t is e =
    absurd (false≢true is)
sent_in_time s now (UnitCall.Receive call) t is e = absurd (false≢true is)
sent_in_time s now (UnitCall.ReceiveVerified call) t is e = absurd (false≢true is)

-- a request that is sent had room
had_room : (request in_range room : Bool) → request ≡ true → in_range ≡ true
    → (request && (in_range && not room)) ≡ false → room ≡ true
had_room true true true a b e = refl
had_room true true false a b e = absurd (false≢true (sym e))
had_room true false room a b e = absurd (false≢true b)
had_room false in_range room a b e = absurd (false≢true a)

-- what the bucket of own packets lets pass in a call, and what it is then
pub record SentWith (b : Bucket) (sent : List ℕ) (new : Option Bucket) : Type 0 where
  pub pass : (rest : List ℕ) → ((after : Bucket) → new ≡ Some after → MayPass after rest)
      → MayPass b (sent ++ rest)
  pub some : (after : Bucket) × (new ≡ Some after) × (after.rate ≡ b.rate)

pub sent_none : (b : Bucket) (new : Option Bucket) → new ≡ Some b → SentWith b [] new
sent_none b new is = record { pass = λ rest h. h b is; some = (b, is, refl) }

sent_one : (b : Bucket) (now : ℕ) (new : Option Bucket) → has_room b now ≡ true
    → new ≡ Some (drawn b now) → SentWith b (now ∷ []) new
sent_one b now new room is = record {
  pass = λ rest h. (room, h (drawn b now) is);
  some = (drawn b now, is, refl);
}

none_requested : (now : ℕ) (echo : Bool) (message : Option Message) (frame : Option Transmission)
    → request_if true (answer_by echo (model.Answer.Accepted message frame)) now ≡ []
none_requested now true message frame = refl
none_requested now false message frame = refl

-- of a call that is made
sent_made : (b : Bucket) (s : StationModel) (g : Governor) (r : Receiver) (now : ℕ)
    (request : Bool) (f : Option Transmission) (a : Answer Transmission) → g.own ≡ Some b
    → ((t : Transmission) → request ≡ true → a ≡ model.Answer.Sent t → room_in g.own now ≡ true)
    → SentWith b (request_if request (answer_by (is_repeated_in g now f a) (governed g r now f a)) now)
    (after_call g r now request f a).own
sent_made b s g r now true (Some t) (model.Answer.Accepted message frame) is room =
    subst (λ (l : List ℕ). SentWith b l (after_judging g r now t (is_some message) (is_some frame)).own)
    (sym (none_requested now (is_echo g.delivered now t) _ _))
    (sent_none b _ (judging_own g r now t (is_some message) (is_some frame) ∙ is))
sent_made b s g r now false (Some t) (model.Answer.Accepted message frame) is room =
    sent_none b _ (judging_own g r now t (is_some message) (is_some frame) ∙ is)
sent_made b s g r now true None (model.Answer.Accepted message frame) is room = sent_none b _ is
sent_made b s g r now false None (model.Answer.Accepted message frame) is room = sent_none b _ is
sent_made b s g r now true f (model.Answer.Sent sent) is room =
    sent_one b now _
    (subst (λ (o : Option Bucket). room_in o now ≡ true) is (room sent refl refl))
    (ap (λ (o : Option Bucket). draw_from o now) is)
sent_made b s g r now false f (model.Answer.Sent sent) is room = sent_none b _ is
sent_made b s g r now true f model.Answer.Moved is room = sent_none b _ is
sent_made b s g r now true f model.Answer.Opened is room = sent_none b _ is
sent_made b s g r now true f model.Answer.Closed is room = sent_none b _ is
sent_made b s g r now true f model.Answer.Restarted is room = sent_none b _ is
sent_made b s g r now true f model.Answer.Quiet is room = sent_none b _ is
sent_made b s g r now true f (model.Answer.Ignored why) is room = sent_none b _ is
sent_made b s g r now true f (model.Answer.Refused refusal) is room = sent_none b _ is
sent_made b s g r now false f model.Answer.Moved is room = sent_none b _ is
sent_made b s g r now false f model.Answer.Opened is room = sent_none b _ is
sent_made b s g r now false f model.Answer.Closed is room = sent_none b _ is
sent_made b s g r now false f model.Answer.Restarted is room = sent_none b _ is
sent_made b s g r now false f model.Answer.Quiet is room = sent_none b _ is
sent_made b s g r now false f (model.Answer.Ignored why) is room = sent_none b _ is
sent_made b s g r now false f (model.Answer.Refused refusal) is room = sent_none b _ is

withheld_request : (request : Bool) (now : ℕ) → request_if request UnitAnswer.OverRate now ≡ []
withheld_request true now = refl
withheld_request false now = refl

-- contention leaves an own packet as it is
left_sent : (o : Option (Buffer Waiting)) (g : Governor) (s : StationModel) (now : ℕ)
    (f : Option Transmission) (a : Answer Transmission) (t : Transmission)
    → left_in o (Some g) s now f a ≡ model.Answer.Sent t → a ≡ model.Answer.Sent t
unfolding is_sent
left_sent o g s now None a t e = e
left_sent None g s now (Some f) a t e = e
left_sent (Some b) g s now (Some f) (model.Answer.Accepted message frame) t e =
    absurd (false≢true (ap is_sent e))
left_sent (Some b) g s now (Some f) (model.Answer.Sent sent) t e = e
left_sent (Some b) g s now (Some f) model.Answer.Moved t e = e
left_sent (Some b) g s now (Some f) model.Answer.Opened t e = e
left_sent (Some b) g s now (Some f) model.Answer.Closed t e = e
left_sent (Some b) g s now (Some f) model.Answer.Restarted t e = e
left_sent (Some b) g s now (Some f) model.Answer.Quiet t e = e
left_sent (Some b) g s now (Some f) (model.Answer.Ignored why) t e = e
left_sent (Some b) g s now (Some f) (model.Answer.Refused refusal) t e = e

pub sent_next : (b : Bucket) (u : UnitModel) (c : UnitCallAt) (p : Bool) → is_withheld u c ≡ p
    → u.governor.own ≡ Some b
    → SentWith b (request_if (is_request c.call) (step_by_rate u c p).answer c.now)
    (step_by_rate u c p).unit.governor.own
sent_next b u c true e is =
    subst (λ (l : List ℕ). SentWith b l u.governor.own)
    (sym (withheld_request (is_request c.call) c.now)) (sent_none b u.governor.own is)
sent_next b u c false e is =
    sent_made b u.station u.governor (receiver_of u.station c.now (frame_of c.call)) c.now (is_request c.call) (frame_of c.call)
    (left_answer u c) is
    (λ t request sent.
    had_room (is_request c.call) (leb u.station.clock c.now && leb c.now (2 ^ 62))
    (room_in u.governor.own c.now) request
    (sent_in_time u.station c.now c.call t request
    (left_sent u.contention u.governor (step_within u.station c.now c.call).station c.now
    (frame_of c.call) (step_within u.station c.now c.call).answer t sent)) e)

pub all_sent : (b : Bucket) (u : UnitModel) (calls : List UnitCallAt) → u.governor.own ≡ Some b
    → MayPass b (requests_sent u calls)
all_sent b u [] is = tt
all_sent b u (c ∷ calls) is =
    let next = (unit_step u c.now c.call).unit in
    (sent_next b u c (is_withheld u c) refl is).pass (requests_sent next calls)
    (λ after same. all_sent after next calls same)

-- ---- what goes out, by calls and releases

-- of three tests that hold together the first does
first_holds : (a b c : Bool) → (a && b && c) ≡ true → a ≡ true
first_holds true b c e = refl
first_holds false b c e = absurd (false≢true e)

-- a frame that is dropped takes nothing out of the bucket
dropped_forward : (g : Governor) (now : ℕ) (first : Option Waiting)
    → (after_due_frame g now first false).forward ≡ g.forward
dropped_forward g now None = refl
dropped_forward g now (Some frame) = refl

released_passes : (most address now : ℕ) (b : Bucket) (held : Buffer Waiting) (g : Governor)
    → g.forward ≡ Some b
    → Passed b (released_at (release_first most address now held g).frame now)
    (release_first most address now held g).governor.forward
released_passes zero address now b held g is = record { pass = tt; is = is }
released_passes (suc most) address now b held g is =
    by (first_due now held.held) (has_room_for_due g address now (first_due now held.held))
    (release_first most address now (after_drop held now)
    (after_due_frame g now (first_due now held.held) false)) refl
    (released_passes most address now b (after_drop held now)
    (after_due_frame g now (first_due now held.held) false)
    (dropped_forward g now (first_due now held.held) ∙ is))
  where
    by : (first : Option Waiting) (room : Bool) (rest : Released)
        → has_room_for_due g address now first ≡ room
        → Passed b (released_at rest.frame now) rest.governor.forward
        → Passed b (released_at (released_or held g now first room rest).frame now)
        (released_or held g now first room rest).governor.forward
    by None room rest has next = record { pass = tt; is = is }
    by (Some frame) true rest has next = record {
      pass = (
        subst (λ (o : Option Bucket). room_in o now ≡ true) is
            (first_holds (room_in g.forward now) (source_room g.sources frame.source now)
            (has_share_of g.forward g.shares (receiver_for address frame) now frame.source
            frame.number) has),
        tt,
      );
      is = ap (λ (o : Option Bucket). draw_from o now) is;
    }
    by (Some frame) false rest has next = next

release_passes : (b : Bucket) (u : UnitModel) (now : ℕ) (o : Option Refusal)
    → u.governor.forward ≡ Some b
    → Passed b (released_at (release_by u now o).frame now)
    (release_by u now o).unit.governor.forward
release_passes b u now (Some refusal) is = record { pass = tt; is = is }
release_passes b u now None is = by u.contention
  where
    by : (o : Option (Buffer Waiting))
        → Passed b (released_at (release_of u now o).frame now)
        (release_of u now o).unit.governor.forward
    by None = record { pass = tt; is = is }
    by (Some held) =
        released_passes (length (kept_at now held.held)) u.station.address now b
        (after_late held now) u.governor is

act_passes : (b : Bucket) (u : UnitModel) (a : UnitAct) → u.governor.forward ≡ Some b
    → Passed b (gone_in_act u a) (after_act u a).governor.forward
act_passes b u (UnitAct.Releases now) is =
    release_passes b u now (moment_refusal u.station now) is
act_passes b u (UnitAct.Calls c) is = by (is_withheld u c)
  where
    by : (p : Bool)
        → Passed b (forwarded_in (frame_of c.call) (step_by_rate u c p).answer c.now)
        (step_by_rate u c p).unit.governor.forward
    by true =
        subst (λ (fs : List Forwarded). Passed b fs (refused_step u).unit.governor.forward)
        (sym (forwarded_next u c true)) (passed_in b u.governor (governed_by_rate u c true) is)
    by false =
        subst (λ (fs : List Forwarded). Passed b fs
        (passed_step u c.now c.call (step_within u.station c.now c.call)).unit.governor.forward)
        (sym (forwarded_next u c false)) (passed_in b u.governor (governed_by_rate u c false) is)

-- of one list of times after another
pass_both : (xs ys : List ℕ) (b : Bucket) → MayPass b xs → MayPass (drawn_at b xs) ys
    → MayPass b (xs ++ ys)
pass_both [] ys b first rest = rest
pass_both (x ∷ xs) ys b first rest = (first.0, pass_both xs ys (drawn b x) first.1 rest)

all_gone : (acts : List UnitAct) (b : Bucket) (u : UnitModel) → u.governor.forward ≡ Some b
    → MayPass b (times_gone u acts)
all_gone [] b u is = tt
all_gone (a ∷ acts) b u is =
    let passed = act_passes b u a is in
    pass_both (times (gone_in_act u a)) (times_gone (after_act u a) acts) b passed.pass
    (all_gone acts (drawn_at b (times (gone_in_act u a))) (after_act u a) passed.is)

pub releases_within : (limits : Limits) (u : UnitModel) → IsNewGovernor limits u.governor
    → ReleasesAreWithin limits u
releases_within limits u new rate is acts =
    bounded (full rate) (times_gone u acts)
    (all_gone acts (full rate) u (new.forward ∙ ap (option_map full) is))

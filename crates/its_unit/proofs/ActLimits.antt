-- The limits of a unit in every list of calls and releases. A release is to the limits what packets are
-- that came: each frame that is due is judged as one. So what they promise in lists of calls holds of
-- calls and releases.
use Rattle.std.proofs.Common.{◌≡◌, ◌⊎◌, ◌&&◌, ◌||◌, ℕ, zero, suc, ◌+◌, ◌≤◌, List, [], ◌∷◌, ◌++◌, length}
use Rattle.std.proofs.Common.{not, leb, eqb, Bool, true, false, Option, Some, None, is_some, refl}
use Rattle.std.proofs.Common.{sym, ap, subst, ◌∙◌, arith, ◌≢◌, inl, inr}
use Rattle.std.specs.Prelude.{nat_lt}
use Rattle.std.specs.List.{list_any}
use Rattle.std.specs.Option.{option_map}
use Rattle.std.proofs.lemmas.Bool.{false≢true}
use Rattle.std.proofs.lemmas.Bool.Decides.{nat_tests}
use Rattle.std.proofs.lemmas.Option.{none-some}
use Rattle.its_gnvalue.specs.Values.{PositionVector}
use Rattle.its_geometry.specs.declared.area.Shape.TheVariants.{Circle}
use Rattle.its_model.specs.Packet.{Body, Message, Transmission, number_in}
use Rattle.its_model.specs.Calls as model
use Rattle.its_model.specs.Calls.{Answer, Refusal}
use Rattle.its_model.specs.Contention.{first_due, kept_at}
use Rattle.its_model.specs.Station.{StationModel, moment_refusal}
use Rattle.its_model.proofs.NumberTests.{eq_test}
use Rattle.its_contention.specs.Buffer.{Buffer, after_drop, after_late}
use Rattle.its_contention.specs.Waiting.{Waiting}
use Rattle.its_governor.specs.declared.bucket.Bucket.{Bucket}
use Rattle.its_governor.specs.declared.governor.Governor.{Governor}
use Rattle.its_governor.specs.declared.memory.DeliveredPacket.{DeliveredPacket}
use Rattle.its_governor.specs.declared.memory.PacketId.{PacketId}
use Rattle.its_governor.specs.declared.rate.Limits.{Limits}
use Rattle.its_governor.specs.declared.rate.Rate.{Rate}
use Rattle.its_governor.specs.declared.receiver.Receiver.{Receiver}
use Rattle.its_governor.specs.Bucket.{IsBounded, MayPass, full}
use Rattle.its_governor.specs.Deliveries.{DeliveredAt, GovernedCall, IsUndelivered, after_calls}
use Rattle.its_governor.specs.Deliveries.{after_governed, deliveries, delivered_by, delivered_in}
use Rattle.its_governor.specs.Deliveries.{delivery_if}
use Rattle.its_governor.specs.Forwarding.{RemembersSources, forward_if, forwarded}
use Rattle.its_governor.specs.Forwarding as limits
use Rattle.its_governor.specs.Governing.{IsNewGovernor, after_delivery, after_forwarding, governed}
use Rattle.its_governor.specs.Governing.{id_by, id_of, is_echo, is_over_rate}
use Rattle.its_governor.specs.Governing.{is_remembered}
use Rattle.its_governor.specs.Governing.{is_repeated_in, kept, may_forward, passed_of, room_in}
use Rattle.its_governor.specs.Governing.{source_room}
use Rattle.its_governor.specs.Memory.{MemoryState, is_packet, is_same_packet}
use Rattle.its_governor.specs.Pressure.{has_share_of}
use Rattle.its_governor.specs.Sources.{Forwarded, times_from}
use Rattle.its_governor.proofs.Bounds.{bounded}
use Rattle.its_governor.proofs.Deliveries.{apart, owed}
use Rattle.its_governor.proofs.Forwarding.{sources_stay}
use Rattle.its_unit.specs.Acts.{DeliveriesAreKept, RatesAreKept, delivered_in_act, delivered_in_acts}
use Rattle.its_unit.specs.Acts.{delivered_with, frames_gone, requested_in_act, requests_in}
use Rattle.its_unit.specs.Contending.{Released, after_due_frame, at_once, fate_in, has_room_for_due}
use Rattle.its_unit.specs.Contending.{left_in, receiver_for, release_first, released_or}
use Rattle.its_unit.specs.Releases.{release_by, release_of}
use Rattle.its_unit.specs.Runs.{UnitAct, UnitCallAt, after_act, gone_in_act, is_withheld, released_at}
use Rattle.its_unit.specs.Runs.{unit_acts}
use Rattle.its_unit.specs.Unit.{UnitAnswer, UnitCall, UnitModel, answer_by, frame_of, is_request}
use Rattle.its_unit.specs.Unit.{receiver_of, step_within, unit_step}
use Rattle.its_unit.proofs.Runs.{SentWith, forwarded_next, governed_by_rate, governed_next}
use Rattle.its_unit.proofs.Runs.{left_answer, sent_next, sent_none, step_by_rate}

-- ---- a packet that is to the limits what a frame is that waited

-- a time stamp that none of these packets has
later_stamp : List DeliveredPacket → ℕ
later_stamp [] = 0
later_stamp (p ∷ packets) = suc p.id.timestamp + later_stamp packets

abbrev stamp_in : Option MemoryState → ℕ
stamp_in None = 0
stamp_in (Some m) = later_stamp m.packets

abbrev body_with : PositionVector → Option ℕ → Body
body_with v None = Body.beacon
body_with v (Some number) =
    Body.gbc number (record { shape = Circle; centre = v.place; a = 1; b = 0; angle = 0 })
    (record { port = 0; info = 0; payload = [] })

-- The frame's source and number. The rest of the vector is any.
abbrev stand_in : PositionVector → Option MemoryState → Waiting → Transmission
stand_in v memory w =
    record {
      pdu = record {
        vector = record v { address = w.source; timestamp = stamp_in memory };
        lifetime = 0;
        class = 0;
        mobile = false;
        max_hops = 0;
        body = body_with v w.number;
      };
      hops_left = 0;
      link_source = 0;
      link_target = 0;
    }

same_number : (v : PositionVector) (number : Option ℕ) → number_in (body_with v number) ≡ number
same_number v None = refl
same_number v (Some number) = refl

third_fails : (a b c : Bool) → c ≡ false → (a && b && c) ≡ false
third_fails true true c e = e
third_fails true false c e = refl
third_fails false b c e = refl

fails_then : (a b : Bool) → a ≡ false → (a && b) ≡ false
fails_then true b e = absurd (false≢true (sym e))
fails_then false b e = refl

both_fail : (a b : Bool) → a ≡ false → b ≡ false → (a || b) ≡ false
both_fail true b e d = absurd (false≢true (sym e))
both_fail false b e d = d

none_same : (packets : List DeliveredPacket) (id : PacketId) (now : ℕ)
    → later_stamp packets ≤ id.timestamp → list_any (is_packet id now) packets ≡ false
unfolding later_stamp
none_same [] id now le = refl
none_same (p ∷ packets) id now le =
    both_fail (is_packet id now p) (list_any (is_packet id now) packets)
    (fails_then (is_same_packet p.id id) (nat_lt now p.until)
    (third_fails (eqb p.id.source id.source) (eqb p.id.number id.number)
    (eqb p.id.timestamp id.timestamp) (by (eq_test p.id.timestamp id.timestamp))))
    (none_same packets id now (omega (arith, le)))
  where
    by : ((eqb p.id.timestamp id.timestamp ≡ true) × (p.id.timestamp ≡ id.timestamp))
        ⊎ ((eqb p.id.timestamp id.timestamp ≡ false) × (p.id.timestamp ≢ id.timestamp))
        → eqb p.id.timestamp id.timestamp ≡ false
    by (inl g) = absurd (omega (arith, g.1, le))
    by (inr g) = g.0

-- it is no echo
not_remembered : (v : PositionVector) (memory : Option MemoryState) (source now : ℕ)
    (number : Option ℕ) → (stamp : ℕ) → stamp_in memory ≤ stamp
    → is_remembered memory (id_by (record v { address = source; timestamp = stamp })
    (number_in (body_with v number))) now ≡ false
not_remembered v None source now None stamp le = refl
not_remembered v None source now (Some n) stamp le = refl
not_remembered v (Some m) source now None stamp le = refl
not_remembered v (Some m) source now (Some n) stamp le =
    none_same m.packets (record { source = source; number = n; timestamp = stamp }) now le

no_echo_of : (v : PositionVector) (memory : Option MemoryState) (now : ℕ) (w : Waiting)
    → is_echo memory now (stand_in v memory w) ≡ false
no_echo_of v memory now w =
    not_remembered v memory w.source now w.number (stamp_in memory) (omega arith)

-- ---- a frame that is due, as a call of the limits

abbrev judged : PositionVector → ℕ → ℕ → Governor → Waiting → GovernedCall
judged v address now g w =
    GovernedCall.Answered (receiver_for address w) now false (Some (stand_in v g.delivered w))
    (model.Answer.Accepted None (Some (stand_in v g.delivered w)))

forwards_by : (echo cap common own share room : Bool) → echo ≡ false → cap ≡ true
    → (common && own && share) ≡ room
    → (true && (not echo && (cap && common && own && share))) ≡ room
forwards_by true cap common own share room e c r = absurd (false≢true (sym e))
forwards_by false false common own share room e c r = absurd (false≢true c)
forwards_by false true common own share room e c r = r

no_hops : (cap : ℕ) → leb 0 cap ≡ true
no_hops cap = grind (arith, nat_tests)

-- it passes if the buckets have room
judged_forwards : (v : PositionVector) (address now : ℕ) (g : Governor) (w : Waiting) (room : Bool)
    → has_room_for_due g address now (Some w) ≡ room
    → (passed_of g (receiver_for address w) now (stand_in v g.delivered w) false true).forwards ≡ room
judged_forwards v address now g w room e =
    let r = receiver_for address w in
    forwards_by (is_echo g.delivered now (stand_in v g.delivered w)) (leb 0 g.hop_cap)
    (room_in g.forward now) (source_room g.sources w.source now)
    (has_share_of g.forward g.shares r now w.source (number_in (body_with v w.number))) room
    (no_echo_of v g.delivered now w) (no_hops g.hop_cap)
    (ap (λ (n : Option ℕ). room_in g.forward now && source_room g.sources w.source now
    && has_share_of g.forward g.shares r now w.source n) (same_number v w.number) ∙ e)

-- the limits after it
judged_next : (v : PositionVector) (address now : ℕ) (g : Governor) (w : Waiting) (room : Bool)
    → has_room_for_due g address now (Some w) ≡ room
    → after_governed g (judged v address now g w) ≡ after_due_frame g now (Some w) room
judged_next v address now g w room e =
    let t = stand_in v g.delivered w in
    ap (λ (b : Bool). after_delivery (after_forwarding g now w.source true b) now t
    (is_echo g.delivered now t) false) (judged_forwards v address now g w room e)
    ∙ ap (λ (b : Bool). after_delivery (after_forwarding g now w.source true room) now t b false)
    (no_echo_of v g.delivered now w)

judged_gone : (v : PositionVector) (address now : ℕ) (g : Governor) (w : Waiting) (room : Bool)
    → has_room_for_due g address now (Some w) ≡ room
    → limits.forwarded_in g (judged v address now g w)
    ≡ forward_if room now (stand_in v g.delivered w)
judged_gone v address now g w room e =
    ap (λ (b : Bool). forward_if b now (stand_in v g.delivered w))
    (judged_forwards v address now g w room e)

-- ---- a release, as calls of the limits

abbrev governed_or : PositionVector → ℕ → ℕ → Governor → Option Waiting → Bool
    → List GovernedCall → List GovernedCall
governed_or v address now g None room rest = []
governed_or v address now g (Some w) true rest = judged v address now g w ∷ []
governed_or v address now g (Some w) false rest = judged v address now g w ∷ rest

abbrev governed_first : PositionVector → ℕ → ℕ → ℕ → Buffer Waiting → Governor
    → List GovernedCall
governed_first v zero address now b g = []
governed_first v (suc most) address now b g =
    governed_or v address now g (first_due now b.held)
    (has_room_for_due g address now (first_due now b.held))
    (governed_first v most address now (after_drop b now)
    (after_due_frame g now (first_due now b.held) false))

-- what these calls of the limits lead to: the limits after them, what went out, and what was delivered
record Simulates (g : Governor) (calls : List GovernedCall) (new : Governor)
    (gone : List Forwarded) (delivered : List DeliveredAt → List DeliveredAt) : Type 0 where
  after : after_calls g calls ≡ new
  went : forwarded g calls ≡ gone
  handed : (past : List DeliveredAt) → deliveries g past calls ≡ delivered past

abbrev as_it_was : List DeliveredAt → List DeliveredAt
as_it_was past = past

first_simulates : (v : PositionVector) (most address now : ℕ) (b : Buffer Waiting) (g : Governor)
    → Simulates g (governed_first v most address now b g)
    (release_first most address now b g).governor
    (released_at (release_first most address now b g).frame now) as_it_was
first_simulates v zero address now b g =
    record { after = refl; went = refl; handed = λ past. refl }
first_simulates v (suc most) address now b g =
    by (first_due now b.held) (has_room_for_due g address now (first_due now b.held)) refl
    (governed_first v most address now (after_drop b now)
    (after_due_frame g now (first_due now b.held) false))
    (release_first most address now (after_drop b now)
    (after_due_frame g now (first_due now b.held) false))
    (first_simulates v most address now (after_drop b now)
    (after_due_frame g now (first_due now b.held) false))
  where
    by : (o : Option Waiting) (room : Bool) → has_room_for_due g address now o ≡ room
        → (calls : List GovernedCall) (rest : Released)
        → Simulates (after_due_frame g now o false) calls rest.governor
        (released_at rest.frame now) as_it_was
        → Simulates g (governed_or v address now g o room calls)
        (released_or b g now o room rest).governor
        (released_at (released_or b g now o room rest).frame now) as_it_was
    by None room has calls rest next =
        record { after = refl; went = refl; handed = λ past. refl }
    by (Some w) true has calls rest next = record {
      after = judged_next v address now g w true has;
      went = ap (λ (fs : List Forwarded). fs ++ []) (judged_gone v address now g w true has);
      handed = λ past. refl;
    }
    by (Some w) false has calls rest next = record {
      after = ap (λ (n : Governor). after_calls n calls) (judged_next v address now g w false has)
          ∙ next.after;
      went = ap (λ (fs : List Forwarded).
          fs ++ forwarded (after_governed g (judged v address now g w)) calls)
          (judged_gone v address now g w false has)
          ∙ ap (λ (n : Governor). forwarded n calls) (judged_next v address now g w false has)
          ∙ next.went;
      handed = λ past.
          ap (λ (n : Governor). deliveries n past calls) (judged_next v address now g w false has)
          ∙ next.handed past;
    }

abbrev governed_of : UnitModel → ℕ → Option (Buffer Waiting) → List GovernedCall
governed_of u now None = []
governed_of u now (Some b) =
    governed_first u.station.vector (length (kept_at now b.held)) u.station.address now
    (after_late b now) u.governor

abbrev governed_by_refusal : UnitModel → ℕ → Option Refusal → List GovernedCall
governed_by_refusal u now (Some refusal) = []
governed_by_refusal u now None = governed_of u now u.contention

release_simulates : (u : UnitModel) (now : ℕ) (o : Option Refusal)
    → Simulates u.governor (governed_by_refusal u now o) (release_by u now o).unit.governor
    (released_at (release_by u now o).frame now) as_it_was
release_simulates u now (Some refusal) =
    record { after = refl; went = refl; handed = λ past. refl }
release_simulates u now None = by u.contention
  where
    by : (o : Option (Buffer Waiting))
        → Simulates u.governor (governed_of u now o) (release_of u now o).unit.governor
        (released_at (release_of u now o).frame now) as_it_was
    by None = record { after = refl; went = refl; handed = λ past. refl }
    by (Some b) =
        let s = first_simulates u.station.vector (length (kept_at now b.held)) u.station.address now
        (after_late b now) u.governor in
        record { after = s.after; went = s.went; handed = s.handed }

-- ---- a call

-- what is delivered of an accepted packet
delivered_if : (t : Transmission) (now : ℕ) (message : Option Message)
    (frame : Option Transmission) (echo : Bool)
    → delivered_with (Some t) (answer_by echo (model.Answer.Accepted
    (kept (is_some message && not echo) message) frame)) now
    ≡ delivery_if (is_some message && not echo) now t
delivered_if t now None frame true = refl
delivered_if t now None frame false = refl
delivered_if t now (Some message) frame true = refl
delivered_if t now (Some message) frame false = refl

delivered_of : (g : Governor) (r : Receiver) (now : ℕ) (f : Option Transmission)
    (a : Answer Transmission)
    → delivered_with f (answer_by (is_repeated_in g now f a) (governed g r now f a)) now
    ≡ delivered_by g r now f a
delivered_of g r now (Some t) (model.Answer.Accepted message frame) =
    delivered_if t now message
    (kept (is_some frame && may_forward g r now t) frame) (is_echo g.delivered now t)
delivered_of g r now None (model.Answer.Accepted message frame) = refl
delivered_of g r now None (model.Answer.Sent sent) = refl
delivered_of g r now None model.Answer.Moved = refl
delivered_of g r now None model.Answer.Opened = refl
delivered_of g r now None model.Answer.Closed = refl
delivered_of g r now None model.Answer.Restarted = refl
delivered_of g r now None model.Answer.Quiet = refl
delivered_of g r now None (model.Answer.Ignored why) = refl
delivered_of g r now None (model.Answer.Refused refusal) = refl
delivered_of g r now (Some t) (model.Answer.Sent sent) = refl
delivered_of g r now (Some t) model.Answer.Moved = refl
delivered_of g r now (Some t) model.Answer.Opened = refl
delivered_of g r now (Some t) model.Answer.Closed = refl
delivered_of g r now (Some t) model.Answer.Restarted = refl
delivered_of g r now (Some t) model.Answer.Quiet = refl
delivered_of g r now (Some t) (model.Answer.Ignored why) = refl
delivered_of g r now (Some t) (model.Answer.Refused refusal) = refl

withheld_delivers : (f : Option Transmission) (now : ℕ)
    → delivered_with f UnitAnswer.OverRate now ≡ []
withheld_delivers None now = refl
withheld_delivers (Some t) now = refl

delivered_next : (u : UnitModel) (c : UnitCallAt) (p : Bool)
    → delivered_with (frame_of c.call) (step_by_rate u c p).answer c.now
    ≡ delivered_in u.governor (governed_by_rate u c p)
delivered_next u c true = withheld_delivers (frame_of c.call) c.now
delivered_next u c false =
    delivered_of u.governor (receiver_of u.station c.now (frame_of c.call)) c.now (frame_of c.call)
    (left_answer u c)

-- ---- acts, as calls of the limits

abbrev governed_act : UnitModel → UnitAct → List GovernedCall
governed_act u (UnitAct.Calls c) = governed_by_rate u c (is_withheld u c) ∷ []
governed_act u (UnitAct.Releases now) =
    governed_by_refusal u now (moment_refusal u.station now)

abbrev governed_acts : UnitModel → List UnitAct → List GovernedCall
governed_acts u [] = []
governed_acts u (a ∷ acts) = governed_act u a ++ governed_acts (after_act u a) acts

append_nil : {X : Type 0} (xs : List X) → xs ++ [] ≡ xs
append_nil [] = refl
append_nil (x ∷ xs) = ap (λ l. x ∷ l) (append_nil xs)

act_simulates : (u : UnitModel) (a : UnitAct)
    → Simulates u.governor (governed_act u a) (after_act u a).governor (gone_in_act u a)
    (λ past. delivered_in_act u a ++ past)
act_simulates u (UnitAct.Releases now) =
    let s = release_simulates u now (moment_refusal u.station now) in
    record { after = s.after; went = s.went; handed = s.handed }
act_simulates u (UnitAct.Calls c) =
    let p = is_withheld u c in
    record {
      after = sym (governed_next u c p);
      went = append_nil (limits.forwarded_in u.governor (governed_by_rate u c p))
          ∙ sym (forwarded_next u c p);
      handed = λ past. ap (λ (ds : List DeliveredAt). ds ++ past) (sym (delivered_next u c p));
    }

after_both : (xs ys : List GovernedCall) (g : Governor)
    → after_calls g (xs ++ ys) ≡ after_calls (after_calls g xs) ys
after_both [] ys g = refl
after_both (x ∷ xs) ys g = after_both xs ys (after_governed g x)

append_both : {X : Type 0} (xs ys zs : List X) → xs ++ (ys ++ zs) ≡ (xs ++ ys) ++ zs
append_both [] ys zs = refl
append_both (x ∷ xs) ys zs = ap (λ l. x ∷ l) (append_both xs ys zs)

went_both : (xs ys : List GovernedCall) (g : Governor)
    → forwarded g (xs ++ ys) ≡ forwarded g xs ++ forwarded (after_calls g xs) ys
went_both [] ys g = refl
went_both (x ∷ xs) ys g =
    let n = after_governed g x in
    ap (λ (fs : List Forwarded). limits.forwarded_in g x ++ fs) (went_both xs ys n)
    ∙ append_both (limits.forwarded_in g x) (forwarded n xs) (forwarded (after_calls n xs) ys)

handed_both : (xs ys : List GovernedCall) (g : Governor) (past : List DeliveredAt)
    → deliveries g past (xs ++ ys) ≡ deliveries (after_calls g xs) (deliveries g past xs) ys
handed_both [] ys g past = refl
handed_both (x ∷ xs) ys g past = handed_both xs ys (after_governed g x) (delivered_in g x ++ past)

acts_simulate : (acts : List UnitAct) (u : UnitModel)
    → Simulates u.governor (governed_acts u acts) (unit_acts u acts).governor (frames_gone u acts)
    (λ past. delivered_in_acts u past acts)
acts_simulate [] u = record { after = refl; went = refl; handed = λ past. refl }
acts_simulate (a ∷ acts) u =
    let one = act_simulates u a in
    let rest = acts_simulate acts (after_act u a) in
    let first = governed_act u a in
    let next = governed_acts (after_act u a) acts in
    record {
      after = after_both first next u.governor
          ∙ ap (λ (n : Governor). after_calls n next) one.after ∙ rest.after;
      went = went_both first next u.governor
          ∙ ap (λ (n : Governor). forwarded u.governor first ++ forwarded n next) one.after
          ∙ ap (λ (fs : List Forwarded). fs ++ forwarded (after_act u a).governor next) one.went
          ∙ ap (λ (fs : List Forwarded). gone_in_act u a ++ fs) rest.went;
      handed = λ past.
          handed_both first next u.governor past
          ∙ ap (λ (n : Governor). deliveries n (deliveries u.governor past first) next) one.after
          ∙ ap (λ (ds : List DeliveredAt). deliveries (after_act u a).governor ds next)
          (one.handed past)
          ∙ rest.handed (delivered_in_act u a ++ past);
    }

-- ---- own packets

-- a frame that is due changes nothing of the bucket of own packets
due_own : (g : Governor) (now : ℕ) (first : Option Waiting) (passes : Bool)
    → (after_due_frame g now first passes).own ≡ g.own
due_own g now None passes = refl
due_own g now (Some frame) true = refl
due_own g now (Some frame) false = refl

first_own : (most address now : ℕ) (b : Buffer Waiting) (g : Governor)
    → (release_first most address now b g).governor.own ≡ g.own
first_own zero address now b g = refl
first_own (suc most) address now b g =
    by (first_due now b.held) (has_room_for_due g address now (first_due now b.held))
    (release_first most address now (after_drop b now)
    (after_due_frame g now (first_due now b.held) false))
    (first_own most address now (after_drop b now)
    (after_due_frame g now (first_due now b.held) false)
    ∙ due_own g now (first_due now b.held) false)
  where
    by : (first : Option Waiting) (room : Bool) (rest : Released) → rest.governor.own ≡ g.own
        → (released_or b g now first room rest).governor.own ≡ g.own
    by None room rest next = refl
    by (Some frame) true rest next = refl
    by (Some frame) false rest next = next

release_own : (u : UnitModel) (now : ℕ) (o : Option Refusal)
    → (release_by u now o).unit.governor.own ≡ u.governor.own
release_own u now (Some refusal) = refl
release_own u now None = by u.contention
  where
    by : (o : Option (Buffer Waiting)) → (release_of u now o).unit.governor.own ≡ u.governor.own
    by None = refl
    by (Some b) =
        first_own (length (kept_at now b.held)) u.station.address now (after_late b now) u.governor

act_sent : (b : Bucket) (u : UnitModel) (a : UnitAct) → u.governor.own ≡ Some b
    → SentWith b (requested_in_act u a) (after_act u a).governor.own
act_sent b u (UnitAct.Calls c) is = sent_next b u c (is_withheld u c) refl is
act_sent b u (UnitAct.Releases now) is =
    sent_none b (after_act u (UnitAct.Releases now)).governor.own
    (release_own u now (moment_refusal u.station now) ∙ is)

all_requests : (acts : List UnitAct) (b : Bucket) (u : UnitModel) → u.governor.own ≡ Some b
    → MayPass b (requests_in u acts)
all_requests [] b u is = tt
all_requests (a ∷ acts) b u is =
    (act_sent b u a is).pass (requests_in (after_act u a) acts)
    (λ after same. all_requests acts after (after_act u a) same)

-- ---- the rates

pub rates_are_kept : (limits : Limits) (u : UnitModel) → IsNewGovernor limits u.governor
    → RatesAreKept limits u
rates_are_kept limits u new = record {
  sources = λ rate is fits acts source. of_each rate is limits.forward refl fits acts source;
  own = λ rate is acts.
      bounded (full rate) (requests_in u acts)
      (all_requests acts (full rate) u (new.own ∙ ap (option_map full) is));
}
  where
    of_each : (rate : Rate) → limits.source ≡ Some rate → (o : Option Rate) → limits.forward ≡ o
        → RemembersSources o rate → (acts : List UnitAct) (source : ℕ)
        → IsBounded rate (times_from source (frames_gone u acts))
    of_each rate is None none fits acts source = absurd fits
    of_each rate is (Some forward) some fits acts source =
        subst (λ (fs : List Forwarded). IsBounded rate (times_from source fs))
        (acts_simulate acts u).went
        (sources_stay limits u.governor forward rate new some is fits (governed_acts u acts) source)

-- ---- what is delivered

-- a call that brings a frame is no request
pub no_request : (call : UnitCall) (t : Transmission) → frame_of call ≡ Some t → is_request call ≡ false
no_request (UnitCall.Own call) t e = absurd (none-some t e)
no_request (UnitCall.MoveAt timestamp place accurate speed heading) t e = refl
no_request (UnitCall.SendShbFor options request) t e = absurd (none-some t e)
no_request (UnitCall.Receive call) t e = refl
no_request (UnitCall.ReceiveVerified call) t e = refl

-- contention leaves the message
left_message : (o : Option (Buffer Waiting)) (g : Governor) (s : StationModel) (now : ℕ)
    (t : Transmission) (message : Option Message) (relayed : Option Transmission)
    → (sent : Option Transmission)
    × (left_in o (Some g) s now (Some t) (model.Answer.Accepted message relayed)
    ≡ model.Answer.Accepted message sent)
left_message None g s now t message relayed = (relayed, refl)
left_message (Some b) g s now t message relayed =
    (at_once relayed (fate_in b (Some g) s now t relayed), refl)

-- what is delivered is no echo
no_echo_passed : (g : Governor) (r : Receiver) (now : ℕ) (t : Transmission) (message : Message)
    (relayed sent : Option Transmission)
    → governed g r now (Some t) (model.Answer.Accepted (Some message) relayed)
    ≡ model.Answer.Accepted (Some message) sent
    → is_echo g.delivered now t ≡ false
no_echo_passed g r now t message relayed sent e = by (is_echo g.delivered now t) _ e
  where
    by : (echo : Bool) (left : Option Transmission)
        → model.Answer.Accepted (kept (true && not echo) (Some message)) left
        ≡ model.Answer.Accepted (Some message) sent
        → echo ≡ false
    by true left e = cc
    by false left e = refl

-- a message that is owed passes
fresh_passes : (u : UnitModel) (next : UnitCallAt) (t : Transmission) (message : Message)
    (relayed : Option Transmission) → frame_of next.call ≡ Some t
    → (step_within u.station next.now next.call).answer
    ≡ model.Answer.Accepted (Some message) relayed
    → ((left : Option Transmission) → (sent : Option Transmission)
    × (governed u.governor (receiver_of u.station next.now (Some t)) next.now (Some t)
    (model.Answer.Accepted (Some message) left) ≡ model.Answer.Accepted (Some message) sent))
    → (sent : Option Transmission)
    × ((unit_step u next.now next.call).answer
    ≡ UnitAnswer.Passed (model.Answer.Accepted (Some message) sent))
fresh_passes u next t message relayed brought answered owes =
    let step = step_within u.station next.now next.call in
    let left = left_message u.contention u.governor step.station next.now t (Some message) relayed in
    let r = receiver_of u.station next.now (Some t) in
    let passes = owes left.0 in
    let fresh = no_echo_passed u.governor r next.now t message left.0 passes.0 passes.1 in
    let request : is_withheld u next ≡ false =
    ap (λ (b : Bool). b && is_over_rate u.governor u.station.clock next.now)
    (no_request next.call t brought) in (
      passes.0,
      ap (λ (b : Bool). (step_by_rate u next b).answer) request
          ∙ ap (λ (f : Option Transmission). answer_by
          (is_repeated_in u.governor next.now f
          (left_in u.contention (Some u.governor) step.station next.now f step.answer))
          (governed u.governor (receiver_of u.station next.now f) next.now f
          (left_in u.contention (Some u.governor) step.station next.now f step.answer))) brought
          ∙ ap (λ (a : Answer Transmission). answer_by
          (is_repeated_in u.governor next.now (Some t)
          (left_in u.contention (Some u.governor) step.station next.now (Some t) a))
          (governed u.governor r next.now (Some t)
          (left_in u.contention (Some u.governor) step.station next.now (Some t) a))) answered
          ∙ ap (λ (a : Answer Transmission). answer_by
          (is_repeated_in u.governor next.now (Some t) a)
          (governed u.governor r next.now (Some t) a)) left.1
          ∙ ap (λ (b : Bool). answer_by b
          (governed u.governor r next.now (Some t) (model.Answer.Accepted (Some message) left.0)))
          fresh
          ∙ ap UnitAnswer.Passed passes.1,
    )

pub deliveries_are_kept : (limits : Limits) (u : UnitModel) → IsNewGovernor limits u.governor
    → DeliveriesAreKept limits u
deliveries_are_kept limits u new = record {
  owed = λ acts next t message relayed brought answered none.
      fresh_passes (unit_acts u acts) next t message relayed brought answered
      (λ left. owes acts next.now t message
      (receiver_of (unit_acts u acts).station next.now (Some t)) none left);
  apart = λ once acts newer between older d e is same.
      apart limits u.governor new once (governed_acts u acts) newer between older d e
      ((acts_simulate acts u).handed [] ∙ is) same;
}
  where
    owes : (acts : List UnitAct) (now : ℕ) (t : Transmission) (message : Message) (r : Receiver)
        → ((id : PacketId) → id_of t ≡ Some id
        → IsUndelivered now (delivered_in_acts u [] acts) id)
        → (left : Option Transmission) → (sent : Option Transmission)
        × (governed (unit_acts u acts).governor r now (Some t)
        (model.Answer.Accepted (Some message) left) ≡ model.Answer.Accepted (Some message) sent)
    owes acts now t message r none left =
        let s = acts_simulate acts u in
        subst (λ (g : Governor). (sent : Option Transmission)
        × (governed g r now (Some t) (model.Answer.Accepted (Some message) left)
        ≡ model.Answer.Accepted (Some message) sent)) s.after
        (owed limits u.governor new (governed_acts u acts) r now t message left
        (λ id is. subst (λ (ds : List DeliveredAt). IsUndelivered now ds id)
        (sym (s.handed [])) (none id is)))

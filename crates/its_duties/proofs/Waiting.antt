-- A beacon waits after an own packet, if the station doesn't restart.
use Rattle.std.proofs.Common.{◌≡◌, ◌⊎◌, ℕ, zero, suc, ◌+◌, ◌*◌, ◌≤◌, ◌<◌, Bool, true, false, cond}
use Rattle.std.proofs.Common.{◌&&◌, List, [], ◌∷◌, Option, Some, None, refl, sym, ap, subst, ◌∙◌}
use Rattle.std.proofs.Common.{true≢false, arith, inl, inr}
use Rattle.std.specs.Prelude.{nat_le, nat_lt, slice_get}
use Rattle.std.proofs.lemmas.Bool.Decides.{nat_tests}
use Rattle.std.proofs.lemmas.Bool.{cases_lt}
use Rattle.its_faults.specs.declared.frame.FrameFault.{FrameFault}
use Rattle.its_model.specs.Packet.{Transmission}
use Rattle.its_model.specs.Packet.Body.{beacon, shb, gbc, gac}
use Rattle.its_model.specs.Calls.{OwnCall, Call, Refusal, Answer}
use Rattle.its_model.specs.Calls.OwnCall.{Move, Open, Close, Tick, SendShb, SendGbc, SendGac}
use Rattle.its_model.specs.Calls.OwnCall.{Restart}
use Rattle.its_model.specs.Calls.Call.{Own, Receive, Junk}
use Rattle.its_model.specs.Calls.Answer.{Sent, Quiet}
use Rattle.its_model.specs.Station.{StationModel, Step, Verdict, first, moment_refusal, own_refusal}
use Rattle.its_model.specs.Station.{performed, own_step_by, own_step, beacon_of, after_sending}
use Rattle.its_model.specs.Station.{verdict, receive_step_by, receive_step, junk_step_by}
use Rattle.its_model.specs.Station.{station_step}
use Rattle.its_model.specs.Station.Verdict.{Accept, Ignore, Refuse}
use Rattle.its_model.specs.World.{frame_of}
use Rattle.its_model.specs.Isolation.{TimedCall, answers_of, NeverFalls}
use Rattle.its_duties.specs.declared.claims.Claims.{Claims}
use Rattle.its_duties.specs.declared.verdict.Verdict.TheVariants.{Pass, Fail, Inconclusive}
use Rattle.its_duties.specs.declared.verdict.Breach.TheVariants as breaches
use Rattle.its_duties.specs.declared.verdict.Doubt.TheVariants as doubts
use Rattle.its_duties.specs.Seen.{Seen, AreRead}
use Rattle.its_duties.specs.Times.{Shift, IsStampOf, nanos, slack, lag}
use Rattle.its_duties.specs.Scenario.{IsAsked, is_restart_call, LeftInTime}
use Rattle.its_duties.specs.Scenario.{IsStampOfSent}
use Rattle.its_duties.specs.Verdicts.{is_fail, beacon_verdict, doubt_between}
use Rattle.its_duties.specs.Duties.{IsBeaconAfter, IsModelled, NoScenario}
use Rattle.its_duties.proofs.Frames.{IsOwnFrame, own_frame}
use Rattle.its_duties.proofs.Causes.{own_cause}

-- ---- one call

-- after a packet of its own
after_tick : (b : Bool) (s : StationModel) (moment : ℕ) (u : Transmission)
    → frame_of
    (cond {A = Step} b (record { answer = Sent (beacon_of s); station = after_sending s moment })
    (record { answer = Quiet; station = record s { clock = moment } })).answer ≡ Some u
    → (cond {A = Step} b (record { answer = Sent (beacon_of s); station = after_sending s moment })
    (record { answer = Quiet; station = record s { clock = moment } })).station.beacon_from
    ≡ moment + 3000
after_tick true s moment u e = refl
after_tick false s moment u e = cc

after_performed : (call : OwnCall) (s : StationModel) (moment : ℕ) (u : Transmission)
    → frame_of (performed s moment call).answer ≡ Some u
    → (performed s moment call).station.beacon_from ≡ moment + 3000
after_performed (Move place accurate speed heading) s moment u e = cc
after_performed (Open port) s moment u e = cc
after_performed (Close port) s moment u e = cc
after_performed (Tick jitter) s moment u e =
    after_tick (nat_le (s.beacon_from + jitter) moment) s moment u e
after_performed (SendShb r) s moment u e = refl
after_performed (SendGbc r) s moment u e = refl
after_performed (SendGac r) s moment u e = refl
after_performed (Restart number) s moment u e = cc

after_by : (o : Option Refusal) (call : OwnCall) (s : StationModel) (moment : ℕ) (u : Transmission)
    → frame_of (own_step_by s moment call o).answer ≡ Some u
    → (own_step_by s moment call o).station.beacon_from ≡ moment + 3000
after_by (Some r) call s moment u e = cc
after_by None call s moment u e = after_performed call s moment u e

after_own : (call : OwnCall) (s : StationModel) (moment : ℕ) (u : Transmission)
    → frame_of (own_step s moment call).answer ≡ Some u
    → (own_step s moment call).station.beacon_from ≡ moment + 3000
unfolding own_step
after_own call s moment u e =
    after_by (first (moment_refusal s moment) (own_refusal s call)) call s moment u e

-- a call that is no restart leaves the beacon waiting
waits_tick : (b : Bool) (s : StationModel) (moment since : ℕ) → since ≤ moment
    → since + 3000 ≤ s.beacon_from
    → since + 3000
    ≤ (cond {A = Step} b (record { answer = Sent (beacon_of s); station = after_sending s moment })
    (record { answer = Quiet; station = record s { clock = moment } })).station.beacon_from
waits_tick true s moment since late h = omega (arith, late)
waits_tick false s moment since late h = h

waits_performed : (call : OwnCall) (s : StationModel) (moment since : ℕ)
    → is_restart_call (Own call) ≡ false → since ≤ moment → since + 3000 ≤ s.beacon_from
    → since + 3000 ≤ (performed s moment call).station.beacon_from
waits_performed (Move place accurate speed heading) s moment since keeps late h = h
waits_performed (Open port) s moment since keeps late h = h
waits_performed (Close port) s moment since keeps late h = h
waits_performed (Tick jitter) s moment since keeps late h =
    waits_tick (nat_le (s.beacon_from + jitter) moment) s moment since late h
waits_performed (SendShb r) s moment since keeps late h = omega (arith, late)
waits_performed (SendGbc r) s moment since keeps late h = omega (arith, late)
waits_performed (SendGac r) s moment since keeps late h = omega (arith, late)
waits_performed (Restart number) s moment since keeps late h = absurd (true≢false keeps)

waits_own : (o : Option Refusal) (call : OwnCall) (s : StationModel) (moment since : ℕ)
    → is_restart_call (Own call) ≡ false → since ≤ moment → since + 3000 ≤ s.beacon_from
    → since + 3000 ≤ (own_step_by s moment call o).station.beacon_from
waits_own (Some r) call s moment since keeps late h = h
waits_own None call s moment since keeps late h = waits_performed call s moment since keeps late h

waits_received : (v : Verdict) (s : StationModel) (moment since : ℕ) (t : Transmission)
    → since + 3000 ≤ s.beacon_from
    → since + 3000 ≤ (receive_step_by s moment t v).station.beacon_from
waits_received (Refuse r) s moment since t h = h
waits_received (Ignore why) s moment since t h = h
waits_received Accept s moment since t h = h

waits_junk : (o : Option Refusal) (s : StationModel) (fault : FrameFault) (since : ℕ)
    → since + 3000 ≤ s.beacon_from
    → since + 3000 ≤ (junk_step_by s fault o).station.beacon_from
waits_junk (Some r) s fault since h = h
waits_junk None s fault since h = h

waits_step : (call : Call) (s : StationModel) (moment since : ℕ) → is_restart_call call ≡ false
    → since ≤ moment → since + 3000 ≤ s.beacon_from
    → since + 3000 ≤ (station_step s moment call).station.beacon_from
unfolding own_step receive_step
waits_step (Own call) s moment since keeps late h =
    waits_own (first (moment_refusal s moment) (own_refusal s call)) call s moment since keeps late h
waits_step (Receive t) s moment since keeps late h =
    waits_received (verdict s moment t) s moment since t h
waits_step (Junk fault) s moment since keeps late h =
    waits_junk (moment_refusal s moment) s fault since h

-- ---- many calls

pub same_call : (c d : TimedCall) → Some c ≡ Some d → c ≡ d
same_call c d e = cc

pub same_answer : (a b : Answer Transmission) → Some a ≡ Some b → a ≡ b
same_answer a b e = cc

-- each call is at the moment before it or later
pub not_before : (calls : List TimedCall) (from n : ℕ) (c : TimedCall) → NeverFalls from calls
    → IsAsked calls n c → from ≤ c.moment
not_before [] from n c order asked = cc
not_before (d ∷ calls) from zero c order asked =
    subst (λ (e : TimedCall). from ≤ e.moment) (same_call d c asked) order.0
not_before (d ∷ calls) from (suc n) c order asked =
    let later : d.moment ≤ c.moment = not_before calls d.moment n c order.1 asked in
    omega (arith, order.0)

-- of two calls the one that is not later in the list is not at a later moment
pub in_turn : (calls : List TimedCall) (from n m : ℕ) (c d : TimedCall) → NeverFalls from calls
    → IsAsked calls n c → IsAsked calls m d → n ≤ m → c.moment ≤ d.moment
in_turn [] from n m c d order asked other le = cc
in_turn (e ∷ calls) from zero m c d order asked other le =
    not_before (e ∷ calls) c.moment m d (
      subst (λ (x : TimedCall). c.moment ≤ x.moment) (sym (same_call e c asked)) (omega arith),
      order.1,
    ) other
in_turn (e ∷ calls) from (suc n) zero c d order asked other le = absurd (omega arith)
in_turn (e ∷ calls) from (suc n) (suc m) c d order asked other le =
    in_turn calls e.moment n m c d order.1 asked other (omega arith)

-- a tick that gives a frame
due : (call : Call) (jitter : ℕ) (s : StationModel) (moment : ℕ) (u : Transmission)
    → call ≡ Own (Tick jitter) → frame_of (station_step s moment call).answer ≡ Some u
    → s.beacon_from + jitter ≤ moment
due call jitter s moment u is e =
    (own_frame (Tick jitter) s moment u
    (ap (λ (x : Call). frame_of (station_step s moment x).answer) (sym is) ∙ e)).1

-- While the beacon waits, the next tick that gives a frame is late.
waits : (calls : List TimedCall) (s : StationModel) (from since m : ℕ) (d : TimedCall)
    (answer : Answer Transmission) (u : Transmission) (jitter : ℕ)
    → ((n : ℕ) (c : TimedCall) → IsAsked calls n c → is_restart_call c.call ≡ false)
    → NeverFalls from calls → since ≤ from → since + 3000 ≤ s.beacon_from → IsAsked calls m d
    → slice_get (answers_of s calls) m ≡ Some answer → d.call ≡ Own (Tick jitter)
    → frame_of answer ≡ Some u → since + 3000 ≤ d.moment
waits [] s from since m d answer u jitter keeps order late h asked answered is gives = cc
waits (c ∷ calls) s from since zero d answer u jitter keeps order late h asked answered is gives =
    let same = same_call c d asked in
    let given : frame_of (station_step s d.moment d.call).answer ≡ Some u =
    ap (λ (x : TimedCall). frame_of (station_step s x.moment x.call).answer) (sym same)
    ∙ ap frame_of (same_answer _ answer answered) ∙ gives in
    let le : s.beacon_from + jitter ≤ d.moment = due d.call jitter s d.moment u is given in
    omega (arith, h)
waits (c ∷ calls) s from since (suc m) d answer u jitter keeps order late h asked answered is gives =
    let later : since ≤ c.moment = omega (arith, order.0, late) in
    waits calls (station_step s c.moment c.call).station c.moment since m d answer u jitter
    (λ n. keeps (suc n)) order.1 later
    (waits_step c.call s c.moment since (keeps zero c refl) later h) asked answered is gives

-- After a frame of its own a beacon waits.
waits_after : (calls : List TimedCall) (s : StationModel) (from n m : ℕ) (c d : TimedCall)
    (one two : Answer Transmission) (u v : Transmission) (call : OwnCall) (jitter : ℕ)
    → ((n : ℕ) (c : TimedCall) → IsAsked calls n c → is_restart_call c.call ≡ false)
    → NeverFalls from calls → n < m → IsAsked calls n c → IsAsked calls m d
    → slice_get (answers_of s calls) n ≡ Some one → slice_get (answers_of s calls) m ≡ Some two
    → c.call ≡ Own call → d.call ≡ Own (Tick jitter)
    → frame_of one ≡ Some u → frame_of two ≡ Some v → c.moment + 3000 ≤ d.moment
waits_after [] s from n m c d one two u v call jitter keeps order lt asked other answered again is tick
    gives given = cc
waits_after (e ∷ calls) s from zero zero c d one two u v call jitter keeps order lt asked other answered
    again is tick gives given = absurd (omega arith)
waits_after (e ∷ calls) s from zero (suc m) c d one two u v call jitter keeps order lt asked other
    answered again is tick gives given =
    let same = same_call e c asked in
    let frame : frame_of (own_step s c.moment call).answer ≡ Some u =
    ap (λ (x : Call). frame_of (station_step s c.moment x).answer) (sym is)
    ∙ ap (λ (x : TimedCall). frame_of (station_step s x.moment x.call).answer) (sym same)
    ∙ ap frame_of (same_answer _ one answered) ∙ gives in
    let from_then : (station_step s e.moment e.call).station.beacon_from ≡ c.moment + 3000 =
    ap (λ (x : TimedCall). (station_step s x.moment x.call).station.beacon_from) same
    ∙ ap (λ (x : Call). (station_step s c.moment x).station.beacon_from) is
    ∙ after_own call s c.moment u frame in
    let moments : c.moment ≡ e.moment = ap (λ (x : TimedCall). x.moment) (sym same) in
    waits calls (station_step s e.moment e.call).station e.moment c.moment m d two v jitter
    (λ n. keeps (suc n)) order.1 (omega (arith, moments)) (omega (arith, from_then)) other again tick
    given
waits_after (e ∷ calls) s from (suc n) zero c d one two u v call jitter keeps order lt asked other
    answered again is tick gives given = absurd (omega arith)
waits_after (e ∷ calls) s from (suc n) (suc m) c d one two u v call jitter keeps order lt asked other
    answered again is tick gives given =
    waits_after calls (station_step s e.moment e.call).station e.moment n m c d one two u v call
    jitter (λ n. keeps (suc n)) order.1 (omega (arith, lt)) asked other answered again is tick gives
    given

-- ---- the stamps

-- an own call that gave a beacon is a tick
tick_of : (call : OwnCall) (s : StationModel) (moment : ℕ) (u : Transmission)
    → IsOwnFrame call s moment u → u.pdu.body ≡ beacon → (jitter : ℕ) × (call ≡ Tick jitter)
tick_of (Move place accurate speed heading) s moment u h is = absurd h
tick_of (Open port) s moment u h is = absurd h
tick_of (Close port) s moment u h is = absurd h
tick_of (Tick jitter) s moment u h is = (jitter, refl)
tick_of (SendShb r) s moment u h is =
    (let e : shb (0 ∷ 0 ∷ 0 ∷ 0 ∷ []) r.message ≡ beacon =
    ap (λ (x : Transmission). x.pdu.body) (sym h) ∙ is in cc)
tick_of (SendGbc r) s moment u h is =
    (let e : gbc s.next_number r.area r.message ≡ beacon =
    ap (λ (x : Transmission). x.pdu.body) (sym h.0) ∙ is in cc)
tick_of (SendGac r) s moment u h is =
    (let e : gac s.next_number r.area r.message ≡ beacon =
    ap (λ (x : Transmission). x.pdu.body) (sym h.0) ∙ is in cc)
tick_of (Restart number) s moment u h is = absurd h

-- by the call: when the frame of an own call left
pub left_by : (k : Claims) (call : Call) (own : OwnCall) (moment arrival left : ℕ) → call ≡ Own own
    → LeftInTime k call moment arrival left → nanos left ≤ nanos moment + lag k
left_by k call own moment arrival left is h =
    subst (λ (c : Call). LeftInTime k c moment arrival left) is h

-- a stamp of a frame that wasn't retried
pub stamp_by : (k : Claims) (shift : Shift) (retried : Bool) (stamp left : ℕ) → retried ≡ false
    → IsStampOfSent k shift retried stamp left → IsStampOf k shift stamp left
stamp_by k shift retried stamp left is h =
    subst (λ (b : Bool). IsStampOfSent k shift b stamp left) is h

-- what a fail of a beacon says
record IsEarly (k : Claims) (since : ℕ) (sure : Bool) : Type 0 where
  pub steady : k.steady ≡ true
  pub is_sure : sure ≡ true
  pub early : since + doubt_between k < nanos k.interval

early_by : (steady sure early passes : Bool) (k : Claims) (since : ℕ) → k.steady ≡ steady
    → nat_lt (since + doubt_between k) (nanos k.interval) ≡ early
    → is_fail (cond (steady && sure && early) (Fail (breaches.BeaconEarly since))
    (cond passes Pass (Inconclusive (doubts.BeaconBetween since)))) ≡ true
    → IsEarly k since sure
early_by true true true passes k since steady early e =
    record { steady = steady; is_sure = refl; early = less _ _ early }
  where
    less : (a b : ℕ) → nat_lt a b ≡ true → a < b
    less a b e = grind (arith, nat_tests)
early_by true true false true k since steady early e = absurd (true≢false (sym e))
early_by true true false false k since steady early e = absurd (true≢false (sym e))
early_by true false early true k since steady is e = absurd (true≢false (sym e))
early_by true false early false k since steady is e = absurd (true≢false (sym e))
early_by false sure early true k since steady is e = absurd (true≢false (sym e))
early_by false sure early false k since steady is e = absurd (true≢false (sym e))

-- The two packets left in the order of their stamps, and the beacon not too early.
pub earlier : (ahead behind a b left_a left_b i j lag slack since : ℕ) → left_a ≤ 1000000 * a + lag
    → a * 1000000 ≤ left_a → b * 1000000 ≤ left_b → left_b ≤ 1000000 * b + lag
    → left_a + behind ≤ i + ahead + slack → i + ahead ≤ left_a + behind + slack
    → left_b + behind ≤ j + ahead + slack → j + ahead ≤ left_b + behind + slack
    → i + since ≡ j → lag + 2 * slack < since → a < b
earlier ahead behind a b left_a left_b i j lag slack since la al bl lb n1 n2 n3 n4 is apart =
    omega arith

too_late : (ahead behind a b left_a left_b i j lag slack since : ℕ) → left_a ≤ 1000000 * a + lag
    → b * 1000000 ≤ left_b
    → i + ahead ≤ left_a + behind + slack → left_b + behind ≤ j + ahead + slack
    → i + since ≡ j → a + 3000 ≤ b → since + (lag + 2 * slack) < 3000000000 → ⊥
too_late ahead behind a b left_a left_b i j lag slack since la bl n2 n3 is waited early =
    omega arith

-- of two calls at different moments the earlier comes first
pub before : (n m a b : ℕ) → (n < m) ⊎ (m ≤ n) → (m ≤ n → b ≤ a) → a < b → n < m
before n m a b (inl lt) turned order = lt
before n m a b (inr le) turned order =
    (let wrong : b ≤ a = turned le in absurd (omega (arith, wrong, order)))

pub beacon_proof : (k : Claims) (tap : List Seen) (i j : ℕ) (r s : Seen) (t u : Transmission)
    (since : ℕ) (sure alone : Bool)
    → AreRead tap → IsModelled k → IsBeaconAfter k tap i j r s t u since
    → (sure ≡ true → (r.retried ≡ false) × (s.retried ≡ false))
    → is_fail (beacon_verdict k since sure alone) ≡ true → NoScenario k tap
beacon_proof k tap i j r s t u since sure alone all modelled is first_sendings fails w x =
    let e = early_by k.steady sure (nat_lt (since + doubt_between k) (nanos k.interval)) _ k since
    refl refl fails in
    let first_seen = first_sendings e.is_sure in
    let one = own_cause k tap i r t all is.earlier w x in
    let two = own_cause k tap j s u all is.later w x in
    let a = one.0.call.moment in
    let b = two.0.call.moment in
    let near_one = stamp_by k w.shift r.retried r.moment (x.left i) first_seen.0 one.0.near in
    let near_two = stamp_by k w.shift s.retried s.moment (x.left j) first_seen.1 two.0.near in
    let left_one = left_by k one.0.call.call one.1.call a (w.arrival (x.call_of i)) (x.left i)
    one.1.is_call one.0.soon in
    let left_two = left_by k two.0.call.call two.1.call b (w.arrival (x.call_of j)) (x.left j)
    two.1.is_call two.0.soon in
    let tick = tick_of two.1.call two.1.station b two.0.frame two.1.frame
    (ap (λ (y : Transmission). y.pdu.body) (sym two.1.read.is) ∙ is.is_beacon) in
    let order : a < b = earlier w.shift.ahead w.shift.behind a b (nanos (x.left i))
    (nanos (x.left j)) r.moment s.moment (lag k) (slack k) since left_one
    (omega (arith, one.0.after)) (omega (arith, two.0.after)) left_two near_one.not_earlier
    near_one.not_later near_two.not_earlier near_two.not_later is.since_is is.apart in
    let turn : x.call_of i < x.call_of j =
    before (x.call_of i) (x.call_of j) a b (cases_lt (x.call_of i) (x.call_of j))
    (λ le. in_turn w.calls 0 (x.call_of j) (x.call_of i) two.0.call one.0.call w.order two.0.asked
    one.0.asked le) order in
    too_late w.shift.ahead w.shift.behind a b (nanos (x.left i)) (nanos (x.left j)) r.moment
    s.moment (lag k) (slack k) since left_one (omega (arith, two.0.after)) near_one.not_later
    near_two.not_earlier is.since_is
    (waits_after w.calls w.start 0 (x.call_of i) (x.call_of j) one.0.call two.0.call one.0.answer
    two.0.answer one.0.frame two.0.frame one.1.call tick.0 (w.steady e.steady) w.order turn
    one.0.asked two.0.asked one.0.answered two.0.answered one.1.is_call
    (two.1.is_call ∙ ap Own tick.1) one.0.given two.0.given)
    (subst (λ (n : ℕ). since + doubt_between k < nanos n) modelled.interval e.early)

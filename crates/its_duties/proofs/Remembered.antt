-- What a station heard of a source between two packets of one number that it accepted: as many
-- other numbers as it remembers, unless the first came a source's life ago or it restarted.
use Rattle.std.proofs.Common.{◌≡◌, ℕ, zero, suc, ◌+◌, ◌≤◌, ◌<◌, Bool, true, false, cond}
use Rattle.std.proofs.Common.{not, ◌||◌, List, [], ◌∷◌, ◌++◌, length, take, Option, Some, None, eqb}
use Rattle.std.proofs.Common.{refl, sym, ap, subst, ◌∙◌, true≢false, arith, inl, inr}
use Rattle.std.specs.Prelude.{filter, nat_le, slice_get}
use Rattle.std.specs.List.{AllByRecursion}
use Rattle.std.proofs.lemmas.Bool.{eqb-true, eq-eqb}
use Rattle.std.proofs.lemmas.List.Elements.{filter-append}
use Rattle.its_faults.specs.declared.frame.FrameFault.{FrameFault}
use Rattle.its_model.specs.Packet.{Transmission, number_in}
use Rattle.its_model.specs.History.{Reception, entry_life, is_from, of_source, unbroken, session}
use Rattle.its_model.specs.History.{with_number, numbers_of, is_among}
use Rattle.its_model.specs.Stations.{AreDistinct}
use Rattle.its_model.specs.Calls.{OwnCall, Call, Refusal, Answer}
use Rattle.its_model.specs.Calls.OwnCall.{Move, Open, Close, Tick, SendShb, SendGbc, SendGac}
use Rattle.its_model.specs.Calls.OwnCall.{Restart}
use Rattle.its_model.specs.Calls.Call.{Own, Receive, Junk}
use Rattle.its_model.specs.Calls.Why.{NotForMe, OwnSource, SenderMismatch, Duplicate}
use Rattle.its_model.specs.Calls.Answer.{Sent, Quiet}
use Rattle.its_model.specs.Station.{StationModel, Step, Verdict, first, moment_refusal, own_refusal}
use Rattle.its_model.specs.Station.{performed, own_step_by, own_step, beacon_of, after_sending}
use Rattle.its_model.specs.Station.{or_else, is_for, is_sender_wrong, is_repeated, verdict}
use Rattle.its_model.specs.Station.{reception, receive_step_by, receive_step}
use Rattle.its_model.specs.Station.{junk_step_by, station_step}
use Rattle.its_model.specs.Station.Verdict.{Accept, Ignore, Refuse}
use Rattle.its_model.specs.World.{frame_of}
use Rattle.its_model.specs.Isolation.{TimedCall, answers_of}
use Rattle.its_model.proofs.NumberTests.{lt_test, or_false}
use Rattle.its_duties.specs.declared.claims.Claims.{Claims}
use Rattle.its_duties.specs.Scenario.{IsAsked, is_restart_call}
use Rattle.its_duties.proofs.Waiting.{same_call, same_answer}

-- ---- lists of numbers, the newest first

-- what isn't among the first of a list isn't among the first of its front
absent_front : (xs ys : List ℕ) (k m : ℕ) → is_among m (take k (xs ++ ys)) ≡ false
    → is_among m (take k xs) ≡ false
absent_front xs ys zero m h = refl
absent_front [] ys (suc k) m h = refl
absent_front (x ∷ xs) ys (suc k) m h =
    let s = or_false (eqb x m) (is_among m (take k (xs ++ ys))) h in
    rw s.0 (absent_front xs ys k m s.1)

-- nor among fewer
absent_shorter : (xs : List ℕ) (k l m : ℕ) → k ≤ l → is_among m (take l xs) ≡ false
    → is_among m (take k xs) ≡ false
absent_shorter xs zero l m le h = refl
absent_shorter xs (suc k) zero m le h = absurd (omega arith)
absent_shorter [] (suc k) (suc l) m le h = refl
absent_shorter (x ∷ xs) (suc k) (suc l) m le h =
    let s = or_false (eqb x m) (is_among m (take l xs)) h in
    rw s.0 (absent_shorter xs k l m (omega arith) s.1)

-- a number that isn't among the first so many has as many before it
far_behind : (xs ys : List ℕ) (k n : ℕ) → is_among n (take k (xs ++ n ∷ ys)) ≡ false → k ≤ length xs
far_behind xs ys zero n h = omega arith
far_behind [] ys (suc k) n h = absurd (true≢false (sym (same n) ∙ first_is))
  where
    same : (n : ℕ) → eqb n n ≡ true
    same n = eq-eqb n n refl

    first_is : eqb n n ≡ false
    first_is = (or_false (eqb n n) (is_among n (take k ys)) h).0
far_behind (x ∷ xs) ys (suc k) n h =
    let s = or_false (eqb x n) (is_among n (take k (xs ++ n ∷ ys))) h in
    omega (arith, far_behind xs ys k n s.1)

-- each number is not among as many next ones
abbrev EachNew : ℕ → List ℕ → Type 0
EachNew count [] = Unit {0}
EachNew count (m ∷ ms) = (is_among m (take count ms) ≡ false) × EachNew count ms

-- the first of these differ
distinct_front : (ns : List ℕ) (count k : ℕ) → k ≤ count → EachNew count ns
    → AreDistinct (take k ns)
distinct_front ns count zero le h = tt
distinct_front [] count (suc k) le h = tt
distinct_front (m ∷ ns) count (suc k) le h = (
  absent_shorter ns k count m (omega arith) h.0,
  distinct_front ns count k (omega arith) h.1,
)

length_front : (ns : List ℕ) (k : ℕ) → k ≤ length ns → length (take k ns) ≡ k
length_front ns zero le = refl
length_front [] (suc k) le = absurd (omega arith)
length_front (n ∷ ns) (suc k) le = ap suc (length_front ns k (omega arith))

either_more : (a b c : Bool) → (b ≡ true → c ≡ true) → (a || b) ≡ true → (a || c) ≡ true
either_more true b c f e = refl
either_more false b c f e = f e

among_front : (ns : List ℕ) (k m : ℕ) → is_among m (take k ns) ≡ true → is_among m ns ≡ true
among_front ns zero m h = absurd (true≢false (sym h))
among_front [] (suc k) m h = absurd (true≢false (sym h))
among_front (n ∷ ns) (suc k) m h =
    either_more (eqb n m) (is_among m (take k ns)) (is_among m ns) (among_front ns k m) h

-- ---- receptions of a source

-- less than a source's life after the first
abbrev IsInTime : Reception → Reception → Type 0
IsInTime r x = (r.moment ≤ x.moment) × (x.moment < r.moment + 20000)

whole_session : (newer : List Reception) (now : ℕ) (r : Reception) (older : List Reception)
    → now < r.moment + 20000 → AllByRecursion (IsInTime r) newer
    → unbroken now (newer ++ r ∷ older) ≡ newer ++ r ∷ unbroken r.moment older
whole_session [] now r older late all =
    elim (lt_test now (r.moment + entry_life)) [
      | inl e ↦ rw e.0 refl
      | inr e ↦ absurd (omega (arith, e.1, late))
    ]
whole_session (x ∷ newer) now r older late all =
    elim (lt_test now (x.moment + entry_life)) [
      | inl e ↦ rw e.0
          (ap (λ (ys : List Reception). x ∷ ys)
          (whole_session newer x.moment r older all.0.1 all.1))
      | inr e ↦ absurd (omega (arith, e.1, late, all.0.0))
    ]

numbers_append : (xs ys : List Reception) → numbers_of (xs ++ ys) ≡ numbers_of xs ++ numbers_of ys
numbers_append [] ys = refl
numbers_append (x ∷ xs) ys = one x.number (numbers_append xs ys)
  where
    one : (o : Option ℕ) → numbers_of (xs ++ ys) ≡ numbers_of xs ++ numbers_of ys
        → with_number o (numbers_of (xs ++ ys)) ≡ with_number o (numbers_of xs) ++ numbers_of ys
    one None h = h
    one (Some n) h = ap (λ (ns : List ℕ). n ∷ ns) h

all_filter : (P : Reception → Type 0) (p : Reception → Bool) (xs : List Reception)
    → AllByRecursion P xs → AllByRecursion P (filter p xs)
all_filter P p [] all = tt
all_filter P p (x ∷ xs) all = one (p x) (all_filter P p xs all.1)
  where
    one : (b : Bool) → AllByRecursion P (filter p xs)
        → AllByRecursion P (cond b (x ∷ filter p xs) (filter p xs))
    one true h = (all.0, h)
    one false h = h

-- ---- what a call leaves

-- a station that has heard nothing more
record IsSame (s t : StationModel) : Type 0 where
  pub history : t.history ≡ s.history
  pub address : t.address ≡ s.address
  pub remember : t.remember ≡ s.remember

tick_same : (b : Bool) (s : StationModel) (moment : ℕ)
    → IsSame s (cond {A = Step} b
    (record { answer = Sent (beacon_of s); station = after_sending s moment })
    (record { answer = Quiet; station = record s { clock = moment } })).station
tick_same true s moment = record { history = refl; address = refl; remember = refl }
tick_same false s moment = record { history = refl; address = refl; remember = refl }

performed_same : (call : OwnCall) (s : StationModel) (moment : ℕ)
    → is_restart_call (Own call) ≡ false → IsSame s (performed s moment call).station
performed_same (Move place accurate speed heading) s moment calm =
    record { history = refl; address = refl; remember = refl }
performed_same (Open port) s moment calm =
    record { history = refl; address = refl; remember = refl }
performed_same (Close port) s moment calm =
    record { history = refl; address = refl; remember = refl }
performed_same (Tick jitter) s moment calm =
    tick_same (nat_le (s.beacon_from + jitter) moment) s moment
performed_same (SendShb r) s moment calm =
    record { history = refl; address = refl; remember = refl }
performed_same (SendGbc r) s moment calm =
    record { history = refl; address = refl; remember = refl }
performed_same (SendGac r) s moment calm =
    record { history = refl; address = refl; remember = refl }
performed_same (Restart number) s moment calm = absurd (true≢false calm)

own_same : (o : Option Refusal) (call : OwnCall) (s : StationModel) (moment : ℕ)
    → is_restart_call (Own call) ≡ false → IsSame s (own_step_by s moment call o).station
own_same (Some r) call s moment calm = record { history = refl; address = refl; remember = refl }
own_same None call s moment calm = performed_same call s moment calm

junk_same : (o : Option Refusal) (s : StationModel) (fault : FrameFault)
    → IsSame s (junk_step_by s fault o).station
junk_same (Some r) s fault = record { history = refl; address = refl; remember = refl }
junk_same None s fault = record { history = refl; address = refl; remember = refl }

-- ---- what is accepted is new

new_by : (o : Option Refusal) (a b c d : Bool) (rest : Verdict)
    → or_else o (cond a (Ignore NotForMe) (cond b (Ignore OwnSource)
    (cond c (Ignore SenderMismatch) (cond d (Ignore Duplicate) rest)))) ≡ Accept → d ≡ false
new_by (Some r) a b c d rest e = cc
new_by None true b c d rest e = cc
new_by None false true c d rest e = cc
new_by None false false true d rest e = cc
new_by None false false false true rest e = cc
new_by None false false false false rest e = refl

accepted_new : (s : StationModel) (moment : ℕ) (t : Transmission) → verdict s moment t ≡ Accept
    → is_repeated s.remember (number_in t.pdu.body) t.pdu.vector.address moment s.history ≡ false
unfolding verdict
accepted_new s moment t e =
    new_by (moment_refusal s moment) (not (is_for s t)) (eqb t.pdu.vector.address s.address)
    (is_sender_wrong t t.pdu.body)
    (is_repeated s.remember (number_in t.pdu.body) t.pdu.vector.address moment s.history) _ e

-- only a packet that is accepted gives a frame
accepted_by : (v : Verdict) (s : StationModel) (moment : ℕ) (t u : Transmission)
    → frame_of (receive_step_by s moment t v).answer ≡ Some u → v ≡ Accept
accepted_by (Refuse r) s moment t u e = cc
accepted_by (Ignore why) s moment t u e = cc
accepted_by Accept s moment t u e = refl

pub gave_accepted : (s : StationModel) (moment : ℕ) (t u : Transmission)
    → frame_of (receive_step s moment t).answer ≡ Some u → verdict s moment t ≡ Accept
unfolding receive_step
gave_accepted s moment t u e = accepted_by (verdict s moment t) s moment t u e

-- ---- since a packet was accepted

-- a packet that was accepted by such a call
pub record Taken (Is : TimedCall → Type 0) (k : Claims) (x : Reception) : Type 0 where
  pub call : TimedCall
  pub packet : Transmission
  pub is : Is call
  pub is_call : call.call ≡ Receive packet
  pub reception_is : x ≡ reception call.moment packet
  pub station : StationModel
  pub address : station.address ≡ k.address
  pub accepted : verdict station call.moment packet ≡ Accept

-- what the station accepted since a packet of a source
record Since (Is : TimedCall → Type 0) (k : Claims) (source : ℕ) (r : Reception)
    (s : StationModel) : Type 0 where
  pub newer : List Reception
  pub older : List Reception
  pub history : s.history ≡ newer ++ r ∷ older
  pub taken : AllByRecursion (Taken Is k) newer
  pub in_time : AllByRecursion (IsInTime r) newer
  pub new : EachNew k.remember (numbers_of (of_source source newer))
  pub address : s.address ≡ k.address
  pub remember : s.remember ≡ k.remember

since_same : (Is : TimedCall → Type 0) (k : Claims) (source : ℕ) (r : Reception)
    (s t : StationModel) → IsSame s t → Since Is k source r s → Since Is k source r t
since_same Is k source r s t same h = record {
  newer = h.newer;
  older = h.older;
  history = same.history ∙ h.history;
  taken = h.taken;
  in_time = h.in_time;
  new = h.new;
  address = same.address ∙ h.address;
  remember = same.remember ∙ h.remember;
}

-- a number that isn't remembered is none of those since, nor of the last ones before
absent_since : (Is : TimedCall → Type 0) (k : Claims) (source : ℕ) (r : Reception)
    (s : StationModel) (now m : ℕ) (h : Since Is k source r s) → is_from source r ≡ true
    → now < r.moment + 20000
    → is_among m (take s.remember (numbers_of (session source now s.history))) ≡ false
    → is_among m (take k.remember (numbers_of (of_source source h.newer)
    ++ with_number r.number (numbers_of (unbroken r.moment (of_source source h.older))))) ≡ false
absent_since Is k source r s now m h from late absent =
    let newer = of_source source h.newer in
    let older = of_source source h.older in
    let history : of_source source s.history ≡ newer ++ r ∷ older =
    ap (of_source source) h.history ∙ filter-append (is_from source) h.newer (r ∷ h.older)
    ∙ ap (λ (b : Bool). newer ++ cond b (r ∷ older) older) from in
    let run : session source now s.history ≡ newer ++ r ∷ unbroken r.moment older =
    ap (unbroken now) history
    ∙ whole_session newer now r older late
    (all_filter (IsInTime r) (is_from source) h.newer h.in_time) in
    let numbers : numbers_of (session source now s.history)
    ≡ numbers_of newer ++ with_number r.number (numbers_of (unbroken r.moment older)) =
    ap numbers_of run ∙ numbers_append newer (r ∷ unbroken r.moment older) in
    sym (ap (λ (n : ℕ). is_among m (take n (numbers_of (session source now s.history))))
    h.remember
    ∙ ap (λ (ns : List ℕ). is_among m (take k.remember ns)) numbers) ∙ absent

-- one more packet of the source that was accepted
number_new : (o : Option ℕ) (Is : TimedCall → Type 0) (k : Claims) (source : ℕ) (r : Reception)
    (s : StationModel) (now : ℕ) (h : Since Is k source r s) → is_from source r ≡ true
    → now < r.moment + 20000 → is_repeated s.remember o source now s.history ≡ false
    → EachNew k.remember (with_number o (numbers_of (of_source source h.newer)))
number_new None Is k source r s now h from late new = h.new
number_new (Some m) Is k source r s now h from late new = (
  absent_front (numbers_of (of_source source h.newer))
      (with_number r.number (numbers_of (unbroken r.moment (of_source source h.older)))) k.remember m
      (absent_since Is k source r s now m h from late new),
  h.new,
)

one_new : (b : Bool) (Is : TimedCall → Type 0) (k : Claims) (source : ℕ) (r : Reception)
    (s : StationModel) (now : ℕ) (t : Transmission) (h : Since Is k source r s)
    → is_from source (reception now t) ≡ b → is_from source r ≡ true → now < r.moment + 20000
    → verdict s now t ≡ Accept
    → EachNew k.remember (numbers_of (cond b (reception now t ∷ of_source source h.newer)
    (of_source source h.newer)))
one_new true Is k source r s now t h mine from late accepted =
    number_new (number_in t.pdu.body) Is k source r s now h from late
    (ap (λ (n : ℕ). is_repeated s.remember (number_in t.pdu.body) n now s.history)
    (sym (eqb-true t.pdu.vector.address source mine))
    ∙ accepted_new s now t accepted)
one_new false Is k source r s now t h mine from late accepted = h.new

since_received : (v : Verdict) (Is : TimedCall → Type 0) (k : Claims) (source : ℕ)
    (r : Reception) (s : StationModel) (c : TimedCall) (t : Transmission) → Is c
    → c.call ≡ Receive t → is_from source r ≡ true → IsInTime r (reception c.moment t)
    → verdict s c.moment t ≡ v → Since Is k source r s
    → Since Is k source r (receive_step_by s c.moment t v).station
since_received (Refuse refusal) Is k source r s c t is call from time e h = h
since_received (Ignore why) Is k source r s c t is call from time e h =
    since_same Is k source r s (record s { clock = c.moment })
    (record { history = refl; address = refl; remember = refl }) h
since_received Accept Is k source r s c t is call from time e h = record {
  newer = reception c.moment t ∷ h.newer;
  older = h.older;
  history = ap (λ (xs : List Reception). reception c.moment t ∷ xs) h.history;
  taken = (
    record {
      call = c;
      packet = t;
      is = is;
      is_call = call;
      reception_is = refl;
      station = s;
      address = h.address;
      accepted = e;
    },
    h.taken,
  );
  in_time = (time, h.in_time);
  new = one_new (is_from source (reception c.moment t)) Is k source r s c.moment t h refl from time.1 e;
  address = h.address;
  remember = h.remember;
}

since_call : (call : Call) (Is : TimedCall → Type 0) (k : Claims) (source : ℕ) (r : Reception)
    (s : StationModel) (c : TimedCall) → c.call ≡ call → Is c
    → is_restart_call call ≡ false → is_from source r ≡ true
    → (r.moment ≤ c.moment) × (c.moment < r.moment + 20000) → Since Is k source r s
    → Since Is k source r (station_step s c.moment call).station
unfolding own_step receive_step
since_call (Own call) Is k source r s c same is calm from time h =
    since_same Is k source r s _
    (own_same (first (moment_refusal s c.moment) (own_refusal s call)) call s c.moment calm) h
since_call (Receive t) Is k source r s c same is calm from time h =
    since_received (verdict s c.moment t) Is k source r s c t is same from time refl h
since_call (Junk fault) Is k source r s c same is calm from time h =
    since_same Is k source r s _ (junk_same (moment_refusal s c.moment) s fault) h

-- what is known of such calls
pub record AreBetween (Is : TimedCall → Type 0) (r : Reception) : Type 0 where
  pub calm : (c : TimedCall) → Is c → is_restart_call c.call ≡ false
  pub time : (c : TimedCall) → Is c → (r.moment ≤ c.moment) × (c.moment < r.moment + 20000)

-- the station that answered a later call
record Later (Is : TimedCall → Type 0) (k : Claims) (source : ℕ) (r : Reception) (d : TimedCall)
    (answer : Answer Transmission) : Type 0 where
  pub station : StationModel
  pub since : Since Is k source r station
  pub answers : (station_step station d.moment d.call).answer ≡ answer

later : (calls : List TimedCall) (Is : TimedCall → Type 0) (k : Claims) (source : ℕ)
    (r : Reception) (s : StationModel) (m : ℕ) (d : TimedCall) (answer : Answer Transmission)
    → AreBetween Is r → is_from source r ≡ true
    → ((n : ℕ) (c : TimedCall) → IsAsked calls n c → n < m → Is c) → Since Is k source r s
    → IsAsked calls m d → slice_get (answers_of s calls) m ≡ Some answer
    → Later Is k source r d answer
later [] Is k source r s m d answer between from is h asked answered = cc
later (c ∷ calls) Is k source r s zero d answer between from is h asked answered = record {
  station = s;
  since = h;
  answers = ap (λ (e : TimedCall). (station_step s e.moment e.call).answer)
      (sym (same_call c d asked)) ∙ same_answer _ answer answered;
}
later (c ∷ calls) Is k source r s (suc m) d answer between from is h asked answered =
    let mine = is zero c refl (omega arith) in
    later calls Is k source r (station_step s c.moment c.call).station m d answer between from
    (λ n e asks lt. is (suc n) e asks (omega (arith, lt)))
    (since_call c.call Is k source r s c refl mine (between.calm c mine) from (between.time c mine) h)
    asked answered

-- ---- the same number once more

-- as many other numbers as are remembered, each of a packet of the source that was accepted
pub record Others (Is : TimedCall → Type 0) (k : Claims) (source number : ℕ) : Type 0 where
  pub numbers : List ℕ
  pub many : length numbers ≡ k.remember
  pub differ : AreDistinct numbers
  pub absent : is_among number numbers ≡ false
  pub each : (m : ℕ) → is_among m numbers ≡ true
      → (x : Reception) × (is_from source x ≡ true) × (x.number ≡ Some m) × Taken Is k x

-- the reception of a number
record NumberOf (P : Reception → Type 0) (source m : ℕ) : Type 0 where
  pub of : Reception
  pub from : is_from source of ≡ true
  pub number : of.number ≡ Some m
  pub has : P of

number_by : (o : Option ℕ) (P : Reception → Type 0) (source m : ℕ) (x : Reception)
    (ns : List ℕ) → x.number ≡ o → is_from source x ≡ true → P x
    → (is_among m ns ≡ true → NumberOf P source m) → is_among m (with_number o ns) ≡ true
    → NumberOf P source m
number_by None P source m x ns is from has rest e = rest e
number_by (Some n) P source m x ns is from has rest e = by (eqb n m) refl e
  where
    by : (b : Bool) → eqb n m ≡ b → (b || is_among m ns) ≡ true → NumberOf P source m
    by true same e = record {
      of = x;
      from = from;
      number = is ∙ ap Some (eqb-true n m same);
      has = has;
    }
    by false other e = rest e

number_of : (xs : List Reception) (P : Reception → Type 0) (source m : ℕ) → AllByRecursion P xs
    → is_among m (numbers_of (of_source source xs)) ≡ true → NumberOf P source m
number_of [] P source m all e = absurd (true≢false (sym e))
number_of (x ∷ xs) P source m all e =
    by (is_from source x) refl (number_of xs P source m all.1) e
  where
    by : (b : Bool) → is_from source x ≡ b
        → (is_among m (numbers_of (of_source source xs)) ≡ true → NumberOf P source m)
        → is_among m (numbers_of (cond b (x ∷ of_source source xs) (of_source source xs))) ≡ true
        → NumberOf P source m
    by true from rest e =
        number_by x.number P source m x (numbers_of (of_source source xs)) refl from all.0 rest e
    by false other rest e = rest e

others_since : (Is : TimedCall → Type 0) (k : Claims) (source number : ℕ) (r : Reception)
    (s : StationModel) (now : ℕ) (t : Transmission) → Since Is k source r s
    → is_from source r ≡ true → r.number ≡ Some number → number_in t.pdu.body ≡ Some number
    → t.pdu.vector.address ≡ source → now < r.moment + 20000 → verdict s now t ≡ Accept
    → Others Is k source number
others_since Is k source number r s now t h from is same_number same late accepted =
    let numbers = numbers_of (of_source source h.newer) in
    let before = numbers_of (unbroken r.moment (of_source source h.older)) in
    let new : is_repeated s.remember (Some number) source now s.history ≡ false =
    ap (λ (o : Option ℕ). is_repeated s.remember o source now s.history) (sym same_number)
    ∙ ap (λ (n : ℕ). is_repeated s.remember (number_in t.pdu.body) n now s.history) (sym same)
    ∙ accepted_new s now t accepted in
    let absent : is_among number (take k.remember (numbers ++ number ∷ before)) ≡ false =
    ap (λ (o : Option ℕ). is_among number (take k.remember (numbers ++ with_number o before)))
    (sym is)
    ∙ absent_since Is k source r s now number h from late new in
    record {
      numbers = take k.remember numbers;
      many = length_front numbers k.remember (far_behind numbers before k.remember number absent);
      differ = distinct_front numbers k.remember k.remember (omega arith) h.new;
      absent = absent_front numbers (number ∷ before) k.remember number absent;
      each = λ m e.
          (let found = number_of h.newer (Taken Is k) source m h.taken
          (among_front numbers k.remember m e) in
          (found.of, found.from, found.number, found.has));
    }

-- the station after the first of the two packets
since_accepted : (v : Verdict) (Is : TimedCall → Type 0) (k : Claims) (source : ℕ)
    (s : StationModel) (moment : ℕ) (t : Transmission) → s.address ≡ k.address
    → s.remember ≡ k.remember → v ≡ Accept
    → Since Is k source (reception moment t) (receive_step_by s moment t v).station
since_accepted (Refuse refusal) Is k source s moment t address remember e = cc
since_accepted (Ignore why) Is k source s moment t address remember e = cc
since_accepted Accept Is k source s moment t address remember e = record {
  newer = [];
  older = s.history;
  history = refl;
  taken = tt;
  in_time = tt;
  new = tt;
  address = address;
  remember = remember;
}

since_receive : (Is : TimedCall → Type 0) (k : Claims) (source : ℕ) (s : StationModel)
    (moment : ℕ) (t : Transmission) → s.address ≡ k.address → s.remember ≡ k.remember
    → verdict s moment t ≡ Accept
    → Since Is k source (reception moment t) (receive_step s moment t).station
unfolding receive_step
since_receive Is k source s moment t address remember e =
    since_accepted (verdict s moment t) Is k source s moment t address remember e

since_first : (Is : TimedCall → Type 0) (k : Claims) (source : ℕ) (s : StationModel)
    (call : Call) (moment : ℕ) (t u : Transmission) → s.address ≡ k.address
    → s.remember ≡ k.remember → call ≡ Receive t
    → frame_of (station_step s moment call).answer ≡ Some u
    → Since Is k source (reception moment t) (station_step s moment call).station
since_first Is k source s call moment t u address remember is e =
    let given : frame_of (receive_step s moment t).answer ≡ Some u =
    ap (λ (x : Call). frame_of (station_step s moment x).answer) (sym is) ∙ e in
    subst (λ (x : Call). Since Is k source (reception moment t) (station_step s moment x).station)
    (sym is)
    (since_receive Is k source s moment t address remember (gave_accepted s moment t u given))

received_same : (v : Verdict) (s : StationModel) (moment : ℕ) (t : Transmission)
    → ((receive_step_by s moment t v).station.address ≡ s.address)
    × ((receive_step_by s moment t v).station.remember ≡ s.remember)
received_same (Refuse refusal) s moment t = (refl, refl)
received_same (Ignore why) s moment t = (refl, refl)
received_same Accept s moment t = (refl, refl)

same_any : (call : Call) (s : StationModel) (moment : ℕ) → is_restart_call call ≡ false
    → ((station_step s moment call).station.address ≡ s.address)
    × ((station_step s moment call).station.remember ≡ s.remember)
unfolding own_step receive_step
same_any (Own call) s moment calm =
    let same = own_same (first (moment_refusal s moment) (own_refusal s call)) call s moment calm in
    (same.address, same.remember)
same_any (Receive t) s moment calm = received_same (verdict s moment t) s moment t
same_any (Junk fault) s moment calm =
    let same = junk_same (moment_refusal s moment) s fault in (same.address, same.remember)

-- Two packets of one source and number that gave frames: between them are as many others.
pub others_between : (calls : List TimedCall) (Is : TimedCall → Type 0) (k : Claims)
    (source number : ℕ) (s : StationModel) (n m : ℕ) (c d : TimedCall)
    (one two : Answer Transmission) (t v u w : Transmission)
    → ((i : ℕ) (e : TimedCall) → IsAsked calls i e → is_restart_call e.call ≡ false)
    → s.address ≡ k.address → s.remember ≡ k.remember → n < m → IsAsked calls n c
    → IsAsked calls m d → slice_get (answers_of s calls) n ≡ Some one
    → slice_get (answers_of s calls) m ≡ Some two → c.call ≡ Receive t → d.call ≡ Receive v
    → frame_of one ≡ Some u → frame_of two ≡ Some w → t.pdu.vector.address ≡ source
    → v.pdu.vector.address ≡ source → number_in t.pdu.body ≡ Some number
    → number_in v.pdu.body ≡ Some number → AreBetween Is (reception c.moment t)
    → ((i : ℕ) (e : TimedCall) → IsAsked calls i e → n < i → i < m → Is e)
    → d.moment < c.moment + 20000 → Others Is k source number
others_between [] Is k source number s n m c d one two t v u w calm address remember lt asked other
    answered again is_t is_v gives given source_t source_v number_t number_v between is late = cc
others_between (e ∷ calls) Is k source number s zero zero c d one two t v u w calm address remember lt
    asked other answered again is_t is_v gives given source_t source_v number_t number_v between is
    late = absurd (omega arith)
others_between (e ∷ calls) Is k source number s (suc n) zero c d one two t v u w calm address remember
    lt asked other answered again is_t is_v gives given source_t source_v number_t number_v between is
    late = absurd (omega arith)
others_between (e ∷ calls) Is k source number s zero (suc m) c d one two t v u w calm address remember
    lt asked other answered again is_t is_v gives given source_t source_v number_t number_v between is
    late =
    let same = same_call e c asked in
    let frame : frame_of (station_step s c.moment c.call).answer ≡ Some u =
    ap (λ (x : TimedCall). frame_of (station_step s x.moment x.call).answer) (sym same)
    ∙ ap frame_of (same_answer _ one answered) ∙ gives in
    let from : is_from source (reception c.moment t) ≡ true = eq-eqb t.pdu.vector.address source source_t in
    let start : Since Is k source (reception c.moment t) (station_step s e.moment e.call).station =
    subst (λ (x : TimedCall).
    Since Is k source (reception c.moment t) (station_step s x.moment x.call).station) (sym same)
    (since_first Is k source s c.call c.moment t u address remember is_t frame) in
    let l = later calls Is k source (reception c.moment t) (station_step s e.moment e.call).station m d
    two between from (λ i x asks less. is (suc i) x asks (omega arith) (omega (arith, less))) start
    other again in
    let second : frame_of (receive_step l.station d.moment v).answer ≡ Some w =
    ap (λ (x : Call). frame_of (station_step l.station d.moment x).answer) (sym is_v)
    ∙ ap frame_of l.answers ∙ given in
    others_since Is k source number (reception c.moment t) l.station d.moment v l.since from number_t
    number_v source_v late (gave_accepted l.station d.moment v w second)
others_between (e ∷ calls) Is k source number s (suc n) (suc m) c d one two t v u w calm address
    remember lt asked other answered again is_t is_v gives given source_t source_v number_t number_v
    between is late =
    let same = same_any e.call s e.moment (calm zero e refl) in
    others_between calls Is k source number (station_step s e.moment e.call).station n m c d one two t v
    u w (λ i. calm (suc i)) (same.0 ∙ address) (same.1 ∙ remember) (omega (arith, lt)) asked other
    answered again is_t is_v gives given source_t source_v number_t number_v between
    (λ i x asks more less. is (suc i) x asks (omega (arith, more)) (omega (arith, less))) late

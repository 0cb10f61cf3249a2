-- The sequence numbers of own packets for areas: how far two of them are apart, and how many a
-- station uses in a time.
use Rattle.std.proofs.Common.{◌≡◌, ◌⊎◌, ℕ, zero, suc, ◌+◌, ◌-◌, ◌*◌, ◌/◌, ◌%◌, ◌≤◌, ◌<◌, Bool}
use Rattle.std.proofs.Common.{true, false, cond, ◌&&◌, ◌||◌, List, [], ◌∷◌, Option, Some, None, eqb}
use Rattle.std.proofs.Common.{refl, sym, ap, subst, ◌∙◌, true≢false, arith, inl, inr}
use Rattle.std.specs.Prelude.{nat_le, nat_lt, slice_get}
use Rattle.std.specs.List.{count_by}
use Rattle.std.proofs.lemmas.Bool.{le-leb, lt-ltb, cases_lt, eqb-true}
use Rattle.std.proofs.lemmas.Bool.Decides.{nat_tests}
use Rattle.std.proofs.lemmas.Nat.{mul-le}
use Rattle.std.proofs.Math.Nat.{mod-lt}
use Rattle.its_faults.specs.declared.frame.FrameFault.{FrameFault}
use Rattle.its_model.specs.Packet.{Transmission, number_in}
use Rattle.its_model.specs.Calls.{OwnCall, Call, Refusal, Answer}
use Rattle.its_model.specs.Calls.OwnCall.{Move, Open, Close, Tick, SendShb, SendGbc, SendGac}
use Rattle.its_model.specs.Calls.OwnCall.{Restart}
use Rattle.its_model.specs.Calls.Call.{Own, Receive, Junk}
use Rattle.its_model.specs.Calls.Answer.{Sent, Quiet}
use Rattle.its_model.specs.Station.{StationModel, Step, Verdict, first, moment_refusal, own_refusal}
use Rattle.its_model.specs.Station.{performed, own_step_by, own_step, beacon_of, after_sending}
use Rattle.its_model.specs.Station.{number_after, verdict, receive_step_by, receive_step}
use Rattle.its_model.specs.Station.{junk_step_by, station_step}
use Rattle.its_model.specs.Station.Verdict.{Accept, Ignore, Refuse}
use Rattle.its_model.specs.World.{frame_of}
use Rattle.its_model.specs.Isolation.{TimedCall, answers_of, NeverFalls}
use Rattle.its_model.proofs.NumberTests.{count_cons}
use Rattle.its_duties.specs.declared.claims.Claims.{Claims}
use Rattle.its_duties.specs.declared.claims.SequenceModulus.{SequenceModulus}
use Rattle.its_duties.specs.declared.claims.SequenceModulus.TheVariants as moduli
use Rattle.its_duties.specs.Seen.{Seen, AreRead}
use Rattle.its_duties.specs.Times.{nanos, slack, lag}
use Rattle.its_duties.specs.Scenario.{IsAsked, is_restart_call, is_area_send}
use Rattle.its_duties.specs.Scenario.{is_send_in}
use Rattle.its_duties.specs.Verdicts.{doubt_between}
use Rattle.its_duties.specs.Numbers.{steps_by, steps_of, seconds_up, max_of, time_between}
use Rattle.its_duties.specs.Numbers.{FailsNumbers}
use Rattle.its_duties.specs.Duties.{IsModelled, NoScenario}
use Rattle.its_duties.proofs.Frames.{IsOwnFrame, own_frame, some_is}
use Rattle.its_duties.proofs.Causes.{own_cause}
use Rattle.its_duties.proofs.Waiting.{not_before, same_call, same_answer, in_turn, left_by}
use Rattle.its_duties.proofs.Waiting.{stamp_by}
use Rattle.its_duties.proofs.Waiting.{earlier, before}

-- ---- one call

-- the next number after a call: one more at most, and only after a call that uses one
pub record Counts (old new : ℕ) (sends : Bool) : Type 0 where
  pub used : ℕ
  pub is : new ≡ (old + used) % 65536
  pub few : used ≤ 1
  pub by_send : used ≡ 1 → sends ≡ true

none_used : (n : ℕ) (sends : Bool) → n < 65536 → Counts n n sends
none_used n sends small = record {
  used = 0;
  is = omega arith;
  few = omega arith;
  by_send = λ e. absurd (omega (arith, e));
}

one_used : (n : ℕ) → n < 65536 → Counts n (number_after n) true
one_used n small = record { used = 1; is = refl; few = omega arith; by_send = λ e. refl }

tick_counts : (b : Bool) (s : StationModel) (moment : ℕ) → s.next_number < 65536
    → Counts s.next_number
    (cond {A = Step} b (record { answer = Sent (beacon_of s); station = after_sending s moment })
    (record { answer = Quiet; station = record s { clock = moment } })).station.next_number false
tick_counts true s moment small = none_used s.next_number false small
tick_counts false s moment small = none_used s.next_number false small

performed_counts : (call : OwnCall) (s : StationModel) (moment : ℕ)
    → is_restart_call (Own call) ≡ false → s.next_number < 65536
    → Counts s.next_number (performed s moment call).station.next_number (is_area_send (Own call))
performed_counts (Move place accurate speed heading) s moment calm small = none_used _ _ small
performed_counts (Open port) s moment calm small = none_used _ _ small
performed_counts (Close port) s moment calm small = none_used _ _ small
performed_counts (Tick jitter) s moment calm small =
    tick_counts (nat_le (s.beacon_from + jitter) moment) s moment small
performed_counts (SendShb r) s moment calm small = none_used _ _ small
performed_counts (SendGbc r) s moment calm small = one_used s.next_number small
performed_counts (SendGac r) s moment calm small = one_used s.next_number small
performed_counts (Restart number) s moment calm small = absurd (true≢false calm)

own_counts : (o : Option Refusal) (call : OwnCall) (s : StationModel) (moment : ℕ)
    → is_restart_call (Own call) ≡ false → s.next_number < 65536
    → Counts s.next_number (own_step_by s moment call o).station.next_number
    (is_area_send (Own call))
own_counts (Some r) call s moment calm small = none_used _ _ small
own_counts None call s moment calm small = performed_counts call s moment calm small

received_counts : (v : Verdict) (s : StationModel) (moment : ℕ) (t : Transmission)
    → s.next_number < 65536
    → Counts s.next_number (receive_step_by s moment t v).station.next_number false
received_counts (Refuse r) s moment t small = none_used _ _ small
received_counts (Ignore why) s moment t small = none_used _ _ small
received_counts Accept s moment t small = none_used _ _ small

junk_counts : (o : Option Refusal) (s : StationModel) (fault : FrameFault)
    → s.next_number < 65536
    → Counts s.next_number (junk_step_by s fault o).station.next_number false
junk_counts (Some r) s fault small = none_used _ _ small
junk_counts None s fault small = none_used _ _ small

step_counts : (call : Call) (s : StationModel) (moment : ℕ) → is_restart_call call ≡ false
    → s.next_number < 65536
    → Counts s.next_number (station_step s moment call).station.next_number (is_area_send call)
unfolding own_step receive_step
step_counts (Own call) s moment calm small =
    own_counts (first (moment_refusal s moment) (own_refusal s call)) call s moment calm small
step_counts (Receive t) s moment calm small =
    received_counts (verdict s moment t) s moment t small
step_counts (Junk fault) s moment calm small =
    junk_counts (moment_refusal s moment) s fault small

-- the number of a packet is the next one, and takes it
pub record Numbered (s : StationModel) (moment : ℕ) (call : OwnCall) (n : ℕ) : Type 0 where
  pub is : n ≡ s.next_number
  pub after : (own_step s moment call).station.next_number ≡ number_after s.next_number
  pub sends : is_area_send (Own call) ≡ true

number_of : (call : OwnCall) (s : StationModel) (moment : ℕ) (u : Transmission) (n : ℕ)
    → IsOwnFrame call s moment u → number_in u.pdu.body ≡ Some n
    → (n ≡ s.next_number) × (is_area_send (Own call) ≡ true)
number_of (Move place accurate speed heading) s moment u n f is = absurd f
number_of (Open port) s moment u n f is = absurd f
number_of (Close port) s moment u n f is = absurd f
number_of (Tick jitter) s moment u n f is =
    (let none : None ≡ Some n =
    ap (λ (x : Transmission). number_in x.pdu.body) (sym f.0) ∙ is in cc)
number_of (SendShb r) s moment u n f is =
    (let none : None ≡ Some n =
    ap (λ (x : Transmission). number_in x.pdu.body) (sym f) ∙ is in cc)
number_of (SendGbc r) s moment u n f is = (
  sym (some_is s.next_number n
      (ap (λ (x : Transmission). number_in x.pdu.body) (sym f.0) ∙ is)),
  refl,
)
number_of (SendGac r) s moment u n f is = (
  sym (some_is s.next_number n
      (ap (λ (x : Transmission). number_in x.pdu.body) (sym f.0) ∙ is)),
  refl,
)
number_of (Restart number) s moment u n f is = absurd f

-- what is sent for an area takes a number
takes : (o : Option Refusal) (call : OwnCall) (s : StationModel) (moment : ℕ) (u : Transmission)
    → is_area_send (Own call) ≡ true → frame_of (own_step_by s moment call o).answer ≡ Some u
    → (own_step_by s moment call o).station.next_number ≡ number_after s.next_number
takes (Some r) call s moment u sends e = cc
takes None (Move place accurate speed heading) s moment u sends e = absurd (true≢false (sym sends))
takes None (Open port) s moment u sends e = absurd (true≢false (sym sends))
takes None (Close port) s moment u sends e = absurd (true≢false (sym sends))
takes None (Tick jitter) s moment u sends e = absurd (true≢false (sym sends))
takes None (SendShb r) s moment u sends e = absurd (true≢false (sym sends))
takes None (SendGbc r) s moment u sends e = refl
takes None (SendGac r) s moment u sends e = refl
takes None (Restart number) s moment u sends e = absurd (true≢false (sym sends))

takes_one : (call : OwnCall) (s : StationModel) (moment : ℕ) (u : Transmission)
    → is_area_send (Own call) ≡ true → frame_of (own_step s moment call).answer ≡ Some u
    → (own_step s moment call).station.next_number ≡ number_after s.next_number
unfolding own_step
takes_one call s moment u sends e =
    takes (first (moment_refusal s moment) (own_refusal s call)) call s moment u sends e

-- ---- many calls

-- a call that uses a number, from one moment to another, both within
abbrev pub is_send_within : ℕ → ℕ → TimedCall → Bool
is_send_within low high c =
    is_area_send c.call && nat_le low c.moment && nat_le c.moment high

-- so many numbers later, of which each has a call
pub record Later (first second : ℕ) (low high : ℕ) (calls : List TimedCall) : Type 0 where
  pub used : ℕ
  pub is : second ≡ (first + used) % 65536
  pub few : used ≤ count_by (is_send_within low high) calls

counted : (used : ℕ) (b : Bool) → used ≤ 1 → (used ≡ 1 → b ≡ true) → used ≤ cond b 1 0
counted used true few h = few
counted used false few h = by (cases_lt used 1)
  where
    by : (used < 1) ⊎ (1 ≤ used) → used ≤ 0
    by (inl lt) = omega (arith, lt)
    by (inr le) = absurd (true≢false (sym (h (omega (arith, le, few)))))

all_three : (a b c : Bool) → a ≡ true → b ≡ true → c ≡ true → (a && b && c) ≡ true
all_three a b c p q r = ap (λ x. x && b && c) p ∙ ap (λ x. true && x && c) q ∙ r

-- the answer to a call is that of the station
frame_there : (s : StationModel) (e d : TimedCall) (answer : Answer Transmission) (v : Transmission)
    (call : OwnCall) → Some e ≡ Some d
    → Some (station_step s e.moment e.call).answer ≡ Some answer → d.call ≡ Own call
    → frame_of answer ≡ Some v → frame_of (own_step s d.moment call).answer ≡ Some v
frame_there s e d answer v call same answered is gives =
    ap (λ (x : Call). frame_of (station_step s d.moment x).answer) (sym is)
    ∙ ap (λ (x : TimedCall). frame_of (station_step s x.moment x.call).answer)
    (sym (same_call e d same))
    ∙ ap frame_of (same_answer _ answer answered) ∙ gives

-- from a station to the number of a later call
numbers_to : (calls : List TimedCall) (s : StationModel) (from low m : ℕ) (d : TimedCall)
    (answer : Answer Transmission) (v : Transmission) (call : OwnCall) (b : ℕ)
    → ((n : ℕ) (c : TimedCall) → IsAsked calls n c → is_restart_call c.call ≡ false)
    → NeverFalls from calls → low ≤ from → s.next_number < 65536 → IsAsked calls m d
    → slice_get (answers_of s calls) m ≡ Some answer → d.call ≡ Own call
    → frame_of answer ≡ Some v → number_in v.pdu.body ≡ Some b
    → Later s.next_number b low d.moment calls
numbers_to [] s from low m d answer v call b calm order late small asked answered is gives numbered =
    cc
numbers_to (e ∷ calls) s from low zero d answer v call b calm order late small asked answered is
    gives numbered =
    (let n = number_of call s d.moment v b
    (own_frame call s d.moment v (frame_there s e d answer v call asked answered is gives))
    numbered in
    record { used = 0; is = omega (arith, n.0, small); few = omega arith })
numbers_to (e ∷ calls) s from low (suc m) d answer v call b calm order late small asked answered is
    gives numbered =
    (let one = step_counts e.call s e.moment (calm zero e refl) small in
    let next = (station_step s e.moment e.call).station in
    let rest = numbers_to calls next e.moment low m d answer v call b (λ n. calm (suc n)) order.1
    (omega (arith, late, order.0)) (subst (λ (n : ℕ). n < 65536) (sym one.is)
    (mod-lt (s.next_number + one.used) (omega arith))) asked answered is gives numbered in
    let within : one.used ≡ 1 → is_send_within low d.moment e ≡ true =
    λ u. all_three _ _ _ (one.by_send u) (le-leb low e.moment (omega (arith, late, order.0)))
    (le-leb e.moment d.moment (not_before calls e.moment m d order.1 asked)) in
    let head = counted one.used (is_send_within low d.moment e) one.few within in
    record {
      used = one.used + rest.used;
      is = added s.next_number one.used rest.used next.next_number b one.is rest.is;
      few = omega (arith, head, rest.few, count_cons (is_send_within low d.moment) e calls);
    })
  where
    added : (p g h q b : ℕ) → q ≡ (p + g) % 65536 → b ≡ (q + h) % 65536
        → b ≡ (p + (g + h)) % 65536
    added p g h q b one two = omega (arith, one, two)

-- from one number to another
pub numbers_apart : (calls : List TimedCall) (s : StationModel) (from n m : ℕ) (c d : TimedCall)
    (one two : Answer Transmission) (u v : Transmission) (call other : OwnCall) (a b : ℕ)
    → ((n : ℕ) (c : TimedCall) → IsAsked calls n c → is_restart_call c.call ≡ false)
    → NeverFalls from calls → s.next_number < 65536 → n < m → IsAsked calls n c
    → IsAsked calls m d
    → slice_get (answers_of s calls) n ≡ Some one → slice_get (answers_of s calls) m ≡ Some two
    → c.call ≡ Own call → d.call ≡ Own other → frame_of one ≡ Some u → frame_of two ≡ Some v
    → number_in u.pdu.body ≡ Some a → number_in v.pdu.body ≡ Some b
    → (l : Later a b c.moment d.moment calls) × (1 ≤ l.used) × (a < 65536)
numbers_apart [] s from n m c d one two u v call other a b calm order small lt asked asked_too
    answered answered_too is is_too gives gives_too numbered numbered_too = cc
numbers_apart (e ∷ calls) s from zero zero c d one two u v call other a b calm order small lt asked
    asked_too answered answered_too is is_too gives gives_too numbered numbered_too =
    absurd (omega (arith, lt))
numbers_apart (e ∷ calls) s from zero (suc m) c d one two u v call other a b calm order small lt
    asked asked_too answered answered_too is is_too gives gives_too numbered numbered_too =
    (let same = same_call e c asked in
    let frame = frame_there s e c one u call asked answered is gives in
    let n = number_of call s c.moment u a (own_frame call s c.moment u frame) numbered in
    let next = (station_step s e.moment e.call).station in
    let after : next.next_number ≡ number_after s.next_number =
    ap (λ (x : TimedCall). (station_step s x.moment x.call).station.next_number) same
    ∙ ap (λ (x : Call). (station_step s c.moment x).station.next_number) is
    ∙ takes_one call s c.moment u n.1 frame in
    let moments : c.moment ≡ e.moment = ap (λ (x : TimedCall). x.moment) (sym same) in
    let rest = numbers_to calls next e.moment c.moment m d two v other b (λ n. calm (suc n))
    order.1 (omega (arith, moments)) (subst (λ (n : ℕ). n < 65536) (sym after)
    (mod-lt (s.next_number + 1) (omega arith))) asked_too answered_too is_too gives_too
    numbered_too in
    let sends : is_area_send e.call ≡ true =
    ap (λ (x : TimedCall). is_area_send x.call) same ∙ ap is_area_send is ∙ n.1 in
    let head : is_send_within c.moment d.moment e ≡ true =
    all_three _ _ _ sends (le-leb c.moment e.moment (omega (arith, moments)))
    (le-leb e.moment d.moment (not_before calls e.moment m d order.1 asked_too)) in (
      record {
        used = 1 + rest.used;
        is = added a s.next_number next.next_number rest.used b n.0 after rest.is;
        few = omega (
          arith,
          rest.few,
          count_cons (is_send_within c.moment d.moment) e calls,
          ap {B = ℕ} (λ (x : Bool). cond x 1 0) head,
        );
      },
      omega arith,
      omega (arith, n.0, small),
    ))
  where
    added : (a p q h b : ℕ) → a ≡ p → q ≡ (p + 1) % 65536 → b ≡ (q + h) % 65536
        → b ≡ (a + (1 + h)) % 65536
    added a p q h b one two three = omega (arith, one, two, three)
numbers_apart (e ∷ calls) s from (suc n) zero c d one two u v call other a b calm order small lt
    asked asked_too answered answered_too is is_too gives gives_too numbered numbered_too =
    absurd (omega (arith, lt))
numbers_apart (e ∷ calls) s from (suc n) (suc m) c d one two u v call other a b calm order small lt
    asked asked_too answered answered_too is is_too gives gives_too numbered numbered_too =
    (let step = step_counts e.call s e.moment (calm zero e refl) small in
    let rest = numbers_apart calls (station_step s e.moment e.call).station e.moment n m c d one two
    u v call other a b (λ n. calm (suc n)) order.1 (subst (λ (n : ℕ). n < 65536) (sym step.is)
    (mod-lt (s.next_number + step.used) (omega arith))) (omega (arith, lt)) asked asked_too answered
    answered_too is is_too gives gives_too numbered numbered_too in (
      record {
        used = rest.0.used;
        is = rest.0.is;
        few = omega (
          arith,
          rest.0.few,
          count_cons (is_send_within c.moment d.moment) e calls,
        );
      },
      rest.1,
      rest.2,
    ))

-- ---- how many in a time

abbrev is_send_span : ℕ → ℕ → TimedCall → Bool
is_send_span low end c = is_area_send c.call && nat_le low c.moment && nat_lt c.moment end

-- a test that passes only where one of two others does counts at most as they do
count_two : (p q r : TimedCall → Bool) (calls : List TimedCall)
    → ((c : TimedCall) → p c ≡ true → (q c || r c) ≡ true)
    → count_by p calls ≤ count_by q calls + count_by r calls
count_two p q r [] h = omega arith
count_two p q r (c ∷ calls) h =
    omega (
      arith,
      count_two p q r calls h,
      count_cons p c calls,
      count_cons q c calls,
      count_cons r c calls,
      by (p c) (q c) (r c) (h c),
    )
  where
    by : (a b d : Bool) → (a ≡ true → (b || d) ≡ true) → cond a 1 0 ≤ cond b 1 0 + cond d 1 0
    by false b d h = omega arith
    by true true d h = omega arith
    by true false true h = omega arith
    by true false false h = absurd (true≢false (sym (h refl)))

count_none : (p : TimedCall → Bool) (calls : List TimedCall) → ((c : TimedCall) → p c ≡ false)
    → count_by p calls ≡ 0
count_none p [] h = refl
count_none p (c ∷ calls) h =
    omega (arith, count_none p calls h, count_cons p c calls, ap {B = ℕ} (λ (x : Bool). cond x 1 0) (h c))

empty_span : (a : Bool) (low moment : ℕ) → (a && nat_le low moment && nat_lt moment low) ≡ false
empty_span false low moment = refl
empty_span true low moment = by (nat_le low moment) (nat_lt moment low) refl refl
  where
    le : (a b : ℕ) → nat_le a b ≡ true → a ≤ b
    le a b e = grind (arith, nat_tests)

    lt : (a b : ℕ) → nat_lt a b ≡ true → a < b
    lt a b e = grind (arith, nat_tests)

    by : (x y : Bool) → nat_le low moment ≡ x → nat_lt moment low ≡ y → (true && x && y) ≡ false
    by false y p q = refl
    by true false p q = refl
    by true true p q = absurd (omega (arith, le _ _ p, lt _ _ q))

-- a moment of a longer span is in the span, or in the second after it
split_span : (a : Bool) (low end moment : ℕ) → low ≤ end
    → (a && nat_le low moment && nat_lt moment (end + 1000)) ≡ true
    → ((a && nat_le low moment && nat_lt moment end)
    || (a && nat_le end moment && nat_lt moment (end + 1000))) ≡ true
split_span false low end moment le e = absurd (true≢false (sym e))
split_span true low end moment le e =
    by (nat_le low moment) (nat_lt moment (end + 1000)) (nat_lt moment end) (nat_le end moment) refl
    refl e
  where
    ge : (a b : ℕ) → nat_lt a b ≡ false → b ≤ a
    ge a b e = grind (arith, nat_tests)

    by : (x y z w : Bool) → nat_lt moment end ≡ z → nat_le end moment ≡ w → (true && x && y) ≡ true
        → ((true && x && z) || (true && w && y)) ≡ true
    by true true true w p q e = refl
    by true true false true p q e = refl
    by true true false false p q e =
        absurd (true≢false (sym (le-leb end moment (ge moment end p)) ∙ q))
    by true false z w p q e = absurd (true≢false (sym e))
    by false y z w p q e = absurd (true≢false (sym e))

spans : (q rate low : ℕ) (calls : List TimedCall)
    → ((from : ℕ) → count_by (is_send_in from) calls ≤ rate)
    → count_by (is_send_span low (low + 1000 * q)) calls ≤ rate * q
spans zero rate low calls bound =
    omega (
      arith,
      count_none (is_send_span low (low + 0)) calls
          (λ c. ap (λ (n : ℕ). is_area_send c.call && nat_le low c.moment && nat_lt c.moment n) (plus low)
          ∙ empty_span (is_area_send c.call) low c.moment),
    )
  where
    plus : (n : ℕ) → n + 0 ≡ n
    plus n = omega arith
spans (suc q) rate low calls bound =
    (let end = low + 1000 * q in
    let more : low + 1000 * suc q ≡ end + 1000 = omega arith in
    let two = count_two (is_send_span low (end + 1000)) (is_send_span low end) (is_send_in end) calls
    (λ c. split_span (is_area_send c.call) low end c.moment (omega arith)) in
    let product : rate * suc q ≡ rate * q + rate = omega_product rate q in
    subst (λ (n : ℕ). count_by (is_send_span low n) calls ≤ rate * suc q) (sym more)
    (omega (arith, two, spans q rate low calls bound, bound end, product)))
  where
    omega_product : (r q : ℕ) → r * suc q ≡ r * q + r
    omega_product r q = grind arith

wider : (low high end : ℕ) (calls : List TimedCall) → high < end
    → count_by (is_send_within low high) calls ≤ count_by (is_send_span low end) calls
wider low high end [] lt = omega arith
wider low high end (c ∷ calls) lt =
    omega (
      arith,
      wider low high end calls lt,
      count_cons (is_send_within low high) c calls,
      count_cons (is_send_span low end) c calls,
      by (is_area_send c.call) (nat_le low c.moment) (nat_le c.moment high) (nat_lt c.moment end)
          refl refl,
    )
  where
    le : (a b : ℕ) → nat_le a b ≡ true → a ≤ b
    le a b e = grind (arith, nat_tests)

    by : (a b x y : Bool) → nat_le c.moment high ≡ x → nat_lt c.moment end ≡ y
        → cond (a && b && x) 1 0 ≤ cond (a && b && y) 1 0
    by false b x y p q = omega arith
    by true false x y p q = omega arith
    by true true false y p q = omega arith
    by true true true true p q = omega arith
    by true true true false p q =
        absurd (true≢false (sym (lt-ltb c.moment end (omega (arith, lt, le _ _ p))) ∙ q))

-- in so many seconds, rounded down, and one more
pub sends_within : (rate low high q : ℕ) (calls : List TimedCall)
    → ((from : ℕ) → count_by (is_send_in from) calls ≤ rate) → high < low + 1000 * (q + 1)
    → count_by (is_send_within low high) calls ≤ rate * (q + 1)
sends_within rate low high q calls bound short =
    omega (arith, wider low high (low + 1000 * (q + 1)) calls short, spans (q + 1) rate low calls bound)

-- ---- the steps

-- the number of steps from one number to another is no more than those that were made
steps_few : (a b used : ℕ) → a < 65536 → 1 ≤ used → b ≡ (a + used) % 65536
    → steps_by 65536 a b ≤ used
steps_few a b used small some is = by (eqb ((b + 65536 - a) % 65536) 0) refl
  where
    by : (x : Bool) → eqb ((b + 65536 - a) % 65536) 0 ≡ x
        → cond x 65536 ((b + 65536 - a) % 65536) ≤ used
    by true e = omega (arith, small, some, is, eqb-true _ _ e)
    by false e = omega (arith, small, some, is)

-- so by the claims
steps_claimed : (modulus : Option SequenceModulus) (a b used : ℕ)
    → (modulus ≡ None) ⊎ (modulus ≡ Some moduli.Full) → steps_by 65536 a b ≤ used → steps_of modulus a b ≤ used
steps_claimed None a b used h few =
    by (nat_lt (steps_by 65536 a b) (steps_by 65535 a b)) refl
  where
    ge : (a b : ℕ) → nat_lt a b ≡ false → b ≤ a
    ge a b e = grind (arith, nat_tests)

    by : (x : Bool) → nat_lt (steps_by 65536 a b) (steps_by 65535 a b) ≡ x
        → cond x (steps_by 65536 a b) (steps_by 65535 a b) ≤ used
    by true e = few
    by false e = omega (arith, few, ge (steps_by 65536 a b) (steps_by 65535 a b) e)
steps_claimed (Some m) a b used (inl none) few = cc
steps_claimed (Some moduli.Short) a b used (inr is) few = cc
steps_claimed (Some moduli.Full) a b used (inr is) few = few

-- ---- the time

-- so many whole seconds between two moments are no more than between the stamps
seconds : (a b q time : ℕ) → q ≡ (b - a) / 1000 → 1000000 * b ≤ 1000000 * a + time
    → q ≤ seconds_up time
seconds a b q time is near = omega (arith, is, near)

within_seconds : (a b : ℕ) → a ≤ b → b < a + 1000 * ((b - a) / 1000 + 1)
within_seconds a b le = omega (arith, le)

first_of_max : (a b : ℕ) → a ≤ max_of a b
first_of_max a b = by (nat_lt a b) refl
  where
    lt : (a b : ℕ) → nat_lt a b ≡ true → a < b
    lt a b e = grind (arith, nat_tests)

    by : (x : Bool) → nat_lt a b ≡ x → a ≤ cond x b a
    by true e = omega (arith, lt a b e)
    by false e = omega arith

-- the stamps of two frames of own calls
between : (ahead behind a b left_a left_b i j lag slack since : ℕ) → left_a ≤ 1000000 * a + lag
    → 1000000 * b ≤ left_b
    → i + ahead ≤ left_a + behind + slack → left_b + behind ≤ j + ahead + slack
    → i + since ≡ j → 1000000 * b ≤ 1000000 * a + (since + (lag + 2 * slack))
between ahead behind a b left_a left_b i j lag slack since la bl n2 n3 is = omega arith

pub numbers_proof : (k : Claims) (tap : List Seen) (j : ℕ) → AreRead tap → IsModelled k
    → FailsNumbers k tap j → NoScenario k tap
numbers_proof k tap j all modelled f w x =
    let one = own_cause k tap f.i f.before f.packet all f.earlier w x in
    let two = own_cause k tap j f.seen f.frame all f.later w x in
    let a = one.0.call.moment in
    let b = two.0.call.moment in
    let left_one = x.left f.i in
    let left_two = x.left j in
    let near_one = stamp_by k w.shift f.before.retried f.before.moment left_one f.sure.0
    one.0.near in
    let near_two = stamp_by k w.shift f.seen.retried f.seen.moment left_two f.sure.1 two.0.near in
    let soon_one = left_by k one.0.call.call one.1.call a (w.arrival (x.call_of f.i)) left_one
    one.1.is_call one.0.soon in
    let soon_two = left_by k two.0.call.call two.1.call b (w.arrival (x.call_of j)) left_two
    two.1.is_call two.0.soon in
    let order : a < b = earlier w.shift.ahead w.shift.behind a b (nanos left_one) (nanos left_two)
    f.before.moment f.seen.moment (lag k) (slack k) f.since soon_one
    (omega (arith, one.0.after)) (omega (arith, two.0.after)) soon_two near_one.not_earlier
    near_one.not_later near_two.not_earlier near_two.not_later f.since_is f.apart in
    let turn : x.call_of f.i < x.call_of j =
    before (x.call_of f.i) (x.call_of j) a b (cases_lt (x.call_of f.i) (x.call_of j))
    (λ le. in_turn w.calls 0 (x.call_of j) (x.call_of f.i) two.0.call one.0.call w.order
    two.0.asked one.0.asked le) order in
    let number_one : number_in one.0.frame.pdu.body ≡ Some f.first =
    ap (λ (y : Transmission). number_in y.pdu.body) (sym one.1.read.is) ∙ f.first_is in
    let number_two : number_in two.0.frame.pdu.body ≡ Some f.second =
    ap (λ (y : Transmission). number_in y.pdu.body) (sym two.1.read.is) ∙ f.second_is in
    let apart = numbers_apart w.calls w.start 0 (x.call_of f.i) (x.call_of j) one.0.call two.0.call
    one.0.answer two.0.answer one.0.frame two.0.frame one.1.call two.1.call f.first f.second
    (w.steady f.steady) w.order w.starts.number turn one.0.asked two.0.asked one.0.answered
    two.0.answered one.1.is_call two.1.is_call one.0.given two.0.given number_one number_two in
    let steps = steps_claimed k.modulus f.first f.second apart.0.used modelled.modulus
    (steps_few f.first f.second apart.0.used apart.2 apart.1 apart.0.is) in
    let q = (b - a) / 1000 in
    let sent = sends_within k.rate a b q w.calls w.rate (within_seconds a b (omega (arith, order))) in
    let time : ℕ = time_between k f.since
    ((f.frame.pdu.vector.timestamp + 4294967296 - f.packet.pdu.vector.timestamp) % 4294967296)
    f.age in
    let near = between w.shift.ahead w.shift.behind a b (nanos left_one) (nanos left_two)
    f.before.moment f.seen.moment (lag k) (slack k) f.since soon_one (omega (arith, two.0.after))
    near_one.not_later near_two.not_earlier f.since_is in
    let long : f.since + doubt_between k ≤ time = first_of_max (f.since + doubt_between k) _ in
    let enough : q ≤ seconds_up time = seconds a b q time refl (omega (arith, near, long)) in
    let product : k.rate * (q + 1) ≤ k.rate * (seconds_up time + 1) =
    mul-le k.rate (q + 1) k.rate (seconds_up time + 1) (omega arith) (omega (arith, enough)) in
    omega (arith, f.too_many, steps, apart.0.few, sent, product)

-- A packet that the station forwarded twice is a fail that is a proof, if it can't have forgotten it,
-- or didn't hear it as often.
use Rattle.std.proofs.Common.{◌≡◌, ◌≢◌, ◌⊎◌, ℕ, zero, suc, ◌+◌, ◌-◌, ◌*◌, ◌≤◌, ◌<◌, Bool, true}
use Rattle.std.proofs.Common.{false, cond, not, ◌&&◌, ◌||◌, List, [], ◌∷◌, Option, Some, None}
use Rattle.std.proofs.Common.{eqb, refl, sym, ap, subst, ◌∙◌, true≢false, arith, inl, inr}
use Rattle.std.specs.Prelude.{filter, nat_le, slice_get}
use Rattle.std.proofs.lemmas.Bool.{eqb-true, eq-eqb, eqb-false, cases_lt, ne_eqb}
use Rattle.std.proofs.lemmas.Bool.Decides.{nat_tests}
use Rattle.its_model.specs.Packet.{Pdu, Transmission, number_in}
use Rattle.its_model.specs.History.{Reception, is_from, is_among}
use Rattle.its_model.specs.Log.{distinct}
use Rattle.its_model.specs.Calls.{Answer}
use Rattle.its_model.specs.Calls.Call.{Receive}
use Rattle.its_model.specs.World.{frame_of}
use Rattle.its_model.specs.Isolation.{TimedCall, answers_of}
use Rattle.its_model.proofs.Distinct.{subset_le, among_filter}
use Rattle.its_duties.specs.declared.claims.Claims.{Claims}
use Rattle.its_duties.specs.Seen.{Seen, AreRead, is_of, is_of_other, is_heard, is_relay, is_sent}
use Rattle.its_duties.specs.Seen.{sendings, is_number, IsUnread}
use Rattle.its_duties.specs.Times.{Shift, Stretch, nanos, slack, wait, life, begin_of, lies_in}
use Rattle.its_duties.specs.Times.{is_within}
use Rattle.its_duties.specs.Scenario.{Scenario, Explains, IsAsked, IsCall, ArrivesBy, IsUnrecorded}
use Rattle.its_duties.specs.Scenario.{IsStampOfSent}
use Rattle.its_duties.specs.Heard.{has_number, is_heard_from, NoUnread}
use Rattle.its_duties.specs.Duties.{IsModelled, IsRelayRecord, NoScenario}
use Rattle.its_duties.specs.Forwarding.{is_packet, other_number, number_of_frame, numbers_but}
use Rattle.its_duties.specs.Forwarding.{is_from_in, others_in, is_heard_in, heard_in, is_relayed_in}
use Rattle.its_duties.specs.Forwarding.{counted_in, copies_in}
use Rattle.its_duties.specs.Forwarding.{relayed_in, IsWhole, FailsOnce}
use Rattle.its_duties.proofs.Frames.{accepted_other, accepted_for}
use Rattle.its_duties.proofs.Read.{is_read}
use Rattle.its_duties.proofs.Causes.{relay_cause}
use Rattle.its_duties.proofs.Waiting.{in_turn, stamp_by}
use Rattle.its_duties.proofs.Received.{IsForeign, WasHeard, heard_by, any_at, within, for_mac}
use Rattle.its_duties.proofs.Received.{left_by}
use Rattle.its_duties.proofs.RelayLaws.{and_first, and_second}
use Rattle.its_duties.proofs.Remembered.{Taken, others_between}
use Rattle.its_duties.proofs.Injections.{Passes, count_injected}

both : (a b : Bool) → a ≡ true → b ≡ true → (a && b) ≡ true
both a b p q = ap (λ (x : Bool). x && b) p ∙ q

-- ---- the call that forwarded a packet

-- when it came, and when its frame left
record RelayTime (k : Claims) (shift : Shift) (stamp moment arrival : ℕ) : Type 0 where
  pub order : arrival ≤ moment
  pub late : nanos moment + shift.behind ≤ stamp + shift.ahead + slack k
  pub soon : stamp + shift.ahead ≤ nanos arrival + wait k + shift.behind + slack k

relay_time : (k : Claims) (shift : Shift) (retried : Bool) (stamp moment arrival left : ℕ)
    → retried ≡ false → arrival ≤ moment → moment ≤ left → nanos left ≤ nanos arrival + wait k
    → IsStampOfSent k shift retried stamp left → RelayTime k shift stamp moment arrival
relay_time k shift retried stamp moment arrival left sure order after soon near =
    let is = stamp_by k shift retried stamp left sure near in
    record {
      order = order;
      late = omega (arith, after, is.not_earlier);
      soon = omega (arith, soon, is.not_later);
    }

record RelayCall {k : Claims} {tap : List Seen} (w : Scenario k tap) (r : Seen) (t : Transmission)
    (n : ℕ) : Type 0 where
  pub call : TimedCall
  pub answer : Answer Transmission
  pub frame : Transmission
  pub packet : Transmission
  pub asked : IsAsked w.calls n call
  pub answered : slice_get (answers_of w.start w.calls) n ≡ Some answer
  pub given : frame_of answer ≡ Some frame
  pub is_call : call.call ≡ Receive packet
  pub pdu : t.pdu ≡ packet.pdu
  pub foreign : IsForeign k packet
  pub arrives : ArrivesBy k tap w.shift packet (w.arrival n) (w.record_of n)
  pub time : RelayTime k w.shift r.moment call.moment (w.arrival n)

relay_call : (k : Claims) (tap : List Seen) (i : ℕ) (r : Seen) (t : Transmission) → AreRead tap
    → IsModelled k → IsRelayRecord k tap i r t → r.retried ≡ false → (w : Scenario k tap)
    → (x : Explains k tap w) → RelayCall w r t (x.call_of i)
relay_call k tap i r t all modelled is sure w x =
    let c = relay_cause k tap i r t all is w x in
    let g = c.0 in
    let n = x.call_of i in
    let h = w.heard n g.call c.1.packet g.asked c.1.is_call in
    record {
      call = g.call;
      answer = g.answer;
      frame = g.frame;
      packet = c.1.packet;
      asked = g.asked;
      answered = g.answered;
      given = g.given;
      is_call = c.1.is_call;
      pdu = ap (λ (y : Transmission). y.pdu) c.1.read.is
          ∙ ap (λ (y : Transmission). y.pdu) c.1.frame.is;
      foreign = record {
        fields = subst IsCall c.1.is_call (w.in_range n g.call g.asked);
        sender = h.foreign;
        other = λ e. c.1.frame.other (e ∙ sym c.1.kept.address);
        target = for_mac k c.1.station c.1.packet modelled.mac c.1.kept.address c.1.frame.for_it;
      };
      arrives = h.arrives;
      time = relay_time k w.shift r.retried r.moment g.call.moment (w.arrival n) (x.left i) sure h.after
          g.after
          (left_by k g.call.call c.1.packet g.call.moment (w.arrival n) (x.left i) c.1.is_call g.soon)
          g.near;
    }

-- ---- the record of a frame that was received

record Arrived (k : Claims) (tap : List Seen) (stretch : Stretch) (v : Transmission)
    (o : Option ℕ) : Type 0 where
  pub i : ℕ
  pub is : o ≡ Some i
  pub seen : Seen
  pub at : slice_get tap i ≡ Some seen
  pub lies : lies_in stretch seen ≡ true
  pub heard : WasHeard k seen v

-- It arrived in the stretch, which begins so long before the first stamp and ends after the second.
record IsTimely (k : Claims) (shift : Shift) (back arrival from first second : ℕ) : Type 0 where
  pub low : first + shift.ahead ≤ nanos arrival + shift.behind + back + slack k
  pub high : nanos arrival + shift.behind ≤ second + shift.ahead + slack k
  pub starts : from ≤ first - (back + 2 * slack k)

arrived : (o : Option ℕ) (k : Claims) (tap : List Seen) (shift : Shift) (v : Transmission)
    (back arrival from first second : ℕ)
    → AreRead tap → k.received ≡ true → begin_of tap + (back + 2 * slack k) ≤ first
    → NoUnread k tap (record { from = from; to = second + 2 * slack k }) → IsForeign k v
    → IsTimely k shift back arrival from first second → ArrivesBy k tap shift v arrival o
    → Arrived k tap (record { from = from; to = second + 2 * slack k }) v o
arrived None k tap shift v back arrival from first second all received begins none foreign time a =
    absurd (by a)
  where
    by : IsUnrecorded k tap shift arrival → ⊥
    by (inl claims) = true≢false (sym received ∙ claims)
    by (inr early) = omega (arith, begins, time.low, early.1)
arrived (Some i) k tap shift v back arrival from first second all received begins none foreign time a =
    by (heard_by a.record_there.frame k a.record_there v refl (is_read tap i _ all a.at) a.carries
    foreign)
  where
    lies : lies_in (record { from = from; to = second + 2 * slack k }) a.record_there ≡ true
    lies = any_at (is_within (record { from = from; to = second + 2 * slack k }))
        (sendings a.record_there) a.number a.stamp a.is_sending
        (within from (second + 2 * slack k) a.stamp
        (omega (arith, time.starts, time.low, a.near.not_earlier))
        (omega (arith, time.high, a.near.not_later)))

    by : WasHeard k a.record_there v ⊎ IsUnread k a.record_there
        → Arrived k tap (record { from = from; to = second + 2 * slack k }) v (Some i)
    by (inl h) = record {
      i = i;
      is = refl;
      seen = a.record_there;
      at = a.at;
      lies = lies;
      heard = h;
    }
    by (inr unread) = absurd (none i a.record_there a.at unread lies)

-- ---- numbers among the records

other_there : (o : Option ℕ) (n m : ℕ) (ns : List ℕ) → is_among m ns ≡ true
    → is_among m (other_number n o ns) ≡ true
other_there None n m ns e = e
other_there (Some x) n m ns e = by (eqb x n)
  where
    by : (b : Bool) → is_among m (cond b ns (x ∷ ns)) ≡ true
    by true = e
    by false = more (eqb x m)
      where
        more : (c : Bool) → (c || is_among m ns) ≡ true
        more true = refl
        more false = e

other_here : (n m : ℕ) (ns : List ℕ) → m ≢ n → is_among m (other_number n (Some m) ns) ≡ true
other_here n m ns other =
    ap (λ (b : Bool). is_among m (cond b ns (m ∷ ns))) (ne_eqb m n other)
    ∙ ap (λ (b : Bool). b || is_among m ns) (eq-eqb m m refl)

number_there : (tap : List Seen) (i : ℕ) (seen : Seen) (p : Seen → Bool) (n m : ℕ)
    → slice_get tap i ≡ Some seen → p seen ≡ true → number_of_frame seen.frame ≡ Some m → m ≢ n
    → is_among m (numbers_but n (filter p tap)) ≡ true
number_there [] i seen p n m at passes number other = cc
number_there (r ∷ tap) zero seen p n m at passes number other =
    subst (λ (b : Bool). is_among m (numbers_but n (cond b (r ∷ filter p tap) (filter p tap)))
    ≡ true) (sym (ap p same ∙ passes))
    (subst (λ (o : Option ℕ). is_among m (other_number n o (numbers_but n (filter p tap))) ≡ true)
    (sym (ap (λ (x : Seen). number_of_frame x.frame) same ∙ number))
    (other_here n m (numbers_but n (filter p tap)) other))
  where
    same : r ≡ seen
    same = some_seen r seen at
      where
        some_seen : (a b : Seen) → Some a ≡ Some b → a ≡ b
        some_seen a b e = cc
number_there (r ∷ tap) (suc i) seen p n m at passes number other =
    by (p r) (number_there tap i seen p n m at passes number other)
  where
    by : (b : Bool) → is_among m (numbers_but n (filter p tap)) ≡ true
        → is_among m (numbers_but n (cond b (r ∷ filter p tap) (filter p tap))) ≡ true
    by true rest = other_there (number_of_frame r.frame) n m (numbers_but n (filter p tap)) rest
    by false rest = rest

pub distinct_has : (ns : List ℕ) (m : ℕ) → is_among m ns ≡ true → is_among m (distinct ns) ≡ true
distinct_has [] m e = e
distinct_has (n ∷ ns) m e = by (eqb n m) refl (distinct_has ns m) e
  where
    turned : (a b : ℕ) → eqb a b ≡ false → eqb b a ≡ false
    turned a b e = ne_eqb b a (λ same. eqb-false a b e (sym same))

    by : (b : Bool) → eqb n m ≡ b
        → (is_among m ns ≡ true → is_among m (distinct ns) ≡ true)
        → (b || is_among m ns) ≡ true
        → (b || is_among m (filter (λ x. not (eqb x n)) (distinct ns))) ≡ true
    by true same rest e = refl
    by false other rest e =
        among_filter (λ x. not (eqb x n)) m (distinct ns)
        ∙ ap (λ (c : Bool). not c && is_among m (distinct ns)) (turned n m other)
        ∙ rest e

-- ---- it can't have forgotten the packet

-- a call between two others
record Between (calls : List TimedCall) (n m : ℕ) (e : TimedCall) : Type 0 where
  pub place : ℕ
  pub asked : IsAsked calls place e
  pub after : n < place
  pub before : place < m

-- the packet of a record that was heard
pub heard_from : (k : Claims) (seen : Seen) (v : Transmission) (source : ℕ) → WasHeard k seen v
    → v.pdu.vector.address ≡ source → is_heard_from k source seen ≡ true
heard_from k seen v source h is =
    both (is_heard k seen) (is_of source seen.frame) h.heard
    (ap (is_of source) h.frame
    ∙ eq-eqb h.packet.pdu.vector.address source
    (ap (λ (p : Pdu). p.vector.address) h.pdu ∙ is))

heard_number : (k : Claims) (seen : Seen) (v : Transmission) (m : ℕ) → WasHeard k seen v
    → number_in v.pdu.body ≡ Some m → number_of_frame seen.frame ≡ Some m
heard_number k seen v m h is =
    ap number_of_frame h.frame ∙ ap (λ (p : Pdu). number_in p.body) h.pdu ∙ is

-- two packets of one source and number that were forwarded, the first by the earlier call
record Twice (k : Claims) (tap : List Seen) (source number first second : ℕ) : Type 0 where
  pub i : ℕ
  pub j : ℕ
  pub earlier : Seen
  pub later : Seen
  pub packet : Transmission
  pub frame : Transmission
  pub one : IsRelayRecord k tap i earlier packet
  pub two : IsRelayRecord k tap j later frame
  pub sure : (earlier.retried ≡ false) × (later.retried ≡ false)
  pub low : (first ≤ earlier.moment) × (first ≤ later.moment)
  pub high : (earlier.moment ≤ second) × (later.moment ≤ second)
  pub source_is : (packet.pdu.vector.address ≡ source) × (frame.pdu.vector.address ≡ source)
  pub number_is : (number_in packet.pdu.body ≡ Some number)
      × (number_in frame.pdu.body ≡ Some number)

-- a number of a packet that was accepted between is among those that were heard
heard_between : (k : Claims) (tap : List Seen) (source number first second m : ℕ) (w : Scenario k tap)
    (n o : ℕ) (a b : TimedCall) (stamp other arrival : ℕ) (x : Reception)
    → AreRead tap → IsModelled k → k.received ≡ true
    → IsWhole k tap (2 * wait k + 2 * slack k) first (counted_in k first second)
    → IsAsked w.calls n a → IsAsked w.calls o b
    → RelayTime k w.shift stamp a.moment arrival → first ≤ stamp
    → nanos b.moment + w.shift.behind ≤ other + w.shift.ahead + slack k → other ≤ second
    → is_from source x ≡ true → x.number ≡ Some m → m ≢ number
    → Taken (Between w.calls n o) k x
    → is_among m (numbers_but number
    (filter (is_from_in k source (counted_in k first second)) tap)) ≡ true
heard_between k tap source number first second m w n o a b stamp other arrival x all modelled received
    whole asked_a asked_b time low late high from is differs taken =
    let q = taken.is.place in
    let c = taken.call in
    let v = taken.packet in
    let h = w.heard q c v taken.is.asked taken.is_call in
    let after : a.moment ≤ c.moment =
    in_turn w.calls 0 n q a c w.order asked_a taken.is.asked (omega (arith, taken.is.after)) in
    let before : c.moment ≤ b.moment =
    in_turn w.calls 0 q o c b w.order taken.is.asked asked_b (omega (arith, taken.is.before)) in
    let foreign : IsForeign k v = record {
      fields = subst IsCall taken.is_call (w.in_range q c taken.is.asked);
      sender = h.foreign;
      other = λ e. accepted_other taken.station c.moment v taken.accepted (e ∙ sym taken.address);
      target = for_mac k taken.station v modelled.mac taken.address
          (accepted_for taken.station c.moment v taken.accepted);
    } in
    let timely : IsTimely k w.shift (2 * wait k) (w.arrival q) (first - 2 * wait k - 2 * slack k) first
    second = record {
      low = omega (arith, low, time.soon, time.order, after, h.soon);
      high = omega (arith, h.after, before, late, high);
      starts = omega arith;
    } in
    let found = arrived (w.record_of q) k tap w.shift v (2 * wait k) (w.arrival q)
    (first - 2 * wait k - 2 * slack k) first second all received whole.begins whole.all_read foreign
    timely h.arrives in
    let source_is : v.pdu.vector.address ≡ source =
    ap (λ (y : Reception). y.vector.address) (sym taken.reception_is)
    ∙ eqb-true x.vector.address source from in
    let number_is : number_in v.pdu.body ≡ Some m =
    ap (λ (y : Reception). y.number) (sym taken.reception_is) ∙ is in
    number_there tap found.i found.seen (is_from_in k source (counted_in k first second)) number m
    found.at
    (both (is_heard_from k source found.seen) (lies_in (counted_in k first second) found.seen)
    (heard_from k found.seen v source found.heard source_is) found.lies)
    (heard_number k found.seen v m found.heard number_is) differs

not_among : (m n : ℕ) (ns : List ℕ) → is_among n ns ≡ false → is_among m ns ≡ true → m ≢ n
not_among m n ns absent there same =
    true≢false (sym there ∙ ap (λ (x : ℕ). is_among x ns) same ∙ absent)

-- the two calls are less than a source's life apart
apart : (k : Claims) (shift : Shift) (first second a b one two arrival : ℕ) → k.life ≡ 20000
    → RelayTime k shift one a arrival → first ≤ one
    → nanos b + shift.behind ≤ two + shift.ahead + slack k → two ≤ second
    → second + wait k + 2 * slack k < first + life k → b < a + 20000
apart k shift first second a b one two arrival is time low late high short =
    let short_by : second + wait k + 2 * slack k < first + nanos 20000 =
    subst (λ (n : ℕ). second + wait k + 2 * slack k < first + nanos n) is short in
    omega (arith, time.order, time.soon, low, late, high, short_by)

twice_by : (k : Claims) (tap : List Seen) (source number first second : ℕ) → AreRead tap
    → IsModelled k → k.steady ≡ true → k.received ≡ true
    → second + wait k + 2 * slack k < first + life k
    → IsWhole k tap (2 * wait k + 2 * slack k) first (counted_in k first second)
    → others_in k source number (counted_in k first second) tap < k.remember
    → (t : Twice k tap source number first second) → (w : Scenario k tap) → (x : Explains k tap w)
    → x.call_of t.i < x.call_of t.j → ⊥
twice_by k tap source number first second all modelled steady received short whole few t w x lt =
    let a = relay_call k tap t.i t.earlier t.packet all modelled t.one t.sure.0 w x in
    let b = relay_call k tap t.j t.later t.frame all modelled t.two t.sure.1 w x in
    let n = x.call_of t.i in
    let o = x.call_of t.j in
    let late : b.call.moment < a.call.moment + 20000 =
    apart k w.shift first second a.call.moment b.call.moment t.earlier.moment t.later.moment
    (w.arrival n) modelled.life a.time t.low.0 b.time.late t.high.1 short in
    let others = others_between w.calls (Between w.calls n o) k source number w.start n o a.call b.call
    a.answer b.answer a.packet b.packet a.frame b.frame (w.steady steady) w.starts.address
    w.starts.remember lt a.asked b.asked a.answered b.answered a.is_call b.is_call a.given b.given
    (ap (λ (p : Pdu). p.vector.address) (sym a.pdu) ∙ t.source_is.0)
    (ap (λ (p : Pdu). p.vector.address) (sym b.pdu) ∙ t.source_is.1)
    (ap (λ (p : Pdu). number_in p.body) (sym a.pdu) ∙ t.number_is.0)
    (ap (λ (p : Pdu). number_in p.body) (sym b.pdu) ∙ t.number_is.1) (record {
      calm = λ c is. w.steady steady is.place c is.asked;
      time = λ c is. (
        in_turn w.calls 0 n is.place a.call c w.order a.asked is.asked (omega (arith, is.after)),
        between_late a.call.moment b.call.moment c.moment
            (in_turn w.calls 0 is.place o c b.call w.order is.asked b.asked (omega (arith, is.before)))
            late,
      );
    })
    (λ q c asked after before. record { place = q; asked = asked; after = after; before = before })
    late in
    let heard = numbers_but number
    (filter (is_from_in k source (counted_in k first second)) tap) in
    let most = subset_le others.numbers (distinct heard) others.differ
    (λ m there.
    (let found = others.each m there in
    distinct_has heard m (heard_between k tap source number first second m w n o a.call b.call
    t.earlier.moment t.later.moment (w.arrival n) found.0 all modelled received whole a.asked b.asked
    a.time t.low.0 b.time.late t.high.1 found.1 found.2
    (not_among m number others.numbers others.absent there) found.3))) in
    omega (arith, most, others.many, few)
  where
    between_late : (a b c : ℕ) → c ≤ b → b < a + 20000 → c < a + 20000
    between_late a b c le lt = omega (arith, le, lt)

-- of two calls one comes first
once_by : (k : Claims) (tap : List Seen) (source number first second : ℕ) → AreRead tap
    → IsModelled k → k.steady ≡ true → k.received ≡ true
    → second + wait k + 2 * slack k < first + life k
    → IsWhole k tap (2 * wait k + 2 * slack k) first (counted_in k first second)
    → others_in k source number (counted_in k first second) tap < k.remember
    → (t : Twice k tap source number first second) → t.i < t.j → (w : Scenario k tap)
    → (x : Explains k tap w) → ⊥
once_by k tap source number first second all modelled steady received short whole few t before w x =
    elim (cases_lt (x.call_of t.i) (x.call_of t.j)) [
      | inl lt ↦ twice_by k tap source number first second all modelled steady received short whole few t
          w x lt
      | inr le ↦ twice_by k tap source number first second all modelled steady received short whole few
          (record {
            i = t.j;
            j = t.i;
            earlier = t.later;
            later = t.earlier;
            packet = t.frame;
            frame = t.packet;
            one = t.two;
            two = t.one;
            sure = (t.sure.1, t.sure.0);
            low = (t.low.1, t.low.0);
            high = (t.high.1, t.high.0);
            source_is = (t.source_is.1, t.source_is.0);
            number_is = (t.number_is.1, t.number_is.0);
          }) w x (other_first le)
    ]
  where
    apart_calls : x.call_of t.i ≡ x.call_of t.j → ⊥
    apart_calls same =
        let i_is_j : t.i ≡ t.j =
        x.once t.i t.j t.earlier t.later t.one.record_sent.at t.two.record_sent.at
        t.one.record_sent.sent t.two.record_sent.sent same in
        omega (arith, before, i_is_j)

    other_first : x.call_of t.j ≤ x.call_of t.i → x.call_of t.j < x.call_of t.i
    other_first le = less (x.call_of t.j) (x.call_of t.i) le (λ e. apart_calls (sym e))
      where
        less : (a b : ℕ) → a ≤ b → a ≢ b → a < b
        less a b h n = grind arith

-- ---- it was heard less often than it was forwarded

-- what a record says that counts as forwarded
record Relayed (k : Claims) (tap : List Seen) (source number first second i : ℕ) (r : Seen)
    : Type 0 where
  pub packet : Transmission
  pub is : IsRelayRecord k tap i r packet
  pub sure : r.retried ≡ false
  pub source_is : packet.pdu.vector.address ≡ source
  pub number_is : number_in packet.pdu.body ≡ Some number
  pub low : first ≤ r.moment
  pub high : r.moment ≤ second

not_true : (b : Bool) → not b ≡ true → b ≡ false
not_true true e = absurd (true≢false (sym e))
not_true false e = refl

is_at_most : (a b : ℕ) → nat_le a b ≡ true → a ≤ b
is_at_most a b e = grind (arith, nat_tests)

number_by : (o : Option ℕ) (n : ℕ) → is_number n o ≡ true → o ≡ Some n
number_by None n e = absurd (true≢false (sym e))
number_by (Some m) n e = ap Some (eqb-true m n e)

relayed_by : (o : Option Transmission) (k : Claims) (tap : List Seen)
    (source number first second i : ℕ) (r : Seen)
    → r.frame ≡ o → slice_get tap i ≡ Some r → is_sent k r ≡ true → is_of_other k.address o ≡ true
    → r.retried ≡ false → is_of source o ≡ true → has_number number o ≡ true → first ≤ r.moment
    → r.moment ≤ second → Relayed k tap source number first second i r
relayed_by None k tap source number first second i r frame at sent other sure from has low high =
    absurd (true≢false (sym other))
relayed_by (Some t) k tap source number first second i r frame at sent other sure from has low high =
    record {
      packet = t;
      is = record {
        record_sent = record { at = at; sent = sent };
        frame = frame;
        other = eqb-false t.pdu.vector.address k.address (not_true _ other);
      };
      sure = sure;
      source_is = eqb-true t.pdu.vector.address source from;
      number_is = number_by (number_in t.pdu.body) number has;
      low = low;
      high = high;
    }

relayed : (k : Claims) (tap : List Seen) (source number first second i : ℕ) (r : Seen)
    → slice_get tap i ≡ Some r
    → is_relayed_in k source number (record { from = first; to = second }) r ≡ true
    → Relayed k tap source number first second i r
relayed k tap source number first second i r at e =
    let four = and_first _ (nat_le r.moment second) e in
    let three = and_first _ (nat_le first r.moment) four in
    let two = and_first _ (is_packet source number r) three in
    let packet = and_second (is_relay k r && not r.retried) (is_packet source number r) three in
    let relay = and_first (is_relay k r) (not r.retried) two in
    relayed_by r.frame k tap source number first second i r refl at
    (and_first (is_sent k r) (is_of_other k.address r.frame) relay)
    (and_second (is_sent k r) (is_of_other k.address r.frame) relay)
    (not_true r.retried (and_second (is_relay k r) (not r.retried) two))
    (and_first (is_of source r.frame) (has_number number r.frame) packet)
    (and_second (is_of source r.frame) (has_number number r.frame) packet)
    (is_at_most first r.moment
    (and_second (is_relay k r && not r.retried && is_packet source number r)
    (nat_le first r.moment) four))
    (is_at_most r.moment second
    (and_second (is_relay k r && not r.retried && is_packet source number r
    && nat_le first r.moment) (nat_le r.moment second) e))

-- the record of a number, or 0
abbrev or_zero : Option ℕ → ℕ
or_zero None = 0
or_zero (Some i) = i

-- the record that a forwarded packet was made from
made_from : (k : Claims) (tap : List Seen) (source number first second i : ℕ) → AreRead tap
    → IsModelled k → k.received ≡ true
    → IsWhole k tap (wait k + 2 * slack k) first (copies_in k first second)
    → (w : Scenario k tap) → (x : Explains k tap w)
    → Passes (is_relayed_in k source number (record { from = first; to = second })) tap i
    → (seen : Seen) × (v : Transmission) × (m : ℕ) × (w.record_of (x.call_of i) ≡ Some m)
    × (slice_get tap m ≡ Some seen)
    × (is_heard_in k source number (copies_in k first second) seen ≡ true)
made_from k tap source number first second i all modelled received whole w x passes =
    let r = passes.seen in
    let f = relayed k tap source number first second i r passes.at passes.passes in
    let c = relay_call k tap i r f.packet all modelled f.is f.sure w x in
    let n = x.call_of i in
    let timely : IsTimely k w.shift (wait k) (w.arrival n) (first - wait k - 2 * slack k) first second =
    record {
      low = omega (arith, f.low, c.time.soon);
      high = omega (arith, c.time.order, c.time.late, f.high);
      starts = omega arith;
    } in
    let found = arrived (w.record_of n) k tap w.shift c.packet (wait k) (w.arrival n)
    (first - wait k - 2 * slack k) first second all received whole.begins whole.all_read c.foreign
    timely c.arrives in
    let packet = found.heard.packet in
    let source_is : packet.pdu.vector.address ≡ source =
    ap (λ (p : Pdu). p.vector.address) (found.heard.pdu ∙ sym c.pdu) ∙ f.source_is in
    let number_is : number_in packet.pdu.body ≡ Some number =
    ap (λ (p : Pdu). number_in p.body) (found.heard.pdu ∙ sym c.pdu) ∙ f.number_is in (
      found.seen,
      packet,
      found.i,
      found.is,
      found.at,
      both _ (lies_in (copies_in k first second) found.seen)
          (both (is_heard k found.seen) (is_packet source number found.seen) found.heard.heard
          (both (is_of source found.seen.frame) (has_number number found.seen.frame)
          (ap (is_of source) found.heard.frame
          ∙ eq-eqb packet.pdu.vector.address source source_is)
          (ap (has_number number) found.heard.frame ∙ ap (is_number number) number_is
          ∙ eq-eqb number number refl))) found.lies,
    )

-- each forwarded packet was made from another record
copies_suffice : (k : Claims) (tap : List Seen) (source number first second : ℕ) → AreRead tap
    → IsModelled k → k.received ≡ true
    → IsWhole k tap (wait k + 2 * slack k) first (copies_in k first second)
    → (w : Scenario k tap) → (x : Explains k tap w)
    → relayed_in k source number (record { from = first; to = second }) tap
    ≤ heard_in k source number (copies_in k first second) tap
copies_suffice k tap source number first second all modelled received whole w x =
    count_injected (is_relayed_in k source number (record { from = first; to = second }))
    (is_heard_in k source number (copies_in k first second)) tap
    (λ i. or_zero (w.record_of (x.call_of i)))
    (λ i passes.
    (let m = made i passes in
    record {
      seen = m.0;
      at = ap (λ (o : Option ℕ). slice_get tap (or_zero o)) m.3 ∙ m.4;
      passes = m.5;
    })) once
  where
    made : (i : ℕ)
        → Passes (is_relayed_in k source number (record { from = first; to = second })) tap i
        → (seen : Seen) × (v : Transmission) × (m : ℕ) × (w.record_of (x.call_of i) ≡ Some m)
        × (slice_get tap m ≡ Some seen)
        × (is_heard_in k source number (copies_in k first second) seen ≡ true)
    made i passes = made_from k tap source number first second i all modelled received whole w x passes

    once : (i j : ℕ)
        → Passes (is_relayed_in k source number (record { from = first; to = second })) tap i
        → Passes (is_relayed_in k source number (record { from = first; to = second })) tap j
        → or_zero (w.record_of (x.call_of (0 + i))) ≡ or_zero (w.record_of (x.call_of (0 + j)))
        → i ≡ j
    once i j p q e =
        let a = made i p in
        let b = made j q in
        let same : a.2 ≡ b.2 =
        sym (ap or_zero a.3)
        ∙ ap (λ (n : ℕ). or_zero (w.record_of (x.call_of n))) (omega arith) ∙ e
        ∙ ap (λ (n : ℕ). or_zero (w.record_of (x.call_of n))) (omega arith) ∙ ap or_zero b.3 in
        let calls : x.call_of i ≡ x.call_of j =
        w.once (x.call_of i) (x.call_of j) b.2 (a.3 ∙ ap Some same) b.3 in
        let f = relayed k tap source number first second i p.seen p.at p.passes in
        let g = relayed k tap source number first second j q.seen q.at q.passes in
        x.once i j p.seen q.seen p.at q.at f.is.record_sent.sent g.is.record_sent.sent calls

-- ---- once

pub once_proof : (k : Claims) (tap : List Seen) (j : ℕ) → AreRead tap → IsModelled k
    → FailsOnce k tap j → NoScenario k tap
once_proof k tap j all modelled f w x =
    elim f.not_forgotten [
      | inl h ↦ once_by k tap f.frame.pdu.vector.address f.number f.before.moment f.seen.moment all
          modelled f.steady f.received f.within_life h.0 h.1 (record {
            i = f.i;
            j = j;
            earlier = f.before;
            later = f.seen;
            packet = f.packet;
            frame = f.frame;
            one = f.first;
            two = f.again;
            sure = f.sure;
            low = (omega arith, f.earlier.0);
            high = (f.earlier.0, omega arith);
            source_is = (f.source, refl);
            number_is = f.number_is;
          }) f.earlier.1 w x
      | inr h ↦ too_few (copies_suffice k tap f.frame.pdu.vector.address f.number f.before.moment
          f.seen.moment all modelled f.received h.0 w x) h.1
    ]
  where
    too_few : {a b : ℕ} → a ≤ b → b < a → ⊥
    too_few le lt = omega (arith, le, lt)

-- A packet for an area that was heard and not forwarded is a fail that is a proof, if the station
-- accepted it for sure, or a copy of it.
use Rattle.std.proofs.Common.{◌≡◌, ◌≢◌, ◌⊎◌, ℕ, zero, suc, ◌+◌, ◌-◌, ◌*◌, ◌^◌, ◌≤◌, ◌<◌, Bool, true}
use Rattle.std.proofs.Common.{false, cond, not, ◌&&◌, ◌||◌, List, [], ◌∷◌, length, Option, Some}
use Rattle.std.proofs.Common.{None, is_some, take, eqb, refl, sym, ap, subst, ◌∙◌, true≢false, arith, inl, inr}
use Rattle.std.specs.Prelude.{IfSome, filter, is_none, nat_le, nat_lt, slice_get}
use Rattle.std.specs.List.{AllByRecursion}
use Rattle.std.proofs.lemmas.Bool.{eqb-true, eqb-false, eq-eqb, ne_eqb, cond-true, le-leb, cases_lt}
use Rattle.std.proofs.lemmas.Bool.Decides.{nat_tests}
use Rattle.its_gnvalue.specs.Values.{mid_of, broadcast}
use Rattle.its_geometry.specs.Area.{GeoArea, area_holds}
use Rattle.its_linkframe.specs.Frames.{IsTransmission, frame_octets}
use Rattle.its_linkframe.proofs.Fronts.{frame_bounds}
use Rattle.its_model.specs.Packet.{Pdu, Body, Message, Transmission, number_in, relay}
use Rattle.its_model.specs.Packet.Body.{gbc}
use Rattle.its_model.specs.History.{Known, Reception, NeverFell, entry_life, is_from, of_source, unbroken}
use Rattle.its_model.specs.History.{session, numbers_of, with_number, is_among, is_empty, is_live}
use Rattle.its_model.specs.History.{is_remembered}
use Rattle.its_model.specs.Stations.{stations_at, is_full}
use Rattle.its_model.specs.Log.{distinct}
use Rattle.its_model.specs.Calls.{Call, Answer}
use Rattle.its_model.specs.Calls.Call.{Receive}
use Rattle.its_model.specs.Station.{StationModel, Verdict, is_for, verdict, reception, after_hearing}
use Rattle.its_model.specs.Station.{relayed, receive_step_by, receive_step, station_step}
use Rattle.its_model.specs.Station.Verdict.{Accept, Ignore, Refuse}
use Rattle.its_model.specs.World.{frame_of}
use Rattle.its_model.specs.Isolation.{TimedCall, answers_of}
use Rattle.its_model.proofs.Answered.{relay_owed, relayed_inside}
use Rattle.its_model.proofs.Distinct.{subset_le}
use Rattle.its_model.proofs.NumberTests.{lt_test}
use Rattle.its_model.proofs.StationLaws.{addresses, length-addresses, rising_distinct}
use Rattle.its_model.proofs.StationLaws.{among_addresses, is_full-stations_at}
use Rattle.its_model.proofs.StationLemmas.{by_address-stations_at, stations_at-Rises}
use Rattle.its_model.proofs.Renewal.{is_some-known}
use Rattle.its_duties.specs.declared.claims.Claims.{Claims}
use Rattle.its_duties.specs.Seen.{Seen, IsRead, AreRead, Carries, sent_to, sendings, earliest}
use Rattle.its_duties.specs.Seen.{first_sending, last_sending, number_at, link_source_of, link_target_of, is_number}
use Rattle.its_duties.specs.Seen.{named_source, is_sent, is_of, is_of_other, is_for_it, comes_to_it, is_heard}
use Rattle.its_duties.specs.Seen.{is_relay, is_unread_sent, has_no_type, IsUnread}
use Rattle.its_duties.specs.Times.{Shift, IsStampOf, nanos, slack, wait, lag, life, reach, begin_of}
use Rattle.its_duties.specs.Times.{end_of, is_within, lies_in}
use Rattle.its_duties.specs.Scenario.{Scenario, Explains, Gave, IsAsked, IsCall, IsReceived, ArrivesBy}
use Rattle.its_duties.specs.Scenario.{ArrivesAs, IsUnrecorded}
use Rattle.its_duties.specs.Heard.{IsCopy, has_number, sources_of, source_before, sources_in}
use Rattle.its_duties.specs.Heard.{has_room, may_be_relay}
use Rattle.its_duties.specs.Duties.{IsModelled, NoScenario}
use Rattle.its_duties.specs.Forwarding.{is_packet, by_retry}
use Rattle.its_duties.specs.Owed.{IsQuiet, IsKnownFrom, processed_in, sources_at, IsOther, IsOwed}
use Rattle.its_duties.specs.Owed.{IsUntil, IsSentThen, FailsForward}
use Rattle.its_duties.proofs.Frames.{IsRelayFrame, relay_frame, accepted_other, accepted_for, some_is}
use Rattle.its_duties.proofs.Kept.{Kept, start_kept, InRange, relay_in_range}
use Rattle.its_duties.proofs.Read.{is_read, IsFrameOf, frame_of_record}
use Rattle.its_duties.proofs.Waiting.{same_call, same_answer, in_turn}
use Rattle.its_duties.proofs.Received.{IsForeign, WasHeard, heard_by, any_at, within, both, for_mac}
use Rattle.its_duties.proofs.Received.{begins, target_there, in_range, Forwarded, forwarded, left_by}
use Rattle.its_duties.proofs.Received.{sending_last}
use Rattle.its_duties.proofs.RelayLaws.{and_first, and_second}
use Rattle.its_duties.proofs.SurelyInside.{surely_inside}
use Rattle.its_duties.proofs.OnceLaws.{heard_from, distinct_has}
use Rattle.its_duties.proofs.Histories.{Holds, Before, EachAccepted, before}
use Rattle.its_duties.proofs.NamedSources.{other_named}

-- ---- the sendings of a record

pub is_at_most : (a b : ℕ) → nat_le a b ≡ true → a ≤ b
is_at_most a b e = grind (arith, nat_tests)

is_above : (a b : ℕ) → nat_le a b ≡ false → b ≤ a
is_above a b e = grind (arith, nat_tests)

earliest_step : (b : Bool) (first s : ℕ) (stamps : List ℕ) → nat_le s first ≡ b
    → earliest s stamps ≤ s → earliest first stamps ≤ first
    → (earliest (cond b s first) stamps ≤ first) × (earliest (cond b s first) stamps ≤ s)
earliest_step true first s stamps e one two = (omega (arith, is_at_most s first e, one), one)
earliest_step false first s stamps e one two = (two, omega (arith, is_above s first e, two))

earliest_first : (first : ℕ) (stamps : List ℕ) → earliest first stamps ≤ first
earliest_first first [] = omega arith
earliest_first first (s ∷ stamps) =
    (earliest_step (nat_le s first) first s stamps refl (earliest_first s stamps)
    (earliest_first first stamps)).0

same_stamp : (a b : ℕ) → Some a ≡ Some b → a ≡ b
same_stamp a b e = cc

earliest_each : (first : ℕ) (stamps : List ℕ) (n x : ℕ) → slice_get stamps n ≡ Some x
    → earliest first stamps ≤ x
earliest_each first [] n x at = cc
earliest_each first (s ∷ stamps) zero x at =
    let both = earliest_step (nat_le s first) first s stamps refl (earliest_first s stamps)
    (earliest_first first stamps) in omega (arith, same_stamp s x at, both.1)
earliest_each first (s ∷ stamps) (suc n) x at =
    earliest_each (cond (nat_le s first) s first) stamps n x at

sending_first : (r : Seen) (n x : ℕ) → slice_get (sendings r) n ≡ Some x → first_sending r ≤ x
sending_first r zero x at =
    omega (arith, same_stamp r.moment x at, earliest_first r.moment r.repeats)
sending_first r (suc n) x at = earliest_each r.moment r.repeats n x at

first_last : (r : Seen) → first_sending r ≤ last_sending r
first_last r =
    omega (arith, sending_first r 0 r.moment refl, sending_last r 0 r.moment refl)

some_seen : (a b : Seen) → Some a ≡ Some b → a ≡ b
some_seen a b e = cc

-- ---- the record of a frame that was received

-- it was heard, or isn't read
record Recorded (k : Claims) (tap : List Seen) (shift : Shift) (v : Transmission) (arrival : ℕ)
    (o : Option ℕ) : Type 0 where
  pub i : ℕ
  pub is : o ≡ Some i
  pub seen : Seen
  pub at : slice_get tap i ≡ Some seen
  pub number : ℕ
  pub stamp : ℕ
  pub is_sending : slice_get (sendings seen) number ≡ Some stamp
  pub near : IsStampOf k shift stamp arrival
  pub found : WasHeard k seen v ⊎ IsUnread k seen

-- it was received before the begin
record IsEarly (k : Claims) (tap : List Seen) (shift : Shift) (moment : ℕ) : Type 0 where
  pub known : k.fresh ≡ false
  pub early : nanos moment + shift.behind ≤ begin_of tap + shift.ahead + slack k + wait k

recorded : (o : Option ℕ) (k : Claims) (tap : List Seen) (shift : Shift) (v : Transmission)
    (arrival moment : ℕ)
    → AreRead tap → k.received ≡ true → IsForeign k v → nanos moment ≤ nanos arrival + wait k
    → ArrivesBy k tap shift v arrival o
    → IsEarly k tap shift moment ⊎ Recorded k tap shift v arrival o
recorded None k tap shift v arrival moment all received foreign soon a = inl (by a)
  where
    by : IsUnrecorded k tap shift arrival → IsEarly k tap shift moment
    by (inl claims) = absurd (true≢false (sym received ∙ claims))
    by (inr early) = record { known = early.0; early = omega (arith, early.1, soon) }
recorded (Some i) k tap shift v arrival moment all received foreign soon a = inr (record {
  i = i;
  is = refl;
  seen = a.record_there;
  at = a.at;
  number = a.number;
  stamp = a.stamp;
  is_sending = a.is_sending;
  near = a.near;
  found = heard_by a.record_there.frame k a.record_there v refl (is_read tap i _ all a.at) a.carries
      foreign;
})

-- ---- the history before a call

-- a packet that a call before this one accepted
record Met {k : Claims} {tap : List Seen} (w : Scenario k tap) (q : ℕ) (e : Reception)
    : Type 0 where
  pub place : ℕ
  pub before : place < q
  pub call : TimedCall
  pub packet : Transmission
  pub asked : IsAsked w.calls place call
  pub is_call : call.call ≡ Receive packet
  pub is : e ≡ reception call.moment packet
  pub station : StationModel
  pub kept : Kept k station
  pub accepted : verdict station call.moment packet ≡ Accept
  pub answered : slice_get (answers_of w.start w.calls) place
      ≡ Some (station_step station call.moment call.call).answer
  pub received : IsReceived k tap w.shift packet call.moment (w.arrival place) (w.record_of place)
  pub recorded : Recorded k tap w.shift packet (w.arrival place) (w.record_of place)

abbrev Came : {k : Claims} {tap : List Seen} → Scenario k tap → ℕ → Reception → Type 0
Came {k} {tap} w q e = IsEarly k tap w.shift e.moment ⊎ Met w q e

met : (k : Claims) (tap : List Seen) (w : Scenario k tap) (q : ℕ) → AreRead tap → IsModelled k
    → k.received ≡ true → EachAccepted (Came w q) k w.calls w.start q
met k tap w q all modelled received n d t s asked lt call kept accepted answered =
    let h = w.heard n d t asked call in
    let foreign : IsForeign k t = record {
      fields = subst IsCall call (w.in_range n d asked);
      sender = h.foreign;
      other = λ e. accepted_other s d.moment t accepted (e ∙ sym kept.address);
      target = for_mac k s t modelled.mac kept.address (accepted_for s d.moment t accepted);
    } in
    elim (recorded (w.record_of n) k tap w.shift t (w.arrival n) d.moment all received foreign h.soon
    h.arrives) [
      | inl early ↦ inl early
      | inr r ↦ inr (record {
        place = n;
        before = lt;
        call = d;
        packet = t;
        asked = asked;
        is_call = call;
        is = refl;
        station = s;
        kept = kept;
        accepted = accepted;
        answered = answered;
        received = h;
        recorded = r;
      })
    ]

-- what was there at the begin
start_came : (history : List Reception) (k : Claims) (tap : List Seen) (w : Scenario k tap)
    (q clock : ℕ) → k.fresh ≡ false → NeverFell clock history
    → nanos clock + w.shift.behind ≤ begin_of tap + w.shift.ahead + slack k
    → AllByRecursion (Came w q) history
start_came [] k tap w q clock known fell early = tt
start_came (r ∷ older) k tap w q clock known fell early =
    let le : r.moment ≤ clock = fell.0 in
    let sooner : nanos r.moment + w.shift.behind ≤ begin_of tap + w.shift.ahead + slack k =
    omega (arith, le, early) in (
      inl (record { known = known; early = omega (arith, sooner) }),
      start_came older k tap w q r.moment known fell.1 sooner,
    )

begin_came : (b : Bool) (k : Claims) (tap : List Seen) (w : Scenario k tap) (q : ℕ)
    → k.fresh ≡ b → AllByRecursion (Came w q) w.start.history
begin_came true k tap w q fresh =
    subst (λ (rs : List Reception). AllByRecursion (Came w q) rs) (sym (w.starts.fresh fresh)) tt
begin_came false k tap w q known =
    start_came w.start.history k tap w q w.start.clock known w.starts.history w.begins

-- those of a source
all_from : (P : Reception → Type 0) (source : ℕ) (xs : List Reception) → AllByRecursion P xs
    → AllByRecursion (λ e. P e × (is_from source e ≡ true)) (of_source source xs)
all_from P source [] all = tt
all_from P source (x ∷ xs) all = by (is_from source x) refl (all_from P source xs all.1)
  where
    by : (b : Bool) → is_from source x ≡ b
        → AllByRecursion (λ e. P e × (is_from source e ≡ true)) (of_source source xs)
        → AllByRecursion (λ e. P e × (is_from source e ≡ true))
        (cond b (x ∷ of_source source xs) (of_source source xs))
    by true is rest = ((all.0, is), rest)
    by false other rest = rest

-- ---- what the station remembers

-- such a packet whose record isn't from before a stamp
record Since {k : Claims} {tap : List Seen} (w : Scenario k tap) (q from source : ℕ)
    (e : Reception) : Type 0 where
  pub met : Met w q e
  pub after : from ≤ met.recorded.stamp
  pub from_it : is_from source e ≡ true

fresh_since : (rs : List Reception) (k : Claims) (tap : List Seen) (w : Scenario k tap)
    (q from source now : ℕ) → k.fresh ≡ true → from ≡ 0
    → AllByRecursion (λ e. Came w q e × (is_from source e ≡ true)) rs
    → AllByRecursion (Since w q from source) (unbroken now rs)
fresh_since [] k tap w q from source now fresh zero_from all = tt
fresh_since (e ∷ older) k tap w q from source now fresh zero_from all =
    by (nat_lt now (e.moment + entry_life))
    (fresh_since older k tap w q from source e.moment fresh zero_from all.1)
  where
    one : Came w q e → Since w q from source e
    one (inl early) = absurd (true≢false (sym fresh ∙ early.known))
    one (inr m) = record { met = m; after = omega (arith, zero_from); from_it = all.0.1 }

    by : (b : Bool) → AllByRecursion (Since w q from source) (unbroken e.moment older)
        → AllByRecursion (Since w q from source) (cond b (e ∷ unbroken e.moment older) [])
    by true rest = (one all.0.0, rest)
    by false rest = tt

-- a packet that counts, and since when
record Counts {k : Claims} {tap : List Seen} (w : Scenario k tap) (q from source : ℕ)
    (e : Reception) : Type 0 where
  pub since : Since w q from source e
  pub late : from + reach k + w.shift.ahead ≤ nanos e.moment + w.shift.behind + slack k

counts : (k : Claims) (tap : List Seen) (i : ℕ) (f : FailsForward k tap i) (w : Scenario k tap)
    (q now : ℕ) (e : Reception) → IsModelled k
    → IsQuiet k tap f.frame.pdu.vector.address f.owed.from (first_sending f.seen)
    → is_from f.frame.pdu.vector.address e ≡ true → now < e.moment + 20000
    → f.owed.from + reach k + w.shift.ahead ≤ nanos now + w.shift.behind + slack k
    → Came w q e → Counts w q f.owed.from f.frame.pdu.vector.address e
counts k tap i f w q now e modelled quiet is near late (inl early) =
    absurd (omega (arith, modelled.life, near, late, early.early, quiet.begins))
counts k tap i f w q now e modelled quiet is near late (inr m) = by (cases_lt from stamp)
  where
    from : ℕ
    from = f.owed.from

    stamp : ℕ
    stamp = m.recorded.stamp

    moment_is : e.moment ≡ m.call.moment
    moment_is = ap (λ (x : Reception). x.moment) m.is

    gap : from < stamp → stamp < from + reach k → ⊥
    gap low high = elim m.recorded.found [
      | inl h ↦ quiet.none m.recorded.i m.recorded.seen m.recorded.at
          (heard_from k m.recorded.seen m.packet f.frame.pdu.vector.address h
          (ap (λ (x : Reception). x.vector.address) (sym m.is)
          ∙ eqb-true e.vector.address f.frame.pdu.vector.address is))
          (any_at (is_within (record { from = from + 1; to = from + reach k - 1 }))
          (sendings m.recorded.seen) m.recorded.number stamp m.recorded.is_sending
          (within (from + 1) (from + reach k - 1) stamp (omega (arith, low)) (omega (arith, high))))
      | inr u ↦ f.owed.all_read m.recorded.i m.recorded.seen m.recorded.at u
          (any_at
          (is_within
          (record { from = from; to = last_sending f.seen + wait k + 2 * slack k }))
          (sendings m.recorded.seen) m.recorded.number stamp m.recorded.is_sending
          (within from (last_sending f.seen + wait k + 2 * slack k) stamp (omega (arith, low))
          (omega (arith, high, quiet.ends, first_last f.seen))))
    ]

    after : from + reach k ≤ stamp → Counts w q from f.frame.pdu.vector.address e
    after le = record {
      since = record { met = m; after = omega (arith, le); from_it = is };
      late = omega (arith, le, m.recorded.near.not_later, m.received.after, moment_is);
    }

    by : (from < stamp) ⊎ (stamp ≤ from) → Counts w q from f.frame.pdu.vector.address e
    by (inr le) = absurd (omega (
      arith,
      modelled.life,
      near,
      late,
      le,
      moment_is,
      m.received.soon,
      m.recorded.near.not_earlier,
    ))
    by (inl lt) = elim (cases_lt stamp (from + reach k)) [
      | inl high ↦ absurd (gap lt high)
      | inr le ↦ after le
    ]

quiet_since : (rs : List Reception) (k : Claims) (tap : List Seen) (i : ℕ)
    (f : FailsForward k tap i) (w : Scenario k tap) (q now : ℕ) → IsModelled k
    → IsQuiet k tap f.frame.pdu.vector.address f.owed.from (first_sending f.seen)
    → f.owed.from + reach k + w.shift.ahead ≤ nanos now + w.shift.behind + slack k
    → AllByRecursion (λ e. Came w q e × (is_from f.frame.pdu.vector.address e ≡ true)) rs
    → AllByRecursion (Since w q f.owed.from f.frame.pdu.vector.address) (unbroken now rs)
quiet_since [] k tap i f w q now modelled quiet late all = tt
quiet_since (e ∷ older) k tap i f w q now modelled quiet late all =
    elim (lt_test now (e.moment + entry_life)) [
      | inl lt ↦ (let c = counts k tap i f w q now e modelled quiet all.0.1 lt.1 late all.0.0 in
          rw lt.0
          ((c.since, quiet_since older k tap i f w q e.moment modelled quiet c.late all.1)))
      | inr ge ↦ rw ge.0 tt
    ]

-- one of these has the number
record HasNumber (P : Reception → Type 0) (n : ℕ) : Type 0 where
  pub of : Reception
  pub has : P of
  pub number : of.number ≡ Some n

has_number_by : (o : Option ℕ) (P : Reception → Type 0) (n : ℕ) (x : Reception) (ns : List ℕ)
    → x.number ≡ o → P x → (is_among n ns ≡ true → HasNumber P n)
    → is_among n (with_number o ns) ≡ true → HasNumber P n
has_number_by None P n x ns is has rest e = rest e
has_number_by (Some m) P n x ns is has rest e = by (eqb m n) refl e
  where
    by : (b : Bool) → eqb m n ≡ b → (b || is_among n ns) ≡ true → HasNumber P n
    by true same e = record { of = x; has = has; number = is ∙ ap Some (eqb-true m n same) }
    by false other e = rest e

find_number : (rs : List Reception) (P : Reception → Type 0) (n : ℕ) → AllByRecursion P rs
    → is_among n (numbers_of rs) ≡ true → HasNumber P n
find_number [] P n all e = absurd (true≢false (sym e))
find_number (x ∷ rs) P n all e =
    has_number_by x.number P n x (numbers_of rs) refl all.0 (find_number rs P n all.1) e

either_more : (a b c : Bool) → (b ≡ true → c ≡ true) → (a || b) ≡ true → (a || c) ≡ true
either_more true b c f e = refl
either_more false b c f e = f e

among_all : (ns : List ℕ) (k m : ℕ) → is_among m (take k ns) ≡ true → is_among m ns ≡ true
among_all ns zero m h = absurd (true≢false (sym h))
among_all [] (suc k) m h = absurd (true≢false (sym h))
among_all (n ∷ ns) (suc k) m h =
    either_more (eqb n m) (is_among m (take k ns)) (is_among m ns) (among_all ns k m) h

-- ---- an acceptance shows

accepted_gives : (v : Verdict) (s : StationModel) (moment : ℕ) (t u : Transmission) → v ≡ Accept
    → relayed (after_hearing s moment t) moment t t.pdu.body ≡ Some u
    → frame_of (receive_step_by s moment t v).answer ≡ Some u
accepted_gives (Refuse r) s moment t u is e = cc
accepted_gives (Ignore why) s moment t u is e = cc
accepted_gives Accept s moment t u is e = e

received_gives : (s : StationModel) (moment : ℕ) (t u : Transmission)
    → verdict s moment t ≡ Accept
    → relayed (after_hearing s moment t) moment t t.pdu.body ≡ Some u
    → frame_of (receive_step s moment t).answer ≡ Some u
unfolding receive_step
received_gives s moment t u is e = accepted_gives (verdict s moment t) s moment t u is e

-- a packet that came and was forwarded to all
record Shown {k : Claims} {tap : List Seen} (w : Scenario k tap) (t : Transmission)
    (first until a : ℕ) : Type 0 where
  pub call : TimedCall
  pub packet : Transmission
  pub station : StationModel
  pub stamp : ℕ
  pub asked : IsAsked w.calls a call
  pub is_call : call.call ≡ Receive packet
  pub answered : slice_get (answers_of w.start w.calls) a
      ≡ Some (station_step station call.moment call.call).answer
  pub gives : frame_of (receive_step station call.moment packet).answer
      ≡ Some (relay packet (mid_of station.address) broadcast)
  pub received : IsReceived k tap w.shift packet call.moment (w.arrival a) (w.record_of a)
  pub near : IsStampOf k w.shift stamp (w.arrival a)
  pub after : first ≤ stamp
  pub soon : stamp + wait k + 2 * slack k ≤ until
  pub pdu : packet.pdu ≡ t.pdu

either_first : (a b : Bool) → a ≡ true → (a || b) ≡ true
either_first true b e = refl
either_first false b e = absurd (true≢false (sym e))

none_is : (o : Option Transmission) → o ≡ None → is_none o ≡ true
none_is o e = ap is_none e

number_is : (n m : ℕ) → n ≡ m → is_number m (Some n) ≡ true
number_is n m e = eq-eqb n m e

-- the record of its frame
frame_shown : (k : Claims) (tap : List Seen) (i : ℕ) (f : FailsForward k tap i) (w : Scenario k tap)
    (a j : ℕ) (h : Shown w f.frame (first_sending f.seen) f.until a) (r : Seen)
    → AreRead tap → IsModelled k → is_heard k f.seen ≡ true → slice_get tap j ≡ Some r
    → is_sent k r ≡ true
    → Carries r (relay h.packet (mid_of h.station.address) broadcast)
    → InRange (relay h.packet (mid_of h.station.address) broadcast) → IsSentThen k f.seen f.until r
    → f.frame.pdu.vector.address ≢ k.address → (o : Option Transmission) → r.frame ≡ o → ⊥
frame_shown k tap i f w a j h r all modelled heard at sent carries range then foreign (Some t) is =
    let u = relay h.packet (mid_of h.station.address) broadcast in
    let of_it = frame_of_record r t u (is_read tap j r all at) is carries range in
    let pdu : t.pdu ≡ f.frame.pdu = ap (λ (x : Transmission). x.pdu) of_it.is ∙ h.pdu in
    let source : t.pdu.vector.address ≡ f.frame.pdu.vector.address =
    ap (λ (p : Pdu). p.vector.address) pdu in
    let number : number_in t.pdu.body ≡ Some f.number =
    ap (λ (p : Pdu). number_in p.body) pdu ∙ ap number_in f.owed.broadcast in
    f.not_forwarded j r at
    (both (is_sent k r) (is_of_other k.address r.frame) sent
    (ap (is_of_other k.address) is
    ∙ ap not (ne_eqb t.pdu.vector.address k.address (λ e. foreign (sym source ∙ e)))))
    (both (is_of f.frame.pdu.vector.address r.frame) (has_number f.number r.frame)
    (ap (is_of f.frame.pdu.vector.address) is
    ∙ eq-eqb t.pdu.vector.address f.frame.pdu.vector.address source)
    (ap (has_number f.number) is ∙ ap (is_number f.number) number ∙ eq-eqb f.number f.number refl))
    then
frame_shown k tap i f w a j h r all modelled heard at sent carries range then foreign None is =
    let u = relay h.packet (mid_of h.station.address) broadcast in
    let source : h.packet.pdu.vector.address ≡ f.frame.pdu.vector.address =
    ap (λ (p : Pdu). p.vector.address) h.pdu in
    f.sent_read j r at
    (both (is_unread_sent k r || has_no_type r) (not (is_number k.address (named_source r.octets)))
    (either_first (is_unread_sent k r) (has_no_type r)
    (both (is_sent k r) (is_none r.frame) sent (none_is r.frame is)))
    (ap not (other_named r u k.address f.number f.owed.area f.owed.message carries
    (ap (λ (p : Pdu). p.body) h.pdu ∙ f.owed.broadcast) range.packet.vector.address
    (λ e. foreign (sym source ∙ e)))))
    then

-- it is recorded, in its time
is_shown : (k : Claims) (tap : List Seen) (i : ℕ) (f : FailsForward k tap i) (w : Scenario k tap)
    (x : Explains k tap w) (a : ℕ) → Shown w f.frame (first_sending f.seen) f.until a
    → AreRead tap → IsModelled k → is_heard k f.seen ≡ true
    → f.frame.pdu.vector.address ≢ k.address → ⊥
is_shown k tap i f w x a h all modelled heard foreign =
    by (x.whole f.owed.sent a h.call (station_step h.station h.call.moment h.call.call).answer u
    h.asked h.answered gives)
  where
    u : Transmission
    u = relay h.packet (mid_of h.station.address) broadcast

    gives : frame_of (station_step h.station h.call.moment h.call.call).answer ≡ Some u
    gives = ap (λ (c : Call). frame_of (station_step h.station h.call.moment c).answer) h.is_call
        ∙ h.gives

    relays : IsRelayFrame h.station h.packet u
    relays = relay_frame h.station h.call.moment h.packet u h.gives

    range : InRange u
    range = relay_in_range h.station h.packet u
        (subst IsCall h.is_call (w.in_range a h.call h.asked)) relays

    recorded_at : (j : ℕ) (r : Seen) → slice_get tap j ≡ Some r → is_sent k r ≡ true
        → x.call_of j ≡ a → ⊥
    recorded_at j r at sent e =
        let g = x.gave j r at sent in
        let call : g.call ≡ h.call =
        same_call g.call h.call (sym g.asked ∙ ap (slice_get w.calls) e ∙ h.asked) in
        let answer : g.answer ≡ (station_step h.station h.call.moment h.call.call).answer =
        same_answer g.answer _
        (sym g.answered ∙ ap (slice_get (answers_of w.start w.calls)) e ∙ h.answered) in
        let frame : g.frame ≡ u = some_is g.frame u (sym g.given ∙ ap frame_of answer ∙ gives) in
        let arrival : w.arrival (x.call_of j) ≡ w.arrival a = ap w.arrival e in
        let moment : g.call.moment ≡ h.call.moment = ap (λ (c : TimedCall). c.moment) call in
        let left = left_by k g.call.call h.packet g.call.moment (w.arrival (x.call_of j)) (x.left j)
        (ap (λ (c : TimedCall). c.call) call ∙ h.is_call) g.soon in
        let t = forwarded r.retried k w.shift r.moment (w.arrival a) h.call.moment (x.left j)
        h.received.after (omega (arith, moment, g.after))
        (subst (λ (n : ℕ). nanos (x.left j) ≤ nanos n + wait k) arrival left) g.near in
        frame_shown k tap i f w a j h r all modelled heard at sent
        (subst (λ (y : Transmission). Carries r y) frame g.carries) range (record {
          after = omega (arith, h.after, h.near.not_later, t.not_before);
          before = omega (arith, h.soon, h.near.not_earlier, t.soon);
        }) foreign r.frame refl

    by : ((j : ℕ) × (r : Seen) × (slice_get tap j ≡ Some r) × (is_sent k r ≡ true)
        × (x.call_of j ≡ a))
        ⊎ (nanos h.call.moment + w.shift.behind < begin_of tap + w.shift.ahead + slack k)
        ⊎ (end_of k tap + w.shift.ahead
        < nanos h.call.moment + w.shift.behind + slack k + lag k + wait k) → ⊥
    by (inl there) = recorded_at there.0 there.1 there.2 there.3 there.4
    by (inr (inl early)) =
        omega (arith, early, f.owed.late, h.after, h.near.not_later, h.received.after)
    by (inr (inr late)) =
        omega (arith, late, f.goes_on, h.soon, h.near.not_earlier, h.received.soon)

-- ---- the call that received the packet

record Reached {k : Claims} {tap : List Seen} (w : Scenario k tap) (i : ℕ) (r : Seen)
    (t : Transmission) (q : ℕ) : Type 0 where
  pub call : TimedCall
  pub packet : Transmission
  pub asked : IsAsked w.calls q call
  pub is_call : call.call ≡ Receive packet
  pub record_is : w.record_of q ≡ Some i
  pub received : IsReceived k tap w.shift packet call.moment (w.arrival q) (w.record_of q)
  pub number : ℕ
  pub stamp : ℕ
  pub is_sending : slice_get (sendings r) number ≡ Some stamp
  pub near : IsStampOf k w.shift stamp (w.arrival q)
  pub read : IsFrameOf r t packet
  pub carries : Carries r packet

reached : (k : Claims) (tap : List Seen) (i : ℕ) (r : Seen) (t : Transmission) (w : Scenario k tap)
    → AreRead tap → k.delivered ≡ true → slice_get tap i ≡ Some r → is_heard k r ≡ true
    → r.frame ≡ Some t → (q : ℕ) × Reached w i r t q
reached k tap i r t w all delivered at heard frame =
    let d = w.delivered delivered i r at heard in
    let q = d.0 in
    let c = d.1 in
    let u = d.2 in
    let h = w.heard q c u d.3 d.4 in
    let a : ArrivesAs k tap w.shift u (w.arrival q) i =
    subst (λ (o : Option ℕ). ArrivesBy k tap w.shift u (w.arrival q) o) d.5 h.arrives in
    let same : a.record_there ≡ r = some_seen a.record_there r (sym a.at ∙ at) in
    let carries : Carries r u = subst (λ (s : Seen). Carries s u) same a.carries in
    let fields : IsTransmission u = subst IsCall d.4 (w.in_range q c d.3) in (
      q,
      record {
        call = c;
        packet = u;
        asked = d.3;
        is_call = d.4;
        record_is = d.5;
        received = h;
        number = a.number;
        stamp = a.stamp;
        is_sending = ap (λ (s : Seen). slice_get (sendings s) a.number) (sym same) ∙ a.is_sending;
        near = a.near;
        read = frame_of_record r t u (is_read tap i r all at) frame carries (in_range u fields);
        carries = carries;
      },
    )

-- it is for the station
for_known : (known : Bool) (mac target : ℕ) (there : Option ℕ) → known ≡ true
    → there ≡ Some target → is_for_it mac (cond known there None) ≡ true
    → (eqb target mac || eqb target broadcast) ≡ true
for_known true mac target there known at is = ap (is_for_it mac) (sym at) ∙ is
for_known false mac target there known at is = absurd (true≢false (sym known))

pub for_it : (k : Claims) (r : Seen) (t u : Transmission) (s : StationModel) → IsRead r
    → r.frame ≡ Some t → Carries r u → r.known_target ≡ true → is_heard k r ≡ true
    → IsModelled k → s.address ≡ k.address → is_for s u ≡ true
for_it k r t u s read frame c known heard modelled address =
    let comes = and_first (comes_to_it k r) (is_of_other k.address r.frame) heard in
    let is = and_second (not (is_number k.mac (link_source_of r))) (is_for_it k.mac (link_target_of r))
    comes in
    let long = (frame_bounds t r.octets (read.says t frame)).0 in
    let b = begins r.cut r.octets (frame_octets (sent_to c.target u)) c.rest c.octets in
    let target : number_at 0 6 r.octets ≡ Some c.target =
    target_there r.octets b.after b.rest (sent_to c.target u) long c.in_range b.is in
    ap (λ (n : ℕ). eqb u.link_target n || eqb u.link_target broadcast)
    (ap mid_of address ∙ sym modelled.mac)
    ∙ ap (λ (n : ℕ). eqb n k.mac || eqb n broadcast) (sym (c.same_target known))
    ∙ for_known r.known_target k.mac c.target (number_at 0 6 r.octets) known target is

pub other_source : (o : Option Transmission) (address : ℕ) (t : Transmission) → o ≡ Some t
    → is_of_other address o ≡ true → t.pdu.vector.address ≢ address
other_source o address t is other =
    eqb-false t.pdu.vector.address address
    (not_true (eqb t.pdu.vector.address address) (ap (is_of_other address) (sym is) ∙ other))
  where
    not_true : (b : Bool) → not b ≡ true → b ≡ false
    not_true true e = absurd (true≢false (sym e))
    not_true false e = refl

-- ---- sources that count

source_here : (o : Option Transmission) (t : Transmission) (sources : List ℕ) → o ≡ Some t
    → is_among t.pdu.vector.address (source_before o sources) ≡ true
source_here None t sources is = cc
source_here (Some u) t sources is =
    ap (λ (x : Transmission). is_among t.pdu.vector.address (x.pdu.vector.address ∷ sources))
    (some_is u t is)
    ∙ either_first _ (is_among t.pdu.vector.address sources) (eq-eqb t.pdu.vector.address _ refl)

source_more : (o : Option Transmission) (n : ℕ) (sources : List ℕ) → is_among n sources ≡ true
    → is_among n (source_before o sources) ≡ true
source_more None n sources e = e
source_more (Some u) n sources e = by (eqb u.pdu.vector.address n)
  where
    by : (b : Bool) → (b || is_among n sources) ≡ true
    by true = refl
    by false = e

source_there : (tap : List Seen) (i : ℕ) (seen : Seen) (p : Seen → Bool) (t : Transmission)
    → slice_get tap i ≡ Some seen → p seen ≡ true → seen.frame ≡ Some t
    → is_among t.pdu.vector.address (sources_of (filter p tap)) ≡ true
source_there [] i seen p t at passes frame = cc
source_there (r ∷ tap) zero seen p t at passes frame =
    let same : r ≡ seen = some_seen r seen at in
    subst (λ (b : Bool). is_among t.pdu.vector.address
    (sources_of (cond b (r ∷ filter p tap) (filter p tap))) ≡ true)
    (sym (ap p same ∙ passes))
    (source_here r.frame t (sources_of (filter p tap))
    (ap (λ (s : Seen). s.frame) same ∙ frame))
source_there (r ∷ tap) (suc i) seen p t at passes frame =
    by (p r) (source_there tap i seen p t at passes frame)
  where
    by : (b : Bool) → is_among t.pdu.vector.address (sources_of (filter p tap)) ≡ true
        → is_among t.pdu.vector.address
        (sources_of (cond b (r ∷ filter p tap) (filter p tap))) ≡ true
    by true rest = source_more r.frame t.pdu.vector.address (sources_of (filter p tap)) rest
    by false rest = rest

-- the last packet of a source that is live
record Live (P : Reception → Type 0) (now : ℕ) : Type 0 where
  pub of : Reception
  pub has : P of
  pub near : now < of.moment + 20000

live_of : (rs : List Reception) (P : Reception → Type 0) (now : ℕ) → AllByRecursion P rs
    → is_empty (unbroken now rs) ≡ false → Live P now
live_of [] P now all e = absurd (true≢false e)
live_of (r ∷ older) P now all e =
    elim (lt_test now (r.moment + entry_life)) [
      | inl lt ↦ record { of = r; has = all.0; near = lt.1 }
      | inr ge ↦ absurd (true≢false
          (ap (λ (b : Bool). is_empty (cond b (r ∷ unbroken r.moment older) [])) (sym ge.0) ∙ e))
    ]

room_by : (o : Option ℕ) (sources capacity : ℕ) → has_room o sources ≡ true
    → IfSome o (λ room. room ≤ capacity) → sources ≤ capacity
room_by None sources capacity e room = absurd (true≢false (sym e))
room_by (Some n) sources capacity e room = omega (arith, is_at_most sources n e, room)

unnot : (b : Bool) → not b ≡ true → b ≡ false
unnot true e = absurd (true≢false (sym e))
unnot false e = refl

-- ---- the law

pub owed_proof : (k : Claims) (tap : List Seen) (i : ℕ) → AreRead tap → IsModelled k
    → FailsForward k tap i → NoScenario k tap
owed_proof k tap i all modelled f w x = by (is_remembered s.remember source f.number now s.history)
    (is_full s.capacity source stations) refl refl
  where
    o : IsOwed k tap i f.seen f.frame f.number
    o = f.owed

    source : ℕ
    source = f.frame.pdu.vector.address

    first : ℕ
    first = first_sending f.seen

    foreign : source ≢ k.address
    foreign = other_source f.seen.frame k.address f.frame o.frame
        (and_second (comes_to_it k f.seen) (is_of_other k.address f.seen.frame) o.heard)

    found : (q : ℕ) × Reached w i f.seen f.frame q
    found = reached k tap i f.seen f.frame w all o.delivered o.at o.heard o.frame

    q : ℕ
    q = found.0

    r : Reached w i f.seen f.frame q
    r = found.1

    now : ℕ
    now = r.call.moment

    low : first ≤ r.stamp
    low = sending_first f.seen r.number r.stamp r.is_sending

    high : r.stamp ≤ last_sending f.seen
    high = sending_last f.seen r.number r.stamp r.is_sending

    -- the moment of the call, and what came before
    now_low : first + w.shift.ahead ≤ nanos now + w.shift.behind + slack k
    now_low = omega (arith, low, r.near.not_later, r.received.after)

    now_high : nanos now + w.shift.behind
        ≤ last_sending f.seen + w.shift.ahead + slack k + wait k
    now_high = omega (arith, high, r.near.not_earlier, r.received.soon)

    clock : w.start.clock ≤ now
    clock = omega (arith, w.begins, o.late, now_low)

    b : Before (Came w q) k w.calls w.start q r.call
    b = before w.calls (Came w q) k w.start q r.call w.in_range w.moves
        (λ m d asks lt. in_turn w.calls 0 m q d r.call w.order asks r.asked (omega (arith, lt)))
        (met k tap w q all modelled o.received) (start_kept k w.start w.starts w.stood)
        (record {
          room = w.starts.capacity;
          clock = clock;
          history = begin_came k.fresh k tap w q refl;
        }) r.asked

    s : StationModel
    s = b.station

    stations : List Known
    stations = stations_at s.remember now s.history

    inside : (t : StationModel) → Kept k t → area_holds o.area t.vector.place ≡ true
    inside t kept = surely_inside k o.area t.vector.place kept.place o.inside

    -- a packet that came before, by its record
    when_met : (e : Reception) (m : Met w q e)
        → m.recorded.stamp ≤ last_sending f.seen + wait k + 2 * slack k
    when_met e m =
        let turn : m.call.moment ≤ now =
        in_turn w.calls 0 m.place q m.call r.call w.order m.asked r.asked
        (omega (arith, m.before)) in
        omega (arith, turn, now_high, m.recorded.near.not_later, m.received.after)

    not_unread : (e : Reception) (m : Met w q e) → o.from ≤ m.recorded.stamp
        → IsUnread k m.recorded.seen → ⊥
    not_unread e m after u = o.all_read m.recorded.i m.recorded.seen m.recorded.at u
        (any_at
        (is_within (record { from = o.from; to = last_sending f.seen + wait k + 2 * slack k }))
        (sendings m.recorded.seen) m.recorded.number m.recorded.stamp m.recorded.is_sending
        (within o.from (last_sending f.seen + wait k + 2 * slack k) m.recorded.stamp after
        (when_met e m)))

    copy_same : (a c : Pdu) → IsCopy k a c → a ≡ c
    copy_same a c (inl same) = same
    copy_same a c (inr changed) = absurd (true≢false (sym o.unbuffered ∙ changed.0))

    -- it is a copy, and was forwarded
    copy_heard : (e : Reception) (m : Met w q e) → first ≤ m.recorded.stamp
        → IsOther k tap i source f.number m.recorded.i m.recorded.seen
        → WasHeard k m.recorded.seen m.packet → ⊥
    copy_heard e m late other h =
        let rec = m.recorded in
        let lies : lies_in (processed_in k f.seen) rec.seen ≡ true =
        any_at (is_within (processed_in k f.seen)) (sendings rec.seen) rec.number rec.stamp
        rec.is_sending
        (within first (last_sending f.seen + wait k + 2 * slack k) rec.stamp late (when_met e m)) in
        let copy = o.copies rec.i rec.seen h.packet other lies h.frame in
        let pdu : m.packet.pdu ≡ f.frame.pdu =
        sym h.pdu ∙ sym (copy_same f.frame.pdu h.packet.pdu copy.0) in
        let body : m.packet.pdu.body ≡ gbc f.number o.area o.message =
        ap (λ (p : Pdu). p.body) pdu ∙ o.broadcast in
        let hops : 2 ≤ m.packet.hops_left = omega (arith, copy.1, h.hops) in
        is_shown k tap i f w x m.place (record {
          call = m.call;
          packet = m.packet;
          station = m.station;
          stamp = rec.stamp;
          asked = m.asked;
          is_call = m.is_call;
          answered = m.answered;
          gives = received_gives m.station m.call.moment m.packet _ m.accepted
              (relayed_inside m.station m.call.moment m.packet m.packet.pdu.body f.number o.area
              o.message body hops (inside m.station m.kept));
          received = m.received;
          near = rec.near;
          after = late;
          soon = omega (
            arith,
            f.until_is rec.i rec.seen rec.at other.heard other.packet lies,
            sending_last rec.seen rec.number rec.stamp rec.is_sending,
          );
          pdu = pdu;
        }) all modelled o.heard foreign

    copy_came : (e : Reception) (m : Met w q e) → o.from ≤ m.recorded.stamp
        → is_from source e ≡ true → e.number ≡ Some f.number
        → WasHeard k m.recorded.seen m.packet → ⊥
    copy_came e m after from_it number h =
        let rec = m.recorded in
        let source_is : h.packet.pdu.vector.address ≡ source =
        ap (λ (p : Pdu). p.vector.address) h.pdu
        ∙ ap (λ (y : Reception). y.vector.address) (sym m.is)
        ∙ eqb-true e.vector.address source from_it in
        let number_is : number_in h.packet.pdu.body ≡ Some f.number =
        ap (λ (p : Pdu). number_in p.body) h.pdu ∙ ap (λ (y : Reception). y.number) (sym m.is)
        ∙ number in
        let other : IsOther k tap i source f.number rec.i rec.seen = record {
          at = rec.at;
          other = λ same.
              (let place : m.place ≡ q =
              w.once m.place q i (rec.is ∙ ap (λ (n : ℕ). Some n) same) r.record_is in
              absurd (omega (arith, m.before, place)));
          heard = h.heard;
          packet = both (is_of source rec.seen.frame) (has_number f.number rec.seen.frame)
              (ap (is_of source) h.frame ∙ eq-eqb h.packet.pdu.vector.address source source_is)
              (ap (has_number f.number) h.frame ∙ ap (is_number f.number) number_is
              ∙ eq-eqb f.number f.number refl);
        } in
        elim (cases_lt rec.stamp first) [
          | inl early ↦ o.new rec.i rec.seen other
              (any_at (is_within (record { from = o.from; to = first - 1 })) (sendings rec.seen)
              rec.number rec.stamp rec.is_sending
              (within o.from (first - 1) rec.stamp after (omega (arith, early))))
          | inr late ↦ copy_heard e m late other h
        ]

    -- the station remembers the number
    since : AllByRecursion (Since w q o.from source) (session source now s.history)
    since = elim o.known_from [
      | inl fresh ↦ fresh_since (of_source source s.history) k tap w q o.from source now fresh.0 fresh.1
          (all_from (Came w q) source s.history b.holds.history)
      | inr quiet ↦ quiet_since (of_source source s.history) k tap i f w q now modelled quiet
          (omega (arith, quiet.ends, now_low))
          (all_from (Came w q) source s.history b.holds.history)
    ]

    remembered : is_remembered s.remember source f.number now s.history ≡ true → ⊥
    remembered e =
        let h = find_number (session source now s.history) (Since w q o.from source) f.number since
        (among_all (numbers_of (session source now s.history)) s.remember f.number e) in
        elim h.has.met.recorded.found [
          | inl heard ↦ copy_came h.of h.has.met h.has.after h.has.from_it h.number heard
          | inr u ↦ not_unread h.of h.has.met h.has.after u
        ]

    -- there is no room
    counted : Seen → Bool
    counted r = is_heard k r && lies_in (sources_at k f.seen) r

    members : (a : ℕ) → is_among a (addresses stations) ≡ is_live a now s.history
    members a = among_addresses a stations
        ∙ ap (λ (o : Option Known). is_some o) (by_address-stations_at s.remember now s.history a)
        ∙ is_some-known s.remember a now s.history

    met_source : (a : ℕ) (e : Reception) (m : Met w q e) → is_from a e ≡ true
        → now < e.moment + 20000 → is_among a (sources_of (filter counted tap)) ≡ true
    met_source a e m from_it near = elim m.recorded.found [
      | inl h ↦ subst (λ (n : ℕ). is_among n (sources_of (filter counted tap)) ≡ true)
          (ap (λ (p : Pdu). p.vector.address) h.pdu
          ∙ ap (λ (y : Reception). y.vector.address) (sym m.is)
          ∙ eqb-true e.vector.address a from_it)
          (source_there tap m.recorded.i m.recorded.seen counted h.packet m.recorded.at
          (both (is_heard k m.recorded.seen) (lies_in (sources_at k f.seen) m.recorded.seen) h.heard
          lies) h.frame)
      | inr u ↦ absurd (not_unread e m from_low u)
    ]
      where
        moment_is : e.moment ≡ m.call.moment
        moment_is = ap (λ (y : Reception). y.moment) m.is

        after : first < m.recorded.stamp + reach k
        after = omega (
          arith,
          modelled.life,
          near,
          moment_is,
          now_low,
          m.received.soon,
          m.recorded.near.not_earlier,
        )

        from_low : o.from ≤ m.recorded.stamp
        from_low = elim o.known_from [
          | inl fresh ↦ omega (arith, fresh.1)
          | inr quiet ↦ omega (arith, quiet.ends, after)
        ]

        lies : lies_in (sources_at k f.seen) m.recorded.seen ≡ true
        lies = any_at (is_within (sources_at k f.seen)) (sendings m.recorded.seen)
            m.recorded.number m.recorded.stamp m.recorded.is_sending
            (within (first - reach k) (last_sending f.seen + wait k + 2 * slack k)
            m.recorded.stamp (omega (arith, after)) (when_met e m))

    not_early : (e : Reception) → IsEarly k tap w.shift e.moment → now < e.moment + 20000 → ⊥
    not_early e early near = elim o.known_from [
      | inl fresh ↦ true≢false (sym fresh.0 ∙ early.known)
      | inr quiet ↦ omega (arith, modelled.life, near, now_low, early.early, quiet.begins, quiet.ends)
    ]

    live_source : (a : ℕ) → is_live a now s.history ≡ true
        → is_among a (sources_of (filter counted tap)) ≡ true
    live_source a live =
        let l = live_of (of_source a s.history)
        (λ e. Came w q e × (is_from a e ≡ true)) now
        (all_from (Came w q) a s.history b.holds.history)
        (unnot (is_empty (session a now s.history)) live) in
        elim l.has.0 [
          | inl early ↦ absurd (not_early l.of early l.near)
          | inr m ↦ met_source a l.of m l.has.1 l.near
        ]

    its_own : is_among source (sources_of (filter counted tap)) ≡ true
    its_own = source_there tap i f.seen counted f.frame o.at
        (both (is_heard k f.seen) (lies_in (sources_at k f.seen) f.seen) o.heard
        (any_at (is_within (sources_at k f.seen)) (sendings f.seen) r.number r.stamp r.is_sending
        (within (first - reach k) (last_sending f.seen + wait k + 2 * slack k) r.stamp
        (omega (arith, low)) (omega (arith, high))))) o.frame

    either_source : (same live : Bool) (a : ℕ) → eqb source a ≡ same
        → is_among a (addresses stations) ≡ live → (same || live) ≡ true
        → is_among a (sources_of (filter counted tap)) ≡ true
    either_source true live a is there e =
        subst (λ (n : ℕ). is_among n (sources_of (filter counted tap)) ≡ true)
        (eqb-true source a is) its_own
    either_source false true a is there e = live_source a (sym (members a) ∙ there)
    either_source false false a is there e = absurd (true≢false (sym e))

    no_room : is_full s.capacity source stations ≡ true → ⊥
    no_room full =
        let tests : (not (is_live source now s.history) && nat_le s.capacity (length stations)) ≡ true =
        sym (is_full-stations_at s.remember s.capacity source now s.history) ∙ full in
        let none : is_live source now s.history ≡ false =
        unnot (is_live source now s.history)
        (and_first (not (is_live source now s.history)) (nat_le s.capacity (length stations)) tests) in
        let more = is_at_most s.capacity (length stations)
        (and_second (not (is_live source now s.history)) (nat_le s.capacity (length stations)) tests) in
        let sources = distinct (sources_of (filter counted tap)) in
        let fewer : length (source ∷ addresses stations) ≤ length sources =
        subset_le (source ∷ addresses stations) sources
        (members source ∙ none, rising_distinct stations (stations_at-Rises s.remember now s.history))
        (λ a there. distinct_has (sources_of (filter counted tap)) a
        (either_source (eqb source a) (is_among a (addresses stations)) a refl refl there)) in
        let room : length sources ≤ s.capacity =
        room_by k.capacity (length sources) s.capacity o.room b.holds.room in
        omega (arith, fewer, more, room, length-addresses stations)

    -- so it accepts the packet
    accepts : is_remembered s.remember source f.number now s.history ≡ false
        → is_full s.capacity source stations ≡ false → ⊥
    accepts new room =
        let pdu : r.packet.pdu ≡ f.frame.pdu =
        ap (λ (y : Transmission). y.pdu) (sym r.read.is) in
        let hops : f.frame.hops_left ≡ r.packet.hops_left =
        ap (λ (y : Transmission). y.hops_left) r.read.is in
        let source_is : r.packet.pdu.vector.address ≡ source =
        ap (λ (p : Pdu). p.vector.address) pdu in
        let gives = relay_owed s now r.packet f.number o.area o.message b.holds.clock
        (w.clock_range q r.call r.asked)
        (for_it k f.seen f.frame r.packet s (is_read tap i f.seen all o.at) o.frame r.carries
        o.known_target o.heard modelled b.kept.address)
        (λ e. foreign (sym source_is ∙ e ∙ b.kept.address))
        (ap (λ (p : Pdu). p.body) pdu ∙ o.broadcast)
        (ap (λ (n : ℕ). is_remembered s.remember n f.number now s.history) source_is ∙ new)
        (ap (λ (n : ℕ). is_full s.capacity n stations) source_is ∙ room)
        (omega (arith, o.hops, hops)) (inside s b.kept) in
        let packet : is_packet source f.number f.seen ≡ true =
        both (is_of source f.seen.frame) (has_number f.number f.seen.frame)
        (ap (is_of source) o.frame ∙ eq-eqb source source refl)
        (ap (has_number f.number) o.frame
        ∙ ap (λ (y : Body). is_number f.number (number_in y)) o.broadcast
        ∙ eq-eqb f.number f.number refl) in
        let lies : lies_in (processed_in k f.seen) f.seen ≡ true =
        any_at (is_within (processed_in k f.seen)) (sendings f.seen) r.number r.stamp r.is_sending
        (within first (last_sending f.seen + wait k + 2 * slack k) r.stamp low
        (omega (arith, high))) in
        is_shown k tap i f w x q (record {
          call = r.call;
          packet = r.packet;
          station = s;
          stamp = r.stamp;
          asked = r.asked;
          is_call = r.is_call;
          answered = b.answers;
          gives = ap frame_of gives.1;
          received = r.received;
          near = r.near;
          after = low;
          soon = omega (arith, f.until_is i f.seen o.at o.heard packet lies, high);
          pdu = pdu;
        }) all modelled o.heard foreign

    by : (known full : Bool)
        → is_remembered s.remember source f.number now s.history ≡ known
        → is_full s.capacity source stations ≡ full → ⊥
    by true full is e = remembered is
    by false true is e = no_room e
    by false false is e = accepts is e

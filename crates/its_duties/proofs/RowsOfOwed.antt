-- Why a packet is owed only under premises: small scenarios, evaluated. In each the station obeys,
-- all is claimed, and a warning that it received inside of its area isn't forwarded in the capture.
use Rattle.std.proofs.Common.{◌≡◌, ◌⊎◌, ℕ, zero, suc, ◌+◌, ◌≤◌, ◌<◌, true, false, List, []}
use Rattle.std.proofs.Common.{◌∷◌, ◌*◌, ◌∙◌, Option, Some, None, refl, sym, subst, true≢false, arith, inl, inr}
use Rattle.std.specs.Prelude.{pos, slice_get}
use Rattle.std.proofs.lemmas.Int.{ints}
use Rattle.its_gnvalue.specs.Values.{broadcast}
use Rattle.its_geometry.specs.Area.{area_holds}
use Rattle.its_geometry.specs.Offsets.{squared_distance}
use Rattle.its_linkframe.specs.Frames.{link_header}
use Rattle.its_model.specs.Packet.{Transmission, relay}
use Rattle.its_model.specs.History.{known}
use Rattle.its_model.specs.Stations.{stations_at}
use Rattle.its_model.specs.Decision.{decision}
use Rattle.its_model.specs.Calls.{Answer}
use Rattle.its_model.specs.Calls.OwnCall.{Tick}
use Rattle.its_model.specs.Calls.Call.{Receive}
use Rattle.its_model.specs.Calls.Refusal.{MomentEarlier, MomentTooLate}
use Rattle.its_model.specs.Calls.Answer.{Sent, Refused, Accepted}
use Rattle.its_model.specs.Station.{StationModel, last_moment, own_step, receive_step, verdict}
use Rattle.its_model.specs.World.{frame_of}
use Rattle.its_model.specs.Isolation.{TimedCall, answers_of}
use Rattle.its_duties.specs.declared.claims.Claims.{Claims}
use Rattle.its_duties.specs.Seen.{Seen, is_heard, is_sent}
use Rattle.its_duties.specs.Times.{Shift, slack, wait, lag, begin_of, end_of, nanos}
use Rattle.its_duties.specs.Places.{IsAllowed, is_surely_inside}
use Rattle.its_duties.specs.Scenario.{Scenario, Explains, Gave, IsStart, IsCall, IsReceived, IsAsked}
use Rattle.its_duties.specs.Scenario.{IsMoveAllowed, is_restart_call}
use Rattle.its_duties.proofs.Frames.{some_is}
use Rattle.its_duties.proofs.RowsOfBeacons.{here, mac, station, claims, asked, beacon_frame}
use Rattle.its_duties.proofs.RowsOfBeacons.{seen_at, of_both, starts, never, carries}
use Rattle.its_duties.proofs.RowsOfRelays.{area, came, came_fits, same_frame, no_shift}

-- all is claimed
abbrev pub sure : Claims
sure = record claims {
  place = Some here;
  accuracy = 0;
  tolerance = 0;
  capacity = Some 64;
  fresh = true;
  unlimited = true;
  sent = true;
  received = true;
  delivered = true;
  until = Some 5055;
}

is_inside : is_surely_inside sure area ≡ true
is_inside = refl

allowed : IsAllowed sure here
allowed = ((omega (arith, ints), omega (arith, ints)), (omega (arith, ints), omega (arith, ints)))

abbrev received_at : ℕ → TimedCall
received_at moment = record { moment = moment; call = Receive came }

is_it : {X : Type 0} (P : X → Type 0) (a : X) (n : ℕ) (c : X) → slice_get (a ∷ []) n ≡ Some c
    → P a → P c
is_it P a zero c e pa = subst P (some_is a c e) pa
is_it P a (suc n) c e pa = cc

-- ---- A station refuses what comes before its clock, which may be a millisecond after the begin. So
-- a packet isn't owed that comes at the begin.

abbrev ahead : StationModel
ahead = record station { clock = 5001 }

abbrev first_tap : List Seen
first_tap = seen_at 5000 came ∷ []

it_is_refused : answers_of ahead (received_at 5000 ∷ []) ≡ Refused MomentEarlier ∷ []
unfolding receive_step verdict
it_is_refused = refl

begins_ahead : IsStart sure ahead
begins_ahead = record {
  address = refl;
  vector = starts.vector;
  own_vector = refl;
  number = omega arith;
  history = tt;
  remember = refl;
  capacity = omega arith;
  mobile = tt;
  fresh = λ h. refl;
}

-- a record of the warning
came_there : (tap : List Seen) (moment i : ℕ) → slice_get tap i ≡ Some (seen_at 5000 came)
    → 5000 ≤ moment → moment ≤ 5050 → IsReceived sure tap no_shift came moment 5000 (Some i)
unfolding link_header
came_there tap moment i at low high = record {
  after = low;
  soon = omega (arith, high);
  foreign = λ e. absurd (omega (arith, e));
  arrives = record {
    record_there = seen_at 5000 came;
    stamp = nanos 5000;
    number = 0;
    at = at;
    other = refl;
    carries = carries 5000 came refl;
    is_sending = refl;
    near = record { not_earlier = omega arith; not_later = omega arith };
  };
}

first_scenario : Scenario sure first_tap
unfolding link_header
first_scenario = record {
  start = ahead;
  calls = received_at 5000 ∷ [];
  shift = no_shift;
  arrival = λ n. 5000;
  record_of = first_record;
  starts = begins_ahead;
  order = (omega arith, tt);
  clock_range = λ n c e. is_it (λ (c : TimedCall). c.moment ≤ last_moment) _ n c e (omega arith);
  begins = omega arith;
  in_range = λ n c e. is_it (λ (c : TimedCall). IsCall c.call) _ n c e came_fits;
  heard = first_heard;
  once = first_once;
  delivered = first_delivered;
  stood = allowed;
  moves = λ n c e. is_it (λ (c : TimedCall). IsMoveAllowed sure c.call) _ n c e tt;
  rate = λ from. omega arith;
  steady = λ h n c e. is_it (λ (c : TimedCall). is_restart_call c.call ≡ false) _ n c e refl;
}
  where
    first_record : ℕ → Option ℕ
    first_record zero = Some 0
    first_record (suc n) = None

    first_heard : (n : ℕ) (c : TimedCall) (t : Transmission) → IsAsked (received_at 5000 ∷ []) n c
        → c.call ≡ Receive t → IsReceived sure first_tap no_shift t c.moment 5000 (first_record n)
    first_heard zero c t e is =
        subst (λ (c : TimedCall). c.call ≡ Receive t
        → IsReceived sure first_tap no_shift t c.moment 5000 (Some 0))
        (some_is (received_at 5000) c e)
        (λ same. subst
        (λ (u : Transmission). IsReceived sure first_tap no_shift u 5000 5000 (Some 0))
        (same_frame t same) (came_there first_tap 5000 0 refl (omega arith) (omega arith))) is
    first_heard (suc n) c t e is = cc

    first_once : (n m i : ℕ) → first_record n ≡ Some i → first_record m ≡ Some i → n ≡ m
    first_once zero zero i e d = refl
    first_once zero (suc m) i e d = cc
    first_once (suc n) m i e d = cc

    first_delivered : true ≡ true → (i : ℕ) (r : Seen) → slice_get first_tap i ≡ Some r
        → is_heard sure r ≡ true
        → (n : ℕ) × (c : TimedCall) × (t : Transmission) × IsAsked (received_at 5000 ∷ []) n c
        × (c.call ≡ Receive t) × (first_record n ≡ Some i)
    first_delivered h zero r at heard = (0, received_at 5000, came, refl, refl, refl)
    first_delivered h (suc i) r at heard = cc

-- It explains the tap.
first_explained : Explains sure first_tap first_scenario
unfolding first_scenario link_header receive_step verdict
first_explained = record {
  call_of = λ i. i;
  left = λ i. 0;
  gave = λ i r at sent. absurd (true≢false (sym sent ∙ not_sent i r at));
  once = λ i j r s at other one two e. e;
  whole = λ h n call answer frame asked answered given.
      absurd (no_frame n answer frame answered given);
  in_turn = λ h. never h;
}
  where
    not_sent : (i : ℕ) (r : Seen) → slice_get first_tap i ≡ Some r → is_sent sure r ≡ false
    not_sent i r at = is_it (λ (r : Seen). is_sent sure r ≡ false) _ i r at refl

    no_frame : (n : ℕ) (answer : Answer Transmission) (frame : Transmission)
        → slice_get (answers_of ahead (received_at 5000 ∷ [])) n ≡ Some answer
        → frame_of answer ≡ Some frame → ⊥
    no_frame n answer frame at given =
        is_it (λ (a : Answer Transmission). frame_of a ≡ Some frame → ⊥) (Refused MomentEarlier) n
        answer at (λ e. cc) given

-- ---- A station's clock has an end, 2^62 ms, and refuses what comes later. So no call of a scenario
-- is later.

too_late : answers_of station (received_at (last_moment + 1) ∷ []) ≡ Refused MomentTooLate ∷ []
unfolding receive_step verdict
too_late = refl

-- ---- A frame may be missing from the capture if it may have left after the end: so long after the
-- call as an own call's frame may leave, and a received one's after its arrival. The packet of 5000
-- ms is processed at 5050 ms. The longest wait and two slacks after it the capture ends.

abbrev second_calls : List TimedCall
second_calls = asked 4000 (Tick 0) ∷ received_at 5050 ∷ []

abbrev second_tap : List Seen
second_tap = seen_at 4000 beacon_frame ∷ seen_at 5000 came ∷ []

it_ends_later : nanos 5000 + wait sure + 2 * slack sure ≤ end_of sure second_tap
it_ends_later = omega arith

begins_new : IsStart sure station
begins_new = record {
  address = refl;
  vector = starts.vector;
  own_vector = refl;
  number = omega arith;
  history = tt;
  remember = refl;
  capacity = omega arith;
  mobile = tt;
  fresh = λ h. refl;
}

second_scenario : Scenario sure second_tap
unfolding link_header
second_scenario = record {
  start = station;
  calls = second_calls;
  shift = no_shift;
  arrival = λ n. 5000;
  record_of = second_record;
  starts = begins_new;
  order = (omega arith, (omega arith, tt));
  clock_range = λ n c e. of_both (λ (c : TimedCall). c.moment ≤ last_moment) _ _ n c e (omega arith)
      (omega arith);
  begins = omega arith;
  in_range = λ n c e. of_both (λ (c : TimedCall). IsCall c.call) _ _ n c e tt came_fits;
  heard = second_heard;
  once = second_once;
  delivered = second_delivered;
  stood = allowed;
  moves = λ n c e. of_both (λ (c : TimedCall). IsMoveAllowed sure c.call) _ _ n c e tt tt;
  rate = λ from. omega arith;
  steady = λ h n c e. of_both (λ (c : TimedCall). is_restart_call c.call ≡ false) _ _ n c e refl refl;
}
  where
    second_record : ℕ → Option ℕ
    second_record zero = None
    second_record (suc zero) = Some 1
    second_record (suc (suc n)) = None

    second_heard : (n : ℕ) (c : TimedCall) (t : Transmission) → IsAsked second_calls n c
        → c.call ≡ Receive t
        → IsReceived sure second_tap no_shift t c.moment 5000 (second_record n)
    second_heard zero c t e is =
        subst (λ (c : TimedCall). c.call ≡ Receive t
        → IsReceived sure second_tap no_shift t c.moment 5000 None)
        (some_is (asked 4000 (Tick 0)) c e) (λ same. cc) is
    second_heard (suc zero) c t e is =
        subst (λ (c : TimedCall). c.call ≡ Receive t
        → IsReceived sure second_tap no_shift t c.moment 5000 (Some 1))
        (some_is (received_at 5050) c e)
        (λ same. subst
        (λ (u : Transmission). IsReceived sure second_tap no_shift u 5050 5000 (Some 1))
        (same_frame t same) (came_there second_tap 5050 1 refl (omega arith) (omega arith))) is
    second_heard (suc (suc n)) c t e is = cc

    second_once : (n m i : ℕ) → second_record n ≡ Some i → second_record m ≡ Some i → n ≡ m
    second_once zero m i e d = cc
    second_once (suc zero) zero i e d = cc
    second_once (suc zero) (suc zero) i e d = refl
    second_once (suc zero) (suc (suc m)) i e d = cc
    second_once (suc (suc n)) m i e d = cc

    second_delivered : true ≡ true → (i : ℕ) (r : Seen) → slice_get second_tap i ≡ Some r
        → is_heard sure r ≡ true
        → (n : ℕ) × (c : TimedCall) × (t : Transmission) × IsAsked second_calls n c
        × (c.call ≡ Receive t) × (second_record n ≡ Some i)
    second_delivered h zero r at heard =
        absurd (true≢false (sym heard
        ∙ subst (λ (r : Seen). is_heard sure r ≡ false) (some_is (seen_at 4000 beacon_frame) r at)
        refl))
    second_delivered h (suc zero) r at heard = (1, received_at 5050, came, refl, refl, refl)
    second_delivered h (suc (suc i)) r at heard = cc

second_beacon : Gave second_scenario (seen_at 4000 beacon_frame) 0 4000
unfolding second_scenario own_step receive_step verdict known stations_at decision area_holds squared_distance
second_beacon = record {
  call = asked 4000 (Tick 0);
  answer = Sent beacon_frame;
  frame = beacon_frame;
  asked = refl;
  answered = refl;
  given = refl;
  carries = carries 4000 beacon_frame refl;
  after = omega arith;
  soon = omega arith;
  near = record { not_earlier = omega arith; not_later = omega arith };
}

-- It explains the tap: the frame left after 5050 ms.
second_explained : Explains sure second_tap second_scenario
unfolding second_scenario link_header
second_explained = record {
  call_of = λ i. i;
  left = λ i. 4000;
  gave = second_gave;
  once = λ i j r s at other one two e. e;
  whole = second_whole;
  in_turn = λ h. never h;
}
  where
    second_gave : (i : ℕ) (r : Seen) → slice_get second_tap i ≡ Some r → is_sent sure r ≡ true
        → Gave second_scenario r i 4000
    second_gave zero r at sent =
        subst (λ (r : Seen). Gave second_scenario r 0 4000)
        (some_is (seen_at 4000 beacon_frame) r at) second_beacon
    second_gave (suc zero) r at sent =
        absurd (true≢false (sym sent
        ∙ subst (λ (r : Seen). is_sent sure r ≡ false) (some_is (seen_at 5000 came) r at) refl))
    second_gave (suc (suc i)) r at sent = cc

    second_whole : sure.sent ≡ true → (n : ℕ) (call : TimedCall) (answer : Answer Transmission)
        (frame : Transmission) → IsAsked second_calls n call
        → slice_get (answers_of station second_calls) n ≡ Some answer → frame_of answer ≡ Some frame
        → ((i : ℕ) × (r : Seen) × (slice_get second_tap i ≡ Some r) × (is_sent sure r ≡ true)
        × (i ≡ n))
        ⊎ (nanos call.moment + 0 < begin_of second_tap + 0 + slack sure)
        ⊎ (end_of sure second_tap + 0 < nanos call.moment + 0 + slack sure + lag sure + wait sure)
    second_whole h zero call answer frame asks answers gives =
        inl (0, seen_at 4000 beacon_frame, refl, refl, refl)
    second_whole h (suc zero) call answer frame asks answers gives =
        inr (inr (subst (λ (c : TimedCall).
        end_of sure second_tap + 0 < nanos c.moment + 0 + slack sure + lag sure + wait sure)
        (some_is (received_at 5050) call asks) (omega arith)))
    second_whole h (suc (suc n)) call answer frame asks answers gives = cc

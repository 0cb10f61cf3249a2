-- Why a beacon fails only under premises: small scenarios, evaluated.
use Rattle.std.proofs.Common.{◌≡◌, ℕ, zero, suc, ◌<◌, ◌≤◌, true, false, List, [], ◌∷◌}
use Rattle.std.proofs.Common.{◌++◌, Some, None, inl, refl, sym, subst, true≢false, arith}
use Rattle.std.specs.Prelude.{pos, slice_get}
use Rattle.its_gnvalue.specs.Values.{Position, broadcast}
use Rattle.its_headers.specs.Encoding.{IsMessage}
use Rattle.its_headers.proofs.FieldTests.{latitude_from_test, longitude_from_test, speed_fits}
use Rattle.its_linkframe.specs.Frames.{frame_octets, link_header}
use Rattle.its_model.specs.Packet.{Transmission}
use Rattle.its_model.specs.Calls.{OwnCall, ShbRequest}
use Rattle.its_model.specs.Calls.OwnCall.{Tick, SendShb, Restart}
use Rattle.its_model.specs.Calls.Call.{Own, Receive}
use Rattle.its_model.specs.Calls.Answer.{Sent, Restarted}
use Rattle.its_model.specs.Station.{StationModel, last_moment, new_station, beacon_of, shb_of}
use Rattle.its_model.specs.Station.{own_step}
use Rattle.its_model.specs.Isolation.{TimedCall, answers_of}
use Rattle.its_duties.specs.declared.claims.Claims.{Claims}
use Rattle.its_duties.specs.declared.claims.AreaForwarding.TheVariants as areas
use Rattle.its_duties.specs.declared.claims.NonAreaForwarding.TheVariants as elsewheres
use Rattle.its_duties.specs.Seen.{Seen, Carries}
use Rattle.its_duties.specs.Times.{nanos}
use Rattle.its_duties.specs.Scenario.{Scenario, Explains, Gave, IsStart, IsCall, IsReceived}
use Rattle.its_duties.specs.Scenario.{IsMoveAllowed, is_restart_call}
use Rattle.its_duties.specs.Verdicts.{is_fail, beacon_verdict}
use Rattle.its_duties.specs.Duties.{IsModelled}
use Rattle.its_duties.proofs.Frames.{some_is}

abbrev pub here : Position
here = record { latitude = pos 0; longitude = pos 0 }

-- station 02:00:00:00:01:00
abbrev pub mac : ℕ
mac = 2199023255808

abbrev pub address : ℕ
address = 1441154079781814528

abbrev pub station : StationModel
station = new_station address here 64 8

abbrev pub claims : Claims
claims = record {
  address = address;
  mac = mac;
  place = None;
  accuracy = 10;
  tolerance = 10;
  age = None;
  mobile = None;
  area = areas.Simple;
  elsewhere = elsewheres.Greedy;
  remember = 8;
  life = 20000;
  capacity = None;
  profile = true;
  interval = 3000;
  jitter = 750;
  reset = None;
  lifetime = 60000;
  modulus = None;
  gapless = false;
  rate = 1000;
  steady = true;
  fresh = false;
  unlimited = false;
  unbuffered = true;
  sent = false;
  received = false;
  delivered = false;
  within = 50;
  queue = 5;
  skew = 0;
  until = None;
  interface = None;
}

-- They are those of a station of the model, so the laws speak of them.
modelled : IsModelled claims
modelled = record {
  mac = refl;
  area = refl;
  elsewhere = refl;
  life = refl;
  interval = refl;
  jitter = refl;
  lifetime = refl;
  modulus = inl refl;
}

abbrev request : ShbRequest
request = record { class = 0; message = record { port = 2001; info = 0; payload = [] } }

abbrev pub asked : ℕ → OwnCall → TimedCall
asked moment call = record { moment = moment; call = Own call }

-- ---- A station that restarts doesn't wait: its beacon comes half a second after a packet of its
-- own.

restarted_it_beacons_early :
    answers_of station
    (asked 1000 (SendShb request) ∷ asked 1500 (Restart 0) ∷ asked 1500 (Tick 0) ∷ [])
    ≡ Sent (shb_of station request) ∷ Restarted ∷ Sent (beacon_of station) ∷ []
unfolding own_step
restarted_it_beacons_early = refl

-- ---- Two packets may leave in another order than that of their calls: the beacon of 4000 ms after
-- the single-hop broadcast of 4001 ms.

abbrev calls : List TimedCall
calls = asked 4000 (Tick 0) ∷ asked 4001 (SendShb request) ∷ []

abbrev pub beacon_frame : Transmission
beacon_frame = beacon_of station

abbrev shb_frame : Transmission
shb_frame = shb_of station request

abbrev pub seen_at : ℕ → Transmission → Seen
seen_at moment t = record {
  moment = nanos moment;
  repeats = [];
  retried = false;
  interface = 0;
  wireless = false;
  octets = frame_octets t ++ [];
  cut = false;
  known_target = true;
  frame = Some t;
}

abbrev tap : List Seen
tap = seen_at 4001 shb_frame ∷ seen_at 4005 beacon_frame ∷ []

-- With its stamps alone the beacon would fail, 4 ms after the other packet.
would_fail : is_fail (beacon_verdict claims 4000000 true true) ≡ true
would_fail = refl

-- what holds of both of a list holds of each
pub of_both : {X : Type 0} (P : X → Type 0) (a b : X) (n : ℕ) (c : X)
    → slice_get (a ∷ b ∷ []) n ≡ Some c → P a → P b → P c
of_both P a b zero c e pa pb = subst P (some_is a c e) pa
of_both P a b (suc zero) c e pa pb = subst P (some_is b c e) pb
of_both P a b (suc (suc n)) c e pa pb = cc

pub starts : IsStart claims station
starts = record {
  address = refl;
  vector = record {
    address = omega arith;
    individual = refl;
    timestamp = omega arith;
    latitude = latitude_from_test (pos 0) refl;
    longitude = longitude_from_test (pos 0) refl;
    speed = speed_fits 0 (omega arith);
    heading = omega arith;
  };
  own_vector = refl;
  number = omega arith;
  history = tt;
  remember = refl;
  capacity = tt;
  mobile = tt;
  fresh = λ h. refl;
}

message : IsMessage request.message
message = record {
  port = omega arith;
  info = omega arith;
  size = omega arith;
  bytes = λ i. omega arith;
}

pub never : {P : Type 0} → false ≡ true → P
never e = absurd (true≢false (sym e))

scenario : Scenario claims tap
unfolding link_header
scenario = record {
  start = station;
  calls = calls;
  shift = record { ahead = 0; behind = 0 };
  arrival = λ n. 0;
  record_of = λ n. None;
  starts = starts;
  order = (omega arith, (omega arith, tt));
  clock_range = λ n c e. of_both (λ (c : TimedCall). c.moment ≤ last_moment) _ _ n c e (omega arith)
      (omega arith);
  begins = omega arith;
  in_range = λ n c e. of_both (λ (c : TimedCall). IsCall c.call) _ _ n c e tt (omega arith, message);
  heard = λ n c t e. of_both (λ (c : TimedCall). c.call ≡ Receive t
      → IsReceived claims tap (record { ahead = 0; behind = 0 }) t c.moment 0 None) _ _ n c e
      (λ r. cc) (λ r. cc);
  once = λ n m i e d. cc;
  delivered = λ h. never h;
  stood = tt;
  moves = λ n c e. of_both (λ (c : TimedCall). IsMoveAllowed claims c.call) _ _ n c e tt tt;
  rate = λ from. omega arith;
  steady = λ h n c e. of_both (λ (c : TimedCall). is_restart_call c.call ≡ false) _ _ n c e refl refl;
}

abbrev call_number : ℕ → ℕ
call_number zero = 1
call_number (suc n) = 0

abbrev left_at : ℕ → ℕ
left_at zero = 4001
left_at (suc n) = 4005

pub carries : (moment : ℕ) (t : Transmission) → t.link_target ≡ broadcast → Carries (seen_at moment t) t
carries moment t is = record {
  target = t.link_target;
  in_range = subst (λ (n : ℕ). n < 281474976710656) (sym is) (omega arith);
  same_target = λ h. refl;
  rest = [];
  octets = refl;
}

gave_shb : Gave scenario (seen_at 4001 shb_frame) 1 4001
unfolding scenario own_step
gave_shb = record {
  call = asked 4001 (SendShb request);
  answer = Sent shb_frame;
  frame = shb_frame;
  asked = refl;
  answered = refl;
  given = refl;
  carries = carries 4001 shb_frame refl;
  after = omega arith;
  soon = omega arith;
  near = record { not_earlier = omega arith; not_later = omega arith };
}

gave_beacon : Gave scenario (seen_at 4005 beacon_frame) 0 4005
unfolding scenario own_step
gave_beacon = record {
  call = asked 4000 (Tick 0);
  answer = Sent beacon_frame;
  frame = beacon_frame;
  asked = refl;
  answered = refl;
  given = refl;
  carries = carries 4005 beacon_frame refl;
  after = omega arith;
  soon = omega arith;
  near = record { not_earlier = omega arith; not_later = omega arith };
}

gave_each : (i : ℕ) (r : Seen) → slice_get tap i ≡ Some r
    → Gave scenario r (call_number i) (left_at i)
gave_each zero r at =
    subst (λ (r : Seen). Gave scenario r 1 4001) (some_is (seen_at 4001 shb_frame) r at) gave_shb
gave_each (suc zero) r at =
    subst (λ (r : Seen). Gave scenario r 0 4005) (some_is (seen_at 4005 beacon_frame) r at)
    gave_beacon
gave_each (suc (suc n)) r at = cc

apart_calls : (i j : ℕ) (r s : Seen) → slice_get tap i ≡ Some r → slice_get tap j ≡ Some s
    → call_number i ≡ call_number j → i ≡ j
apart_calls zero zero r s at other e = refl
apart_calls zero (suc j) r s at other e = cc
apart_calls (suc i) zero r s at other e = cc
apart_calls (suc zero) (suc zero) r s at other e = refl
apart_calls (suc zero) (suc (suc j)) r s at other e = cc
apart_calls (suc (suc i)) (suc j) r s at other e = cc

-- But it is explained.
explained : Explains claims tap scenario
explained = record {
  call_of = call_number;
  left = left_at;
  gave = λ i r at sent. gave_each i r at;
  once = λ i j r s at other one two e. apart_calls i j r s at other e;
  whole = λ h. never h;
  in_turn = λ h. never h;
}

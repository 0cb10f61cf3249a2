-- Why a forwarded packet fails only if all that was received is recorded: a small scenario,
-- evaluated.
use Rattle.std.proofs.Common.{◌≡◌, ℕ, zero, suc, ◌≤◌, true, false, List, [], ◌∷◌}
use Rattle.std.proofs.Common.{Some, None, refl, sym, subst, ◌∙◌, true≢false, arith, inl}
use Rattle.std.specs.Prelude.{pos, slice_get}
use Rattle.its_gnvalue.specs.Values.{broadcast}
use Rattle.its_geometry.specs.declared.area.Shape.TheVariants.{Circle}
use Rattle.its_geometry.specs.Area.{GeoArea, area_holds}
use Rattle.its_geometry.specs.Offsets.{squared_distance}
use Rattle.its_headers.proofs.FieldTests.{latitude_from_test, longitude_from_test, speed_fits}
use Rattle.its_linkframe.specs.Frames.{IsTransmission, link_header}
use Rattle.its_model.specs.Packet.{Transmission, relay}
use Rattle.its_model.specs.Packet.Body.{gbc}
use Rattle.its_model.specs.History.{known}
use Rattle.its_model.specs.Stations.{stations_at}
use Rattle.its_model.specs.Decision.{decision}
use Rattle.its_model.specs.Calls.OwnCall.{Tick}
use Rattle.its_model.specs.Calls.Call.{Receive}
use Rattle.its_model.specs.Calls.Answer.{Sent, Accepted}
use Rattle.its_model.specs.Station.{last_moment, own_step, receive_step, verdict}
use Rattle.its_model.specs.Isolation.{TimedCall}
use Rattle.its_duties.specs.declared.claims.Claims.{Claims}
use Rattle.its_duties.specs.Seen.{Seen, is_heard}
use Rattle.its_duties.specs.Times.{Shift}
use Rattle.its_duties.specs.Scenario.{Scenario, Explains, Gave, IsCall, IsReceived, IsMoveAllowed}
use Rattle.its_duties.specs.Scenario.{is_restart_call}
use Rattle.its_duties.specs.Forwarding.{IsSource}
use Rattle.its_duties.proofs.Frames.{some_is}
use Rattle.its_duties.proofs.RowsOfBeacons.{here, mac, station, claims, asked, beacon_frame}
use Rattle.its_duties.proofs.RowsOfBeacons.{seen_at}
use Rattle.its_duties.proofs.RowsOfBeacons.{of_both, starts, never, carries}

-- The claims don't say that all that was received is recorded.
abbrev lossy : Claims
lossy = claims

abbrev pub area : GeoArea
area = record { shape = Circle; centre = here; a = 100; b = 0; angle = 0 }

-- a warning of station 02:00:00:00:02:00
abbrev pub came : Transmission
came = record {
  pdu = record {
    vector = record {
      address = 1441154079781814784;
      timestamp = 0;
      place = here;
      accurate = false;
      speed = pos 0;
      heading = 0;
    };
    lifetime = 26;
    class = 0;
    mobile = true;
    max_hops = 10;
    body = gbc 7 area (record { port = 2002; info = 0; payload = [] });
  };
  hops_left = 10;
  link_source = 2199023256064;
  link_target = broadcast;
}

abbrev pub forwarded : Transmission
forwarded = relay came mac broadcast

abbrev calls : List TimedCall
calls = asked 4000 (Tick 0) ∷ record { moment = 4999; call = Receive came } ∷ []

-- the tap has a beacon of the station, and the warning that it forwarded
abbrev tap : List Seen
tap = seen_at 4000 beacon_frame ∷ seen_at 5000 forwarded ∷ []

-- Nothing in it is a packet that the warning was made from.
not_heard : (i : ℕ) (r : Seen) (u : Transmission) → IsSource lossy tap i r u forwarded → ⊥
unfolding link_header
not_heard i r u h =
    true≢false (sym h.heard
    ∙ of_both (λ (r : Seen). is_heard lossy r ≡ false) _ _ i r h.at refl refl)

pub came_fits : IsTransmission came
came_fits = record {
  target = omega arith;
  source = omega arith;
  packet = record {
    lifetime = omega arith;
    class = omega arith;
    some_left = omega arith;
    left_below = omega arith;
    max_hops = omega arith;
    vector = record {
      address = omega arith;
      individual = refl;
      timestamp = omega arith;
      latitude = latitude_from_test (pos 0) refl;
      longitude = longitude_from_test (pos 0) refl;
      speed = speed_fits 0 (omega arith);
      heading = omega arith;
    };
    body = (
      omega arith,
      record {
        latitude = latitude_from_test (pos 0) refl;
        longitude = longitude_from_test (pos 0) refl;
        a = omega arith;
        b = omega arith;
        measures = (omega arith, refl, refl);
      },
      record { port = omega arith; info = omega arith; size = omega arith; bytes = λ i. omega arith },
    );
  };
}

abbrev pub no_shift : Shift
no_shift = record { ahead = 0; behind = 0 }

came_there : IsReceived lossy tap no_shift came 4999 4999 None
came_there = record {
  after = omega arith;
  soon = omega arith;
  foreign = λ e. absurd (omega (arith, e));
  arrives = inl refl;
}

pub same_frame : (t : Transmission) → Receive came ≡ Receive t → came ≡ t
same_frame t e = cc

scenario : Scenario lossy tap
unfolding link_header
scenario = record {
  start = station;
  calls = calls;
  shift = no_shift;
  arrival = λ n. 4999;
  record_of = λ n. None;
  starts = starts;
  order = (omega arith, (omega arith, tt));
  clock_range = λ n c e. of_both (λ (c : TimedCall). c.moment ≤ last_moment) _ _ n c e (omega arith)
      (omega arith);
  begins = omega arith;
  in_range = λ n c e. of_both (λ (c : TimedCall). IsCall c.call) _ _ n c e tt came_fits;
  heard = λ n c t e. of_both (λ (c : TimedCall). c.call ≡ Receive t
      → IsReceived lossy tap no_shift t c.moment 4999 None) _ _ n c e (λ r. cc)
      (λ r. subst (λ (u : Transmission). IsReceived lossy tap no_shift u 4999 4999 None)
      (same_frame t r) came_there);
  once = λ n m i e d. cc;
  delivered = λ h. never h;
  stood = tt;
  moves = λ n c e. of_both (λ (c : TimedCall). IsMoveAllowed lossy c.call) _ _ n c e tt tt;
  rate = λ from. omega arith;
  steady = λ h n c e. of_both (λ (c : TimedCall). is_restart_call c.call ≡ false) _ _ n c e refl refl;
}

abbrev left_at : ℕ → ℕ
left_at zero = 4000
left_at (suc n) = 5000

gave_beacon : Gave scenario (seen_at 4000 beacon_frame) 0 4000
unfolding scenario own_step receive_step verdict known stations_at decision area_holds squared_distance
gave_beacon = record {
  call = asked 4000 (Tick 0);
  answer = Sent beacon_frame;
  frame = beacon_frame;
  asked = refl;
  answered = refl;
  given = refl;
  carries = carries 4000 beacon_frame refl;
  after = omega arith;
  soon = omega arith;
  near = record { not_earlier = omega arith; not_later = omega arith };
}

gave_relay : Gave scenario (seen_at 5000 forwarded) 1 5000
unfolding scenario own_step receive_step verdict known stations_at decision area_holds squared_distance
gave_relay = record {
  call = record { moment = 4999; call = Receive came };
  answer = Accepted None (Some forwarded);
  frame = forwarded;
  asked = refl;
  answered = refl;
  given = refl;
  carries = carries 5000 forwarded refl;
  after = omega arith;
  soon = omega arith;
  near = record { not_earlier = omega arith; not_later = omega arith };
}

gave_each : (i : ℕ) (r : Seen) → slice_get tap i ≡ Some r → Gave scenario r i (left_at i)
gave_each zero r at =
    subst (λ (r : Seen). Gave scenario r 0 4000) (some_is (seen_at 4000 beacon_frame) r at)
    gave_beacon
gave_each (suc zero) r at =
    subst (λ (r : Seen). Gave scenario r 1 5000) (some_is (seen_at 5000 forwarded) r at) gave_relay
gave_each (suc (suc n)) r at = cc

-- But it is explained: the packet that came isn't in the tap.
explained : Explains lossy tap scenario
explained = record {
  call_of = λ n. n;
  left = left_at;
  gave = λ i r at sent. gave_each i r at;
  once = λ i j r s at other one two e. e;
  whole = λ h. never h;
  in_turn = λ h. never h;
}

-- A station's own calls: small worlds, evaluated.
use Rattle.std.proofs.Common.{◌≡◌, ℕ, ◌+◌, ◌^◌, List, [], ◌∷◌, map, Option, zero, suc, replicate}
use Rattle.std.proofs.Common.{Some, None, true, false, refl}
use Rattle.std.specs.Prelude.{pos}
use Rattle.its_gnvalue.specs.Values.{broadcast}
use Rattle.its_geometry.specs.Area.{area_holds}
use Rattle.its_geometry.specs.Offsets.{squared_distance}
use Rattle.its_model.specs.History.{known}
use Rattle.its_model.specs.Stations.{stations_at}
use Rattle.its_model.specs.Decision.{decision}
use Rattle.its_model.specs.Packet.{Body, Pdu, Transmission, number_in}
use Rattle.its_model.specs.Packet.Body.{beacon, shb}
use Rattle.its_model.specs.Calls.{GbcRequest}
use Rattle.its_model.specs.Calls.OwnCall.{Move, Open, Close, Tick, SendShb, SendGbc}
use Rattle.its_model.specs.Calls.Answer.{Opened, Closed, Quiet, Sent, Accepted, Refused}
use Rattle.its_model.specs.Calls.Refusal.{MomentEarlier, MomentTooLate, JitterRange, AlreadyOpen}
use Rattle.its_model.specs.Calls.Refusal.{PortsFull, NotOpen, PayloadTooLong, HopLimitZero}
use Rattle.its_model.specs.Calls.Refusal.{NoSuchStation, NoSuchFrame}
use Rattle.its_model.specs.Calls.Call.{Own}
use Rattle.its_model.specs.Station.{StationModel, new_station, verdict, own_step, receive_step}
use Rattle.its_model.specs.Station.{station_step}
use Rattle.its_model.specs.World.What.{Calls, Deliver}
use Rattle.its_model.proofs.Scenes.{mac, address, here, three, hi, request, gbc_with_hops, gbc_hi}
use Rattle.its_model.proofs.Scenes.{open_port, tick, by, after, at, Happens}

abbrev numbers_on_the_air : List Transmission → List (Option ℕ)
numbers_on_the_air air = map (λ t. number_in t.pdu.body) air

abbrev too_long : GbcRequest
too_long = record request { message = record hi { payload = replicate 1395 0 } }

-- A send that is refused takes no number and no time.
refused_sends_change_nothing : Happens three (
    at 0 1000 open_port Opened
    ∷ at 0 999 gbc_hi (Refused MomentEarlier)
    ∷ at 0 1000 (Calls (SendGbc too_long)) (Refused PayloadTooLong)
    ∷ at 0 1000 (gbc_with_hops 0) (Refused HopLimitZero)
    ∷ at 0 1000 gbc_hi (Sent 0)
    ∷ [])
unfolding own_step receive_step verdict known stations_at decision area_holds squared_distance
refused_sends_change_nothing = refl

first_number : numbers_on_the_air (after three (
    by 0 1000 open_port
    ∷ by 0 999 gbc_hi
    ∷ by 0 1000 (gbc_with_hops 0)
    ∷ by 0 1000 gbc_hi
    ∷ by 0 1000 gbc_hi
    ∷ [])).air ≡ Some 0 ∷ Some 1 ∷ []
unfolding own_step receive_step verdict known stations_at decision area_holds squared_distance
first_number = refl

-- a request that is too long and has no hops is refused as too long, and one of 1394 octets is
-- taken
too_long_before_no_hops : Happens three (
    at 0 1000 (Calls (SendGbc (record too_long { max_hops = 0 }))) (Refused PayloadTooLong)
    ∷ at 0 1000
    (Calls (SendGbc (record request { message = record hi { payload = replicate 1394 0 } })))
    (Sent 0)
    ∷ [])
unfolding own_step receive_step verdict known stations_at decision area_holds squared_distance
too_long_before_no_hops = refl

-- a move takes its moment modulo 2^32
timestamp_of_a_move :
    (station_step (new_station (address 1) here 64 8) (2 ^ 32 + 5)
    (Own (Move here true (pos 0) 0))).station.vector.timestamp ≡ 5
unfolding own_step
timestamp_of_a_move = refl

-- what a beacon and a single-hop broadcast carry
abbrev pdu_of : Body → Pdu
pdu_of body =
    record {
      vector = record {
        address = address 1;
        timestamp = 0;
        place = here;
        accurate = false;
        speed =
            pos 0;
        heading = 0;
      };
      lifetime = 26;
      class = 0;
      mobile = true;
      max_hops = 1;
      body = body;
    }

beacon_on_the_air : (after three (by 0 0 tick ∷ [])).air
    ≡ record { pdu = pdu_of beacon; hops_left = 1; link_source = mac 1; link_target = broadcast }
    ∷ []
unfolding own_step
beacon_on_the_air = refl

single_hop_on_the_air :
    (after three (by 0 0 (Calls (SendShb (record { class = 0; message = hi }))) ∷ [])).air
    ≡ record {
      pdu = pdu_of (shb (0 ∷ 0 ∷ 0 ∷ 0 ∷ []) hi);
      hops_left = 1;
      link_source = mac 1;
      link_target = broadcast;
    } ∷ []
unfolding own_step
single_hop_on_the_air = refl

-- numbers go up to 65535, and from there to 0
abbrev at_the_last_number : StationModel
at_the_last_number = record (new_station (address 1) here 64 8) { next_number = 65535 }

after_the_last_number_comes_the_first :
    (station_step at_the_last_number 0 (Own (SendGbc request))).station.next_number ≡ 0
unfolding own_step receive_step verdict known stations_at decision area_holds squared_distance
after_the_last_number_comes_the_first = refl

beacon_waits_three_seconds : Happens three (
    at 0 0 tick (Sent 0)
    ∷ at 0 2999 tick Quiet
    ∷ at 0 3000 tick (Sent 1)
    ∷ [])
unfolding own_step receive_step verdict known stations_at decision area_holds squared_distance
beacon_waits_three_seconds = refl

any_packet_of_its_own_makes_the_beacon_wait : Happens three (
    at 0 1000 gbc_hi (Sent 0)
    ∷ at 0 3999 tick Quiet
    ∷ at 0 4000 tick (Sent 1)
    ∷ [])
unfolding own_step receive_step verdict known stations_at decision area_holds squared_distance
any_packet_of_its_own_makes_the_beacon_wait = refl

relaying_makes_no_beacon_wait : Happens three (
    at 1 0 tick (Sent 0)
    ∷ at 0 1000 gbc_hi (Sent 1)
    ∷ at 1 1010 (Deliver 1) (Accepted None (Some 2))
    ∷ at 1 3000 tick (Sent 3)
    ∷ [])
unfolding own_step receive_step verdict known stations_at decision area_holds squared_distance
relaying_makes_no_beacon_wait = refl

jitter_and_moments_have_limits : Happens three (
    at 0 0 (Calls (Tick 751)) (Refused JitterRange)
    ∷ at 0 749 (Calls (Tick 750)) Quiet
    ∷ at 0 750 (Calls (Tick 750)) (Sent 0)
    ∷ at 0 (2 ^ 62 + 1) tick (Refused MomentTooLate)
    ∷ at 0 (2 ^ 62) tick (Sent 1)
    ∷ [])
unfolding own_step receive_step verdict known stations_at decision area_holds squared_distance
jitter_and_moments_have_limits = refl

ports_open_and_close_once : Happens three (
    at 0 0 open_port Opened
    ∷ at 0 0 open_port (Refused AlreadyOpen)
    ∷ at 0 0 (Calls (Close 2002)) Closed
    ∷ at 0 0 (Calls (Close 2002)) (Refused NotOpen)
    ∷ [])
unfolding own_step receive_step verdict known stations_at decision area_holds squared_distance
ports_open_and_close_once = refl

-- with 64 ports open, one of them is refused as open, and another for want of room
abbrev with_ports : List ℕ → StationModel
with_ports ports = record (new_station (address 1) here 64 8) { ports = ports }

abbrev ports_to : ℕ → List ℕ
ports_to zero = []
ports_to (suc n) = n ∷ ports_to n

one_of_64_ports_is_open : (station_step (with_ports (ports_to 64)) 0 (Own (Open 63))).answer
    ≡ Refused AlreadyOpen
unfolding own_step receive_step verdict known stations_at decision area_holds squared_distance
one_of_64_ports_is_open = refl

no_65th_port : (station_step (with_ports (ports_to 64)) 0 (Own (Open 64))).answer
    ≡ Refused PortsFull
unfolding own_step receive_step verdict known stations_at decision area_holds squared_distance
no_65th_port = refl

no_such_station_is_told_before_no_such_frame : Happens three (
    at 3 0 (Deliver 0) (Refused NoSuchStation)
    ∷ at 2 0 (Deliver 0) (Refused NoSuchFrame)
    ∷ at 3 0 tick (Refused NoSuchStation)
    ∷ [])
unfolding own_step receive_step verdict known stations_at decision area_holds squared_distance
no_such_station_is_told_before_no_such_frame = refl

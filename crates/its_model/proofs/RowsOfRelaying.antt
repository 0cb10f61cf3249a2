-- What is handed out and relayed: small worlds, evaluated.
use Rattle.std.proofs.Common.{◌≡◌, [], ◌∷◌, Some, None, true, false, refl}
use Rattle.std.specs.Prelude.{pos}
use Rattle.its_gnvalue.specs.Values.{broadcast}
use Rattle.its_geometry.specs.Area.{area_holds}
use Rattle.its_geometry.specs.Offsets.{squared_distance}
use Rattle.its_model.specs.History.{known}
use Rattle.its_model.specs.Stations.{stations_at}
use Rattle.its_model.specs.Decision.{decision}
use Rattle.its_model.specs.Packet.{Transmission}
use Rattle.its_model.specs.Packet.Body.{gbc}
use Rattle.its_model.specs.Calls.{Answer}
use Rattle.its_model.specs.Calls.OwnCall.{SendShb}
use Rattle.its_model.specs.Calls.Answer.{Moved, Opened, Sent, Ignored, Accepted}
use Rattle.its_model.specs.Calls.Why.{NotForMe, OwnSource, SenderMismatch, Duplicate}
use Rattle.its_model.specs.Calls.Call.{Receive}
use Rattle.its_model.specs.Station.{StationModel, new_station, verdict, beacon_of, shb_of, own_step}
use Rattle.its_model.specs.Station.{receive_step, station_step}
use Rattle.its_model.specs.World.What.{Calls, Deliver}
use Rattle.its_model.proofs.Scenes.{place, mac, address, here, three, second_far, hi, circle}
use Rattle.its_model.proofs.Scenes.{gbc_with_hops, gbc_hi, open_port, move, by, after, at, Happens}

-- A geobroadcast is handed out at its port and relayed; its source ignores the relayed frame.
sent_handed_and_relayed : Happens three (
    at 1 0 open_port Opened
    ∷ at 0 1000 gbc_hi (Sent 0)
    ∷ at 1 1010 (Deliver 0) (Accepted (Some hi) (Some 1))
    ∷ at 0 1011 (Deliver 1) (Ignored OwnSource)
    ∷ [])
unfolding own_step receive_step verdict known stations_at decision area_holds squared_distance
sent_handed_and_relayed = refl

-- The frames of that world: the packet as it was sent, and the same with one hop fewer from the
-- relayer.
abbrev first_frame : Transmission
first_frame =
    record {
      pdu = record {
        vector = record {
          address = address 1;
          timestamp = 0;
          place = here;
          accurate = false;
          speed =
              pos 0;
          heading = 0;
        };
        lifetime = 26;
        class = 0;
        mobile = true;
        max_hops = 10;
        body = gbc 0 (circle here 100) hi;
      };
      hops_left = 10;
      link_source = mac 1;
      link_target = broadcast;
    }

frames_on_the_air :
    (after three (by 1 0 open_port ∷ by 0 1000 gbc_hi ∷ by 1 1010 (Deliver 0) ∷ [])).air
    ≡ first_frame ∷ record first_frame { hops_left = 9; link_source = mac 2 } ∷ []
unfolding own_step receive_step verdict known stations_at decision area_holds squared_distance
frames_on_the_air = refl

one_hop_is_handed_out_and_not_relayed : Happens three (
    at 1 0 open_port Opened
    ∷ at 0 1000 (gbc_with_hops 1) (Sent 0)
    ∷ at 1 1010 (Deliver 0) (Accepted (Some hi) None)
    ∷ [])
unfolding own_step receive_step verdict known stations_at decision area_holds squared_distance
one_hop_is_handed_out_and_not_relayed = refl

port_not_open_and_still_relayed : Happens three (
    at 0 1000 gbc_hi (Sent 0)
    ∷ at 1 1010 (Deliver 0) (Accepted None (Some 1))
    ∷ [])
unfolding own_step receive_step verdict known stations_at decision area_holds squared_distance
port_not_open_and_still_relayed = refl

handed_out_once : Happens three (
    at 1 0 open_port Opened
    ∷ at 0 1000 gbc_hi (Sent 0)
    ∷ at 1 1010 (Deliver 0) (Accepted (Some hi) (Some 1))
    ∷ at 1 1011 (Deliver 0) (Ignored Duplicate)
    ∷ at 1 1012 (Deliver 0) (Ignored Duplicate)
    ∷ [])
unfolding own_step receive_step verdict known stations_at decision area_holds squared_distance
handed_out_once = refl

-- Accepted outside the area, it is a duplicate once the station is inside; but one that comes first
-- then is handed out.
moved_in_too_late : Happens second_far (
    at 1 0 open_port Opened
    ∷ at 0 1000 gbc_hi (Sent 0)
    ∷ at 1 1000 (Deliver 0) (Accepted None (Some 1))
    ∷ at 1 1500 (move (place (pos 449) (pos 0)) false) Moved
    ∷ at 1 1600 (Deliver 0) (Ignored Duplicate)
    ∷ [])
unfolding own_step receive_step verdict known stations_at decision area_holds squared_distance
moved_in_too_late = refl

moved_in_before : Happens second_far (
    at 1 0 open_port Opened
    ∷ at 0 1000 gbc_hi (Sent 0)
    ∷ at 1 1500 (move (place (pos 449) (pos 0)) false) Moved
    ∷ at 1 1600 (Deliver 0) (Accepted (Some hi) (Some 1))
    ∷ [])
unfolding own_step receive_step verdict known stations_at decision area_holds squared_distance
moved_in_before = refl

-- A station outside drops what comes from a sender whose accurate place is inside, by the entry
-- that this very packet made.
dropped_where_the_sender_is_inside : Happens second_far (
    at 1 0 open_port Opened
    ∷ at 0 500 (move here true) Moved
    ∷ at 0 1000 gbc_hi (Sent 0)
    ∷ at 1 1000 (Deliver 0) (Accepted None None)
    ∷ [])
unfolding own_step receive_step verdict known stations_at decision area_holds squared_distance
dropped_where_the_sender_is_inside = refl

relayed_where_the_senders_place_is_not_accurate : Happens second_far (
    at 1 0 open_port Opened
    ∷ at 0 500 (move here false) Moved
    ∷ at 0 1000 gbc_hi (Sent 0)
    ∷ at 1 1000 (Deliver 0) (Accepted None (Some 1))
    ∷ [])
unfolding own_step receive_step verdict known stations_at decision area_holds squared_distance
relayed_where_the_senders_place_is_not_accurate = refl

single_hop_is_handed_out_each_time : Happens three (
    at 1 0 open_port Opened
    ∷ at 0 1000 (Calls (SendShb (record { class = 0; message = hi }))) (Sent 0)
    ∷ at 1 1010 (Deliver 0) (Accepted (Some hi) None)
    ∷ at 1 1011 (Deliver 0) (Accepted (Some hi) None)
    ∷ [])
unfolding own_step receive_step verdict known stations_at decision area_holds squared_distance
single_hop_is_handed_out_each_time = refl

-- ---- which frames are ignored, and in which order that is judged

abbrev first_station : StationModel
first_station = new_station (address 1) here 64 8

abbrev second_station : StationModel
second_station = new_station (address 2) (place (pos 449) (pos 0)) 64 8

-- what the second station answers to a frame
abbrev answer_to : Transmission → Answer Transmission
answer_to t = (station_step second_station 0 (Receive t)).answer

to_another_station : answer_to (record (beacon_of first_station) { link_target = mac 3 })
    ≡ Ignored NotForMe
unfolding own_step receive_step verdict known stations_at decision area_holds squared_distance
to_another_station = refl

to_the_station_itself : answer_to (record (beacon_of first_station) { link_target = mac 2 })
    ≡ Accepted None None
unfolding own_step receive_step verdict known stations_at decision area_holds squared_distance
to_the_station_itself = refl

-- its own packet, to another station, from another sender
not_for_me_before_own_source : answer_to (record (beacon_of second_station) {
  link_target = mac 3;
  link_source = mac 3;
}) ≡ Ignored NotForMe
unfolding own_step receive_step verdict known stations_at decision area_holds squared_distance
not_for_me_before_own_source = refl

own_source_before_sender_mismatch : answer_to (record (beacon_of second_station) {
  link_source = mac 3;
}) ≡ Ignored OwnSource
unfolding own_step receive_step verdict known stations_at decision area_holds squared_distance
own_source_before_sender_mismatch = refl

single_hop_of_another_sender : answer_to
    (record (shb_of first_station (record { class = 0; message = hi })) { link_source = mac 3 })
    ≡ Ignored SenderMismatch
unfolding own_step receive_step verdict known stations_at decision area_holds squared_distance
single_hop_of_another_sender = refl

-- a beacon that comes from another link address than its source's
beacon_of_another_sender : answer_to (record (beacon_of first_station) { link_source = mac 3 })
    ≡ Ignored SenderMismatch
unfolding own_step receive_step verdict known stations_at decision area_holds squared_distance
beacon_of_another_sender = refl

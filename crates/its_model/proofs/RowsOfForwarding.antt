-- To whom a geobroadcast goes: decisions, evaluated.
use Rattle.std.proofs.Common.{◌≡◌, ℕ, List, Option, [], ◌∷◌, Some, None, Bool, true, false, refl}
use Rattle.std.specs.Prelude.{pos, negsuc}
use Rattle.its_gnvalue.specs.Values.{Position, broadcast}
use Rattle.its_geometry.specs.Area.{GeoArea, area_holds}
use Rattle.its_geometry.specs.Offsets.{squared_distance}
use Rattle.its_model.specs.History.{Reception, known}
use Rattle.its_model.specs.Stations.{stations_at}
use Rattle.its_model.specs.Decision.{Decision, decision}
use Rattle.its_model.specs.Decision.Decision.{Broadcast, To, Drop}
use Rattle.its_model.specs.Calls.{GbcRequest}
use Rattle.its_model.specs.Calls.OwnCall.{SendGbc}
use Rattle.its_model.specs.Station.{verdict, own_step, receive_step}
use Rattle.its_model.specs.World.{Config, default_remember}
use Rattle.its_model.specs.World.What.{Calls, Deliver}
use Rattle.its_model.proofs.Scenes.{place, mac, address, station, here, circle, request, tick, by}
use Rattle.its_model.proofs.Scenes.{after, targets}

-- Two neighbours are equally near to an area further north, and nearer than the sender: the one of
-- least address is taken while its session stands. Then it goes to all.
abbrev below_the_area : List Config
below_the_area =
    station 1 here 64 ∷ station 2 (place (pos 50) (pos 50000)) 64
    ∷ station 3 (place (negsuc 49) (pos 50000)) 64 ∷ []

abbrev far_centre : Position
far_centre = place (pos 0) (pos 100000)

abbrev far_request : GbcRequest
far_request = record request { area = circle far_centre 10 }

equally_near : squared_distance far_centre (place (pos 50) (pos 50000)) ≡ 3098038625
unfolding squared_distance
equally_near = refl

other_equally_near : squared_distance far_centre (place (negsuc 49) (pos 50000)) ≡ 3098038625
unfolding squared_distance
other_equally_near = refl

itself_further : squared_distance far_centre here ≡ 12392142400
unfolding squared_distance
itself_further = refl

toward_the_least_address_of_the_nearest : targets (after below_the_area (
    by 1 100 tick
    ∷ by 2 100 tick
    ∷ by 0 100 (Deliver 0)
    ∷ by 0 100 (Deliver 1)
    ∷ by 0 20099 (Calls (SendGbc far_request))
    ∷ by 0 20100 (Calls (SendGbc far_request))
    ∷ []))
    ≡ broadcast ∷ broadcast ∷ mac 2 ∷ broadcast ∷ []
unfolding own_step receive_step verdict known stations_at decision area_holds squared_distance
toward_the_least_address_of_the_nearest = refl

abbrev says : ℕ → Position → Bool → Option ℕ → Reception
says source where_it_is accurate number =
    record {
      moment = 1000;
      vector = record {
        address = source;
        timestamp = 0;
        place = where_it_is;
        accurate = accurate;
        speed =
            pos 0;
        heading = 0;
      };
      number = number;
    }

-- what is decided at moment 1000, by these packets
abbrev decided_by : List Reception → Position → GeoArea → Option ℕ → Decision
decided_by history own area sender =
    decision (stations_at default_remember 1000 history) own area sender

-- Of two live sources with the sender's MAC the one of least address is asked where it is; neither
-- is a neighbour.
sender_by_least_address : decided_by (says (address 1) here true (Some 0)
    ∷ says (mac 1) here false (Some 0) ∷ [])
    (place (pos 100000) (pos 0)) (circle here 100) (Some (mac 1)) ≡ Broadcast
unfolding known stations_at decision area_holds squared_distance
sender_by_least_address = refl

sender_by_least_address_inside : decided_by (says (address 1) here false (Some 0)
    ∷ says (mac 1) here true (Some 0) ∷ [])
    (place (pos 100000) (pos 0)) (circle here 100) (Some (mac 1)) ≡ Drop
unfolding known stations_at decision area_holds squared_distance
sender_by_least_address_inside = refl

-- What is equally far makes no progress.
no_progress : decided_by (says (address 2) (place (pos 0) (pos 200000)) true None ∷ []) here
    (circle far_centre 10) None ≡ Broadcast
unfolding known stations_at decision area_holds squared_distance
no_progress = refl

some_progress : decided_by (says (address 2) (place (pos 0) (pos 199000)) true None ∷ []) here
    (circle far_centre 10) None ≡ To (mac 2)
unfolding known stations_at decision area_holds squared_distance
some_progress = refl

-- one that is nearer but no neighbour isn't taken
no_neighbour : decided_by (says (address 2) (place (pos 0) (pos 199000)) true (Some 0) ∷ []) here
    (circle far_centre 10) None ≡ Broadcast
unfolding known stations_at decision area_holds squared_distance
no_neighbour = refl

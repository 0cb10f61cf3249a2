-- When a station forgets, and when it has no room: small worlds, evaluated.
use Rattle.std.proofs.Common.{◌≡◌, ℕ, List, [], ◌∷◌, Some, None, false, refl}
use Rattle.std.specs.Prelude.{pos}
use Rattle.its_geometry.specs.Area.{area_holds}
use Rattle.its_geometry.specs.Offsets.{squared_distance}
use Rattle.its_gnvalue.specs.Values.{PositionVector}
use Rattle.its_model.specs.History.{Reception, current_vector, known}
use Rattle.its_model.specs.Stations.{stations_at}
use Rattle.its_model.specs.Decision.{decision}
use Rattle.its_model.specs.Calls.Answer.{Opened, Sent, Ignored, Accepted, Refused}
use Rattle.its_model.specs.Calls.Why.{Duplicate}
use Rattle.its_model.specs.Calls.Refusal.{TableFull}
use Rattle.its_model.specs.Station.{verdict, own_step, receive_step}
use Rattle.its_model.specs.World.{Config}
use Rattle.its_model.specs.World.What.{Deliver}
use Rattle.its_model.proofs.Scenes.{address, place, station, here, three, hi, gbc_hi, open_port}
use Rattle.its_model.proofs.Scenes.{tick, at, Happens}

ninth_makes_the_first_forgotten : Happens three (
    at 1 0 open_port Opened
    ∷ at 0 1000 gbc_hi (Sent 0)
    ∷ at 0 1000 gbc_hi (Sent 1)
    ∷ at 0 1000 gbc_hi (Sent 2)
    ∷ at 0 1000 gbc_hi (Sent 3)
    ∷ at 0 1000 gbc_hi (Sent 4)
    ∷ at 0 1000 gbc_hi (Sent 5)
    ∷ at 0 1000 gbc_hi (Sent 6)
    ∷ at 0 1000 gbc_hi (Sent 7)
    ∷ at 0 1000 gbc_hi (Sent 8)
    ∷ at 1 1010 (Deliver 0) (Accepted (Some hi) (Some 9))
    ∷ at 1 1010 (Deliver 1) (Accepted (Some hi) (Some 10))
    ∷ at 1 1010 (Deliver 2) (Accepted (Some hi) (Some 11))
    ∷ at 1 1010 (Deliver 3) (Accepted (Some hi) (Some 12))
    ∷ at 1 1010 (Deliver 4) (Accepted (Some hi) (Some 13))
    ∷ at 1 1010 (Deliver 5) (Accepted (Some hi) (Some 14))
    ∷ at 1 1010 (Deliver 6) (Accepted (Some hi) (Some 15))
    ∷ at 1 1010 (Deliver 7) (Accepted (Some hi) (Some 16))
    ∷ at 1 1010 (Deliver 8) (Accepted (Some hi) (Some 17))
    ∷ at 1 1011 (Deliver 0) (Accepted (Some hi) (Some 18))
    ∷ [])
unfolding own_step receive_step verdict known stations_at decision area_holds squared_distance
ninth_makes_the_first_forgotten = refl

eighth_does_not : Happens three (
    at 1 0 open_port Opened
    ∷ at 0 1000 gbc_hi (Sent 0)
    ∷ at 0 1000 gbc_hi (Sent 1)
    ∷ at 0 1000 gbc_hi (Sent 2)
    ∷ at 0 1000 gbc_hi (Sent 3)
    ∷ at 0 1000 gbc_hi (Sent 4)
    ∷ at 0 1000 gbc_hi (Sent 5)
    ∷ at 0 1000 gbc_hi (Sent 6)
    ∷ at 0 1000 gbc_hi (Sent 7)
    ∷ at 1 1010 (Deliver 0) (Accepted (Some hi) (Some 8))
    ∷ at 1 1010 (Deliver 1) (Accepted (Some hi) (Some 9))
    ∷ at 1 1010 (Deliver 2) (Accepted (Some hi) (Some 10))
    ∷ at 1 1010 (Deliver 3) (Accepted (Some hi) (Some 11))
    ∷ at 1 1010 (Deliver 4) (Accepted (Some hi) (Some 12))
    ∷ at 1 1010 (Deliver 5) (Accepted (Some hi) (Some 13))
    ∷ at 1 1010 (Deliver 6) (Accepted (Some hi) (Some 14))
    ∷ at 1 1010 (Deliver 7) (Accepted (Some hi) (Some 15))
    ∷ at 1 1011 (Deliver 0) (Ignored Duplicate)
    ∷ [])
unfolding own_step receive_step verdict known stations_at decision area_holds squared_distance
eighth_does_not = refl

remembered_to_the_last_millisecond : Happens three (
    at 1 0 open_port Opened
    ∷ at 0 1000 gbc_hi (Sent 0)
    ∷ at 1 1000 (Deliver 0) (Accepted (Some hi) (Some 1))
    ∷ at 1 20999 (Deliver 0) (Ignored Duplicate)
    ∷ [])
unfolding own_step receive_step verdict known stations_at decision area_holds squared_distance
remembered_to_the_last_millisecond = refl

-- a duplicate refreshes nothing
forgotten_with_its_session : Happens three (
    at 1 0 open_port Opened
    ∷ at 0 1000 gbc_hi (Sent 0)
    ∷ at 1 1000 (Deliver 0) (Accepted (Some hi) (Some 1))
    ∷ at 1 20999 (Deliver 0) (Ignored Duplicate)
    ∷ at 1 21000 (Deliver 0) (Accepted (Some hi) (Some 2))
    ∷ [])
unfolding own_step receive_step verdict known stations_at decision area_holds squared_distance
forgotten_with_its_session = refl

beacon_keeps_the_session : Happens three (
    at 1 0 open_port Opened
    ∷ at 0 1000 gbc_hi (Sent 0)
    ∷ at 1 1000 (Deliver 0) (Accepted (Some hi) (Some 1))
    ∷ at 0 11000 tick (Sent 2)
    ∷ at 1 11000 (Deliver 2) (Accepted None None)
    ∷ at 1 20999 (Deliver 0) (Ignored Duplicate)
    ∷ at 1 21000 (Deliver 0) (Ignored Duplicate)
    ∷ [])
unfolding own_step receive_step verdict known stations_at decision area_holds squared_distance
beacon_keeps_the_session = refl

abbrev second_small : List Config
second_small =
    station 1 here 64 ∷ station 2 (place (pos 449) (pos 0)) 1
    ∷ station 3 (place (pos 0) (pos 449)) 64 ∷ []

-- A duplicate is told before a full table; and a refused beacon is accepted once the other source
-- has gone.
no_room_until_the_other_is_gone : Happens second_small (
    at 0 1000 gbc_hi (Sent 0)
    ∷ at 1 1000 (Deliver 0) (Accepted None (Some 1))
    ∷ at 2 2000 tick (Sent 2)
    ∷ at 1 2000 (Deliver 2) (Refused TableFull)
    ∷ at 1 2001 (Deliver 0) (Ignored Duplicate)
    ∷ at 1 21000 (Deliver 2) (Accepted None None)
    ∷ [])
unfolding own_step receive_step verdict known stations_at decision area_holds squared_distance
no_room_until_the_other_is_gone = refl

-- each source has its own numbers
number_of_another_source : Happens three (
    at 0 1000 gbc_hi (Sent 0)
    ∷ at 2 1000 gbc_hi (Sent 1)
    ∷ at 1 1010 (Deliver 0) (Accepted None (Some 2))
    ∷ at 1 1010 (Deliver 1) (Accepted None (Some 3))
    ∷ [])
unfolding own_step receive_step verdict known stations_at decision area_holds squared_distance
number_of_another_source = refl

-- a live source is accepted by a full table
full_table_takes_a_live_source : Happens second_small (
    at 0 1000 gbc_hi (Sent 0)
    ∷ at 1 1000 (Deliver 0) (Accepted None (Some 1))
    ∷ at 0 1001 gbc_hi (Sent 2)
    ∷ at 1 1001 (Deliver 2) (Accepted None (Some 3))
    ∷ [])
unfolding own_step receive_step verdict known stations_at decision area_holds squared_distance
full_table_takes_a_live_source = refl

-- Of the vectors of a session the one of the newest timestamp is current, whichever came last.
abbrev vector_of : ℕ → ℕ → PositionVector
vector_of timestamp heading =
    record {
      address = address 1;
      timestamp = timestamp;
      place = here;
      accurate = false;
      speed = pos 0;
      heading = heading;
    }

abbrev heard : ℕ → PositionVector → Reception
heard moment vector = record { moment = moment; vector = vector; number = None }

newer_vector_is_taken : current_vector (address 1) 30 (heard 20 (vector_of 2 7)
    ∷ heard 10 (vector_of 1 5) ∷ []) ≡ Some (vector_of 2 7)
newer_vector_is_taken = refl

older_vector_is_not : current_vector (address 1) 30 (heard 20 (vector_of 1 5)
    ∷ heard 10 (vector_of 2 7) ∷ []) ≡ Some (vector_of 2 7)
older_vector_is_not = refl

equally_old_vector_is_not : current_vector (address 1) 30 (heard 20 (vector_of 1 5)
    ∷ heard 10 (vector_of 1 7) ∷ []) ≡ Some (vector_of 1 7)
equally_old_vector_is_not = refl

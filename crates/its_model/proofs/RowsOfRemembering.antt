-- How many numbers a station remembers: small worlds, evaluated.
use Rattle.std.proofs.Common.{ℕ, List, [], ◌∷◌, Some, refl}
use Rattle.std.specs.Prelude.{pos}
use Rattle.its_geometry.specs.Area.{area_holds}
use Rattle.its_geometry.specs.Offsets.{squared_distance}
use Rattle.its_model.specs.History.{known}
use Rattle.its_model.specs.Stations.{stations_at}
use Rattle.its_model.specs.Decision.{decision}
use Rattle.its_model.specs.Calls.Answer.{Opened, Sent, Ignored, Accepted}
use Rattle.its_model.specs.Calls.Why.{Duplicate}
use Rattle.its_model.specs.Station.{verdict, own_step, receive_step}
use Rattle.its_model.specs.World.{Config}
use Rattle.its_model.specs.World.What.{Deliver}
use Rattle.its_model.proofs.Scenes.{place, station, here, hi, gbc_hi, open_port, at, Happens}

-- the second one remembers so many numbers
abbrev second_remembers : ℕ → List Config
second_remembers remember =
    station 1 here 64 ∷ record (station 2 (place (pos 449) (pos 0)) 64) { remember = remember } ∷ []

one_number_is_outlived_by_one : Happens (second_remembers 1) (
    at 1 0 open_port Opened
    ∷ at 0 1000 gbc_hi (Sent 0)
    ∷ at 0 1000 gbc_hi (Sent 1)
    ∷ at 1 1010 (Deliver 0) (Accepted (Some hi) (Some 2))
    ∷ at 1 1010 (Deliver 1) (Accepted (Some hi) (Some 3))
    ∷ at 1 1010 (Deliver 0) (Accepted (Some hi) (Some 4))
    ∷ [])
unfolding own_step receive_step verdict known stations_at decision area_holds squared_distance
one_number_is_outlived_by_one = refl

two_numbers_are_not : Happens (second_remembers 2) (
    at 1 0 open_port Opened
    ∷ at 0 1000 gbc_hi (Sent 0)
    ∷ at 0 1000 gbc_hi (Sent 1)
    ∷ at 1 1010 (Deliver 0) (Accepted (Some hi) (Some 2))
    ∷ at 1 1010 (Deliver 1) (Accepted (Some hi) (Some 3))
    ∷ at 1 1010 (Deliver 0) (Ignored Duplicate)
    ∷ [])
unfolding own_step receive_step verdict known stations_at decision area_holds squared_distance
two_numbers_are_not = refl

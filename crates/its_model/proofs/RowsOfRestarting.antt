-- What a restart leaves: small worlds, evaluated.
use Rattle.std.proofs.Common.{[], ◌∷◌, Some, None, false, refl}
use Rattle.std.specs.Prelude.{pos}
use Rattle.its_geometry.specs.Area.{area_holds}
use Rattle.its_geometry.specs.Offsets.{squared_distance}
use Rattle.its_model.specs.History.{known}
use Rattle.its_model.specs.Stations.{stations_at}
use Rattle.its_model.specs.Decision.{decision}
use Rattle.its_model.specs.Calls.Answer.{Moved, Opened, Restarted, Quiet, Sent, Ignored, Accepted}
use Rattle.its_model.specs.Calls.Answer.{Refused}
use Rattle.its_model.specs.Calls.Why.{Duplicate}
use Rattle.its_model.specs.Calls.Refusal.{MomentEarlier}
use Rattle.its_model.specs.Station.{verdict, own_step, receive_step}
use Rattle.its_model.specs.World.What.{Deliver}
use Rattle.its_model.proofs.Scenes.{place, three, second_far, hi, gbc_hi, gac_hi, open_port}
use Rattle.its_model.proofs.Scenes.{restart, move, tick, at, Happens}

-- What it had accepted it accepts again, and its ports have to be opened again.
restarted_it_hears_anew : Happens three (
    at 1 0 open_port Opened
    ∷ at 0 1000 gbc_hi (Sent 0)
    ∷ at 1 1010 (Deliver 0) (Accepted (Some hi) (Some 1))
    ∷ at 1 1011 (restart 0) Restarted
    ∷ at 1 1012 open_port Opened
    ∷ at 1 1013 (Deliver 0) (Accepted (Some hi) (Some 2))
    ∷ [])
unfolding own_step receive_step verdict known stations_at decision area_holds squared_distance
restarted_it_hears_anew = refl

restarted_its_ports_are_closed : Happens three (
    at 1 0 open_port Opened
    ∷ at 0 1000 gbc_hi (Sent 0)
    ∷ at 1 1010 (Deliver 0) (Accepted (Some hi) (Some 1))
    ∷ at 1 1011 (restart 0) Restarted
    ∷ at 1 1013 (Deliver 0) (Accepted None (Some 2))
    ∷ [])
unfolding own_step receive_step verdict known stations_at decision area_holds squared_distance
restarted_its_ports_are_closed = refl

-- A sender that restarts from a number that others remember is taken for its own duplicate, and
-- from another one it is heard.
number_that_was_sent_before : Happens three (
    at 1 0 open_port Opened
    ∷ at 0 1000 gbc_hi (Sent 0)
    ∷ at 1 1010 (Deliver 0) (Accepted (Some hi) (Some 1))
    ∷ at 0 1020 (restart 0) Restarted
    ∷ at 0 1030 gbc_hi (Sent 2)
    ∷ at 1 1040 (Deliver 2) (Ignored Duplicate)
    ∷ [])
unfolding own_step receive_step verdict known stations_at decision area_holds squared_distance
number_that_was_sent_before = refl

number_that_was_not : Happens three (
    at 1 0 open_port Opened
    ∷ at 0 1000 gbc_hi (Sent 0)
    ∷ at 1 1010 (Deliver 0) (Accepted (Some hi) (Some 1))
    ∷ at 0 1020 (restart 7) Restarted
    ∷ at 0 1030 gbc_hi (Sent 2)
    ∷ at 1 1040 (Deliver 2) (Accepted (Some hi) (Some 3))
    ∷ [])
unfolding own_step receive_step verdict known stations_at decision area_holds squared_distance
number_that_was_not = refl

refused_restart_changes_nothing : Happens three (
    at 1 0 open_port Opened
    ∷ at 0 1000 gbc_hi (Sent 0)
    ∷ at 1 1010 (Deliver 0) (Accepted (Some hi) (Some 1))
    ∷ at 1 1009 (restart 0) (Refused MomentEarlier)
    ∷ at 1 1011 (Deliver 0) (Ignored Duplicate)
    ∷ [])
unfolding own_step receive_step verdict known stations_at decision area_holds squared_distance
refused_restart_changes_nothing = refl

restarted_it_stands_where_it_stood : Happens second_far (
    at 0 1000 gbc_hi (Sent 0)
    ∷ at 1 1001 (move (place (pos 449) (pos 0)) false) Moved
    ∷ at 1 1002 (restart 0) Restarted
    ∷ at 1 1003 open_port Opened
    ∷ at 1 1010 (Deliver 0) (Accepted (Some hi) (Some 1))
    ∷ [])
unfolding own_step receive_step verdict known stations_at decision area_holds squared_distance
restarted_it_stands_where_it_stood = refl

restarted_its_beacon_is_due : Happens three (
    at 0 0 tick (Sent 0)
    ∷ at 0 100 tick Quiet
    ∷ at 0 100 (restart 0) Restarted
    ∷ at 0 100 tick (Sent 1)
    ∷ [])
unfolding own_step receive_step verdict known stations_at decision area_holds squared_distance
restarted_its_beacon_is_due = refl

-- A geoanycast with the number of a geobroadcast of its source is a duplicate.
numbers_of_both_kinds_are_one_list : Happens three (
    at 0 1000 gbc_hi (Sent 0)
    ∷ at 1 1010 (Deliver 0) (Accepted None (Some 1))
    ∷ at 0 1020 (restart 0) Restarted
    ∷ at 0 1030 gac_hi (Sent 2)
    ∷ at 1 1040 (Deliver 2) (Ignored Duplicate)
    ∷ [])
unfolding own_step receive_step verdict known stations_at decision area_holds squared_distance
numbers_of_both_kinds_are_one_list = refl

-- What becomes of a geoanycast: small worlds, evaluated.
use Rattle.std.proofs.Common.{◌≡◌, [], ◌∷◌, map, Some, None, refl}
use Rattle.its_geometry.specs.Area.{area_holds}
use Rattle.its_geometry.specs.Offsets.{squared_distance}
use Rattle.its_model.specs.Packet.{number_in}
use Rattle.its_model.specs.History.{known}
use Rattle.its_model.specs.Stations.{stations_at}
use Rattle.its_model.specs.Decision.{decision}
use Rattle.its_model.specs.Calls.Answer.{Opened, Sent, Ignored, Accepted}
use Rattle.its_model.specs.Calls.Why.{Duplicate}
use Rattle.its_model.specs.Station.{verdict, own_step, receive_step}
use Rattle.its_model.specs.World.What.{Deliver}
use Rattle.its_model.proofs.Scenes.{three, second_far, hi, gbc_hi, gac_hi, open_port, by, after, at}
use Rattle.its_model.proofs.Scenes.{Happens}

-- Inside its area it stops, whether the port is open or not; outside it goes on as a geobroadcast
-- does.
handed_out_and_not_relayed : Happens three (
    at 1 0 open_port Opened
    ∷ at 0 1000 gac_hi (Sent 0)
    ∷ at 1 1010 (Deliver 0) (Accepted (Some hi) None)
    ∷ at 1 1011 (Deliver 0) (Ignored Duplicate)
    ∷ [])
unfolding own_step receive_step verdict known stations_at decision area_holds squared_distance
handed_out_and_not_relayed = refl

not_relayed_with_its_port_closed : Happens three (
    at 0 1000 gac_hi (Sent 0)
    ∷ at 1 1010 (Deliver 0) (Accepted None None)
    ∷ [])
unfolding own_step receive_step verdict known stations_at decision area_holds squared_distance
not_relayed_with_its_port_closed = refl

relayed_outside : Happens second_far (
    at 1 0 open_port Opened
    ∷ at 0 1000 gac_hi (Sent 0)
    ∷ at 1 1000 (Deliver 0) (Accepted None (Some 1))
    ∷ [])
unfolding own_step receive_step verdict known stations_at decision area_holds squared_distance
relayed_outside = refl

-- both kinds take their numbers from one count
one_count_for_both : map (λ t. number_in t.pdu.body)
    (after three (by 0 1000 gbc_hi ∷ by 0 1000 gac_hi ∷ by 0 1000 gbc_hi ∷ [])).air
    ≡ Some 0 ∷ Some 1 ∷ Some 2 ∷ []
unfolding own_step receive_step verdict known stations_at decision area_holds squared_distance
one_count_for_both = refl

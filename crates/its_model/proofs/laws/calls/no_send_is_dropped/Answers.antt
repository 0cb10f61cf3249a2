use Rattle.std.proofs.Common.{◌≢◌, List, Bool, true, false, cond, Option, Some, None}
use Rattle.its_gnvalue.specs.Values.{Position}
use Rattle.its_geometry.specs.Area.{GeoArea, area_holds}
use Rattle.its_geometry.specs.Offsets.{squared_distance}
use Rattle.its_model.specs.History.{Known}
use Rattle.its_model.specs.Decision.{next_hop, toward, decision}
use Rattle.its_model.specs.Decision.Decision.{Broadcast, Drop}
use Rattle.its_model.proofs.laws.calls.no_send_is_dropped.Goals as goal

goes_somewhere : (o : Option Known) → toward o ≢ Drop
goes_somewhere None e = cc
goes_somewhere (Some k) e = cc

either : (b : Bool) (o : Option Known) → cond b Broadcast (toward o) ≢ Drop
either true o = λ e. cc
either false o = goes_somewhere o

not_dropped : (stations : List Known) (own : Position) (area : GeoArea)
    → decision stations own area None ≢ Drop
unfolding decision
not_dropped stations own area =
    either (area_holds area own) (next_hop area.centre (squared_distance area.centre own) stations)

pub returns : goal.returns
returns c = not_dropped

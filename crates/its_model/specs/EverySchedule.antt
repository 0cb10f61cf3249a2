-- All that holds after every schedule.
use Rattle.std.specs.Prelude.{List}
use Rattle.its_model.specs.World.{WorldModel, Config}
use Rattle.its_model.specs.Schedules.{HandedAsSent, RelaysAreFaithful, AtMostOnce}
use Rattle.its_model.specs.Schedules.{FloodingIsBounded, AnycastStopsInside, FramesNameTheirSource}
use Rattle.its_model.specs.Reach.{IsAcceptedWhereItComes, ReachesWhereDelivered}

-- what holds of every run's world
pub record HoldsOfSchedules (configs : List Config) (w : WorldModel) : Type 0 where
  pub handed_as_sent : HandedAsSent configs w
  pub relays_are_faithful : RelaysAreFaithful configs w
  pub at_most_once : AtMostOnce configs w
  pub flooding_is_bounded : FloodingIsBounded configs w
  pub anycast_stops_inside : AnycastStopsInside configs w
  pub frames_name_their_source : FramesNameTheirSource configs w
  pub accepted_where_it_comes : IsAcceptedWhereItComes configs w
  pub reaches_where_delivered : ReachesWhereDelivered configs w

-- What the log of an air's run shows: what the law on chains of stations asks of a run.
use Rattle.std.specs.Prelude.{◌≡◌, ◌≢◌, ℕ, ◌+◌, ◌*◌, ◌≤◌, List, [], ◌∷◌, ◌++◌, length, Some, true}
use Rattle.std.specs.Prelude.{false, slice_get}
use Rattle.its_model.specs.World.{Config, LogLine, WorldModel, opening, world_run}
use Rattle.its_model.specs.World.What.{Deliver}
use Rattle.its_geometry.specs.Area.{area_holds}
use Rattle.its_model.specs.Chain.{MomentsNeverFall as NeverFalls, IsHeardBy, HaveOwnMids}
use Rattle.its_model.specs.Log.{has_restarted}
use Rattle.its_model.specs.Reach.{has_moved, Geobroadcast, AreReached, area_sends_of}
use Rattle.its_model.specs.Station.{last_moment}
use Rattle.sim_air_model.specs.Heard.{air_at, IsPresent}
use Rattle.sim_air_model.specs.Range.{is_within}
use Rattle.sim_air_model.specs.Timetable.{Rules, IsOver, Filed}
use Rattle.sim_air_model.specs.Timetable.Filed.{Happens, Leaves}

-- the world after so many steps of an air
abbrev pub world_at : Rules → List Config → List Filed → ℕ → WorldModel
world_at r configs file n = world_run (opening configs) (air_at r configs file n).done

-- No line of its log has an earlier moment than one before it.
abbrev pub LogsNeverFall : Rules → List Config → List Filed → Type 0
LogsNeverFall r configs file = (n : ℕ) → NeverFalls (world_at r configs file n).log

-- A station is there all along: it is present whenever a step begins.
abbrev pub IsThere : Rules → List Config → List Filed → ℕ → Type 0
IsThere r configs file station = (n : ℕ) → IsPresent r configs file n station

-- Stations i and j are two, one began in range of the other, and neither ever moved.
pub record AreInRange (r : Rules) (configs : List Config) (w : WorldModel)
    (i j : ℕ) : Type 0 where
  pub giver : Config
  pub is_giver : slice_get configs i ≡ Some giver
  pub giver_stands : has_moved i w.log ≡ false
  pub receiver : Config
  pub is_receiver : slice_get configs j ≡ Some receiver
  pub receiver_stands : has_moved j w.log ≡ false
  pub other : j ≢ i
  pub near : is_within r.range giver.place receiver.place ≡ true

-- In a run that is over and loses nothing, each frame that a station gave is delivered to each
-- other one in range, the delay after, where both are there all along, neither ever moved and that
-- isn't past the last moment.
abbrev pub StationsInRangeHear : Rules → List Config → List Filed → Type 0
StationsInRangeHear r configs file =
    (end i j : ℕ) → r.loss ≡ 0 → IsOver r (air_at r configs file end)
    → IsThere r configs file i → IsThere r configs file j
    → AreInRange r configs (world_at r configs file end) i j
    → IsHeardBy (world_at r configs file end) r.delay r.until i j

-- The file has no delivery of its own.
abbrev pub DeliversNone : List Filed → Type 0
DeliversNone [] = Unit {0}
DeliversNone (Happens e ∷ file) = ((k : ℕ) → e.what ≢ Deliver k) × DeliversNone file
DeliversNone (Leaves station moment ∷ file) = DeliversNone file

-- Then frames are delivered in the order in which they were given: no delivery is of an earlier
-- frame than one before it.
abbrev pub FramesComeInOrder : Rules → List Config → List Filed → Type 0
FramesComeInOrder r configs file =
    DeliversNone file → (n : ℕ)
    (later between older : List LogLine) (first second : LogLine) (k m : ℕ)
    → (world_at r configs file n).log ≡ later ++ second ∷ (between ++ first ∷ older)
    → first.event.what ≡ Deliver k → second.event.what ≡ Deliver m → k ≤ m

-- From station i, which began inside the area of a geobroadcast, it comes to station j, another
-- than its sender: they are in range, never moved, and j has room for as many sources as there are
-- stations.
pub record IsNextInside (r : Rules) (configs : List Config) (w : WorldModel) (g : Geobroadcast w)
    (i j : ℕ) : Type 0 where
  pub in_range : AreInRange r configs w i j
  pub inside : area_holds g.request.area in_range.giver.place ≡ true
  pub room : length configs ≤ in_range.receiver.capacity
  pub not_sender : j ≢ g.line.event.station

-- so from station i to the first of these, and from each to the next
abbrev pub AreNextInside : (r : Rules) (configs : List Config) (w : WorldModel) → Geobroadcast w
    → ℕ → List ℕ → Type 0
AreNextInside r configs w g i [] = Unit {0}
AreNextInside r configs w g i (j ∷ chain) =
    IsNextInside r configs w g i j × AreNextInside r configs w g j chain

-- these stations are there all along
abbrev pub AreThere : Rules → List Config → List Filed → List ℕ → Type 0
AreThere r configs file [] = Unit {0}
AreThere r configs file (j ∷ chain) = IsThere r configs file j × AreThere r configs file chain

-- In a run that is over and loses nothing, of a file that delivers nothing by itself, a
-- geobroadcast over as many hops as such a chain from its sender has links reaches the n-th of the
-- chain n delays after it was sent, at the latest, where that isn't past the last moment and its
-- sender and the chain are there all along. No two stations share a MID; and its sender never
-- restarted, and sent no more packets for areas than there are numbers.
abbrev pub ReachesInAir : Rules → List Config → List Filed → Type 0
ReachesInAir r configs file =
    (end : ℕ) (g : Geobroadcast (world_at r configs file end)) (chain : List ℕ)
    → DeliversNone file → r.loss ≡ 0 → IsOver r (air_at r configs file end)
    → r.until ≤ last_moment
    → HaveOwnMids configs
    → has_restarted g.line.event.station (world_at r configs file end).log ≡ false
    → area_sends_of g.line.event.station (world_at r configs file end).log ≤ 65536
    → AreThere r configs file (g.line.event.station ∷ chain)
    → AreNextInside r configs (world_at r configs file end) g g.line.event.station chain
    → length chain ≤ g.request.max_hops
    → g.line.event.moment + length chain * r.delay ≤ r.until
    → AreReached configs (world_at r configs file end) g r.delay g.line.event.moment chain

-- Where stations stand still and all that they give is delivered, a geobroadcast reaches all that a
-- chain links with its sender: what a run of an air without loss has to show of its log.
use Rattle.std.specs.Prelude.{◌≡◌, ◌≢◌, ℕ, ◌+◌, ◌*◌, ◌≤◌, List, [], ◌∷◌, ◌++◌, length, Some}
use Rattle.std.specs.Prelude.{false, slice_get}
use Rattle.its_gnvalue.specs.Values.{mid_of}
use Rattle.its_model.specs.Station.{last_moment}
use Rattle.its_model.specs.World.{LogLine, WorldModel, Config, frame_of}
use Rattle.its_model.specs.World.What.{Deliver}
use Rattle.its_model.specs.Log.{has_restarted}
use Rattle.its_model.specs.Reach.{Geobroadcast, HasOwnAddress, ComesInOrder, AreReached}
use Rattle.its_model.specs.Reach.{StaysInside, area_sends_of}

-- No two of these stations have the same MID.
abbrev pub HaveOwnMids : List Config → Type 0
HaveOwnMids configs =
    (i j : ℕ) (one other : Config)
    → slice_get configs i ≡ Some one → slice_get configs j ≡ Some other
    → mid_of one.address ≡ mid_of other.address → i ≡ j

-- Then each has an address of its own.
abbrev pub AddressesAreOwn : List Config → Type 0
AddressesAreOwn configs = HaveOwnMids configs → (i : ℕ) → HasOwnAddress configs i

-- No line has an earlier moment than one before it.
abbrev pub MomentsNeverFall : List LogLine → Type 0
MomentsNeverFall log =
    (later between older : List LogLine) (first second : LogLine)
    → log ≡ later ++ second ∷ (between ++ first ∷ older)
    → first.event.moment ≤ second.event.moment

-- by a line after these frame k was delivered to station j at this moment
pub record IsDelivered (w : WorldModel) (since : List LogLine) (j k moment : ℕ) : Type 0 where
  pub later : List LogLine
  pub line : LogLine
  pub between : List LogLine
  pub split : w.log ≡ later ++ line ∷ (between ++ since)
  pub event : line.event ≡ record { station = j; moment = moment; what = Deliver k }

-- Each frame that station i gave, a delay before the end or earlier, was delivered to station j just
-- a delay later.
abbrev pub IsHeardBy : (w : WorldModel) → (delay end i j : ℕ) → Type 0
IsHeardBy w delay end i j =
    (later before : List LogLine) (line : LogLine) (k : ℕ)
    → w.log ≡ later ++ line ∷ before
    → line.event.station ≡ i → frame_of line.entry ≡ Some k → line.event.moment + delay ≤ end
    → IsDelivered w (line ∷ before) j k (line.event.moment + delay)

-- Station i stays inside; and station j, another than the sender, hears it and has room for as many
-- sources as there are stations.
pub record IsHeardFromInside (configs : List Config) (w : WorldModel) (g : Geobroadcast w)
    (delay end i j : ℕ) : Type 0 where
  pub giver : StaysInside configs w g.request.area i
  pub receiver : Config
  pub configured : slice_get configs j ≡ Some receiver
  pub room : length configs ≤ receiver.capacity
  pub other : j ≢ g.line.event.station
  pub heard : IsHeardBy w delay end i j

-- the first of these hears station i so, and each next one the one before it
abbrev pub AreHeardFromInside : (configs : List Config) (w : WorldModel) → Geobroadcast w
    → (delay end i : ℕ) → List ℕ → Type 0
AreHeardFromInside configs w g delay end i [] = Unit {0}
AreHeardFromInside configs w g delay end i (j ∷ chain) =
    IsHeardFromInside configs w g delay end i j
    × AreHeardFromInside configs w g delay end j chain

-- What has to hold of the whole run: no two stations share a MID; the sender never restarted, and
-- sent no more packets for areas than there are numbers; moments never fell; and no frame of the
-- geobroadcast overtook another.
pub record IsCarried (configs : List Config) (w : WorldModel) (g : Geobroadcast w) : Type 0 where
  pub apart : HaveOwnMids configs
  pub never_restarted : has_restarted g.line.event.station w.log ≡ false
  pub few : area_sends_of g.line.event.station w.log ≤ 65536
  pub never_fell : MomentsNeverFall w.log
  pub in_order : ComesInOrder w g

-- Then it reaches each station of a chain that has no more links than it has hops: the n-th one n
-- delays after it was sent, at the latest, where the run goes on so long.
abbrev pub ChainsReach : List Config → WorldModel → Type 0
ChainsReach configs w =
    (g : Geobroadcast w) (delay end : ℕ) (chain : List ℕ)
    → IsCarried configs w g
    → AreHeardFromInside configs w g delay end g.line.event.station chain
    → length chain ≤ g.request.max_hops
    → g.line.event.moment + length chain * delay ≤ end → end ≤ last_moment
    → AreReached configs w g delay g.line.event.moment chain

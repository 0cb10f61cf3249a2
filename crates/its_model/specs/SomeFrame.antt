-- A packet for an area also reaches where a station comes by it from any station: each station of a
-- path need not receive the frame of the one before, if it receives some frame of the packet in time.
use Rattle.std.specs.Prelude.{◌≡◌, ◌≢◌, ℕ, ◌+◌, List, [], ◌∷◌, Some, slice_get}
use Rattle.its_model.specs.Packet.{Transmission, AreaKind}
use Rattle.its_model.specs.World.{LogLine, WorldModel, Config}
use Rattle.its_model.specs.Reach.{AreaSend, IsFrameOf, HasOwnAddress, HasOwnNumber, ComesBy, IsFor}
use Rattle.its_model.specs.Reach.{CameTo, AreReached}

-- some frame of it is for station j, and came to it at this moment at the latest
pub record SomeFrameComes {kind : AreaKind} (w : WorldModel) (g : AreaSend kind w)
    (receiver : Config) (j latest : ℕ) : Type 0 where
  pub frame : ℕ
  pub packet : Transmission
  pub of_send : IsFrameOf w g frame
  pub in_air : slice_get w.air frame ≡ Some packet
  pub is_for : IsFor receiver packet
  pub comes : CameTo w j frame latest

-- From station i it leads to station j, another than its sender: when i comes by it, some frame of
-- it, of whichever station, comes to j within the delay, in milliseconds.
pub record IsLedTo {kind : AreaKind} (configs : List Config) (w : WorldModel)
    (g : AreaSend kind w) (delay i j : ℕ) : Type 0 where
  pub receiver : Config
  pub configured : slice_get configs j ≡ Some receiver
  pub other : j ≢ g.line.event.station
  pub comes : (line : LogLine) (before : List LogLine) → ComesBy w g i line before
      → SomeFrameComes w g receiver j (line.event.moment + delay)

-- along these stations it leads so, from station i to the first, and from each to the next
abbrev pub IsLedAlong : {kind : AreaKind} (configs : List Config) (w : WorldModel)
    → AreaSend kind w → (delay i : ℕ) → List ℕ → Type 0
IsLedAlong configs w g delay i [] = Unit {0}
IsLedAlong configs w g delay i (j ∷ path) =
    IsLedTo configs w g delay i j × IsLedAlong configs w g delay j path

-- A packet for an area, of either kind, reaches every station of each path from its sender along
-- which it so leads: the n-th station n delays after it was sent, at the latest.
abbrev pub ReachesWhereSomeFrameComes : List Config → WorldModel → Type 0
ReachesWhereSomeFrameComes configs w =
    (kind : AreaKind) (g : AreaSend kind w) (delay : ℕ) (path : List ℕ)
    → HasOwnAddress configs g.line.event.station → HasOwnNumber w g
    → IsLedAlong configs w g delay g.line.event.station path
    → AreReached configs w g delay g.line.event.moment path

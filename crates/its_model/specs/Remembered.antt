-- When no station forgets a packet: in a run of less than 20 s, without a restart, in which its
-- sender sends no more than stations remember.
use Rattle.std.specs.Prelude.{◌≡◌, ℕ, ◌+◌, ◌≤◌, ◌<◌, List, ◌∷◌, ◌++◌, length, Some, false, slice_get}
use Rattle.its_model.specs.Packet.AreaKind.{geobroadcast}
use Rattle.its_model.specs.History.{entry_life}
use Rattle.its_model.specs.World.{LogLine, WorldModel, Config}
use Rattle.its_model.specs.Log.{has_restarted}
use Rattle.its_model.specs.Schedules.{IsNeverForgotten}
use Rattle.its_model.specs.Reach.{Geobroadcast, HasOwnAddress, area_sends_of}

-- The run took less than an entry's life: each of its moments is from the beginning on, and before
-- an entry's life is over since.
pub record IsShort (w : WorldModel) : Type 0 where
  pub beginning : ℕ
  pub from : (later before : List LogLine) (line : LogLine) → w.log ≡ later ++ line ∷ before
      → beginning ≤ line.event.moment
  pub until : (later before : List LogLine) (line : LogLine) → w.log ≡ later ++ line ∷ before
      → line.event.moment < beginning + entry_life

-- no station restarted
abbrev pub NoneRestarted : WorldModel → Type 0
NoneRestarted w = (j : ℕ) → has_restarted j w.log ≡ false

-- station i sent no more packets for areas than any station remembers of a source
abbrev pub AreAllRemembered : List Config → WorldModel → ℕ → Type 0
AreAllRemembered configs w i =
    (j : ℕ) (receiver : Config) → slice_get configs j ≡ Some receiver
    → area_sends_of i w.log ≤ receiver.remember

-- Then no station forgets what it sent.
abbrev pub ShortRunsForgetNothing : List Config → WorldModel → Type 0
ShortRunsForgetNothing configs w =
    (g : Geobroadcast w)
    → HasOwnAddress configs g.line.event.station
    → IsShort w → NoneRestarted w → AreAllRemembered configs w g.line.event.station
    → IsNeverForgotten geobroadcast (length g.before) configs w

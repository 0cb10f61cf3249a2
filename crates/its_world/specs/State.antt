-- What a world has, and the worlds of the model that it represents.
use Rattle.std.specs.Prelude.{ℕ, ◌≤◌, List, [], ◌∷◌, length, drop, Vec}
use Rattle.std.specs.declared.alloc.Global.{Global}
use Rattle.its_model.specs.Station.{StationModel}
use Rattle.its_model.specs.World.{WorldModel}
use Rattle.its_station.specs.State.{StationState, RepresentsStation}
use Rattle.its_world.specs.Frames.{AreFrames}

-- a world as contracts see it: its stations, how many frames were let go, and the octets of those
-- that were given after these, in the order of their numbers
pub record WorldState : Type 0 where
  pub stations : List StationState
  pub released : ℕ
  pub frames : List (Vec ℕ Global)

-- the stations represent these of the model, one for one
abbrev pub RepresentStations : List StationState → List StationModel → Type 0
RepresentStations [] [] = Unit {0}
RepresentStations [] (s ∷ models) = ⊥
RepresentStations (st ∷ states) [] = ⊥
RepresentStations (st ∷ states) (s ∷ models) =
    RepresentsStation st s × RepresentStations states models

-- Each station represents its model station, each frame that is kept encodes the model's of its
-- number, and there are no others: what was let go, the model still has.
pub record RepresentsWorld (st : WorldState) (w : WorldModel) : Type 0 where
  pub stations : RepresentStations st.stations w.stations
  pub released : st.released ≤ length w.air
  pub frames : AreFrames st.frames (drop st.released w.air)

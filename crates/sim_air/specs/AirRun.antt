-- What the run of an air did.
use Rattle.std.specs.Prelude.{◌≡◌, ℕ, List, [], ◌∷◌, ◌++◌}
use Rattle.its_model.specs.World.{Config, Event}
use Rattle.its_world.specs.Entries.{Entry}
use Rattle.its_world.specs.State.{WorldState}
use Rattle.sim_simulation.specs.Simulated.{IsSimulated}
use Rattle.sim_air_model.specs.Timetable.{Filed}
use Rattle.sim_air_model.specs.Timetable.Filed.{Happens, Leaves}
use Rattle.sim_air.specs.Due.{AreDue}

-- the events alone, without the leaves
abbrev pub events_in : List Filed → List Event
events_in [] = []
events_in (Happens e ∷ file) = e ∷ events_in file
events_in (Leaves station moment ∷ file) = events_in file

-- these events are among the others, in their order
abbrev pub AreAmong : List Event → List Event → Type 0
AreAmong [] others = Unit {0}
AreAmong (e ∷ events) others =
    (before : List Event) × (after : List Event) × (others ≡ before ++ e ∷ after)
    × AreAmong events after

-- There is a list of events, those of the file up to a moment among them in their order, that were
-- done of these configs.
pub record IsAirRun (configs : List Config) (file : List Filed) (until : ℕ) (world : WorldState)
    (Took : List Event → List Entry → Type 0) : Type 0 where
  pub events : List Event
  pub run : IsSimulated configs events world Took
  pub due : List Filed
  pub is_due : AreDue file until due
  pub among : AreAmong (events_in due) events

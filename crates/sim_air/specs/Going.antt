-- A run of the world that is under way, whether stations contend or not.
use Rattle.std.specs.Prelude.{◌≡◌, ◌++◌, List, Bool, false, take}
use Rattle.its_model.specs.World.{Config, Event}
use Rattle.its_world.specs.Entries.{Entry}
use Rattle.its_world.specs.State.{WorldState}
use Rattle.sim_simulation.specs.Simulated.{IsSimulated}
use Rattle.sim_air.specs.AirRun.{AreAmong, events_in}
use Rattle.sim_air.specs.Beside.{AreThere, MayBeMade}
use Rattle.sim_air.specs.FileEvents.{filed_in}
use Rattle.sim_air.specs.declared.filed_run.FiledRun.{FiledRun}

-- Stations were made beside these, if any may be. Of all of them events were done, among them these,
-- in their order.
pub record IsGoing (grows : Bool) (configs : List Config) (past : List Event) (world : WorldState)
    (Took : List Event → List Entry → Type 0) : Type 0 where
  pub made : List Config
  pub may_be_made : MayBeMade grows made
  pub all : List Config
  pub are_all : all ≡ configs ++ made
  pub events : List Event
  pub run : IsSimulated all events world Took
  pub there : AreThere grows all events
  pub among : AreAmong past events

-- a run that is under way is so still, and has done what it had
abbrev pub GoesOn : Bool → WorldState → (List Event → List Entry → Type 0) → WorldState
    → (List Event → List Entry → Type 0) → Type 0
GoesOn grows old Before new After =
    (configs : List Config) (past : List Event) → IsGoing grows configs past old Before
    → IsGoing grows configs past new After

-- a run over a file is under way, and has done what was taken of the file
abbrev pub HasDone : List Config → FiledRun → (List Event → List Entry → Type 0) → Type 0
HasDone configs f Took =
    IsGoing false configs (events_in (take f.taken (filed_in f.due.items))) f.run.world Took

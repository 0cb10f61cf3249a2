-- Runs in which stations contend: a frame that a station gives may be held, and goes out later or to
-- nobody. Each is a run of the world, with all laws over every schedule. Nothing is said of its
-- timetable.
use Rattle.std.specs.Prelude.{◌≡◌, ◌++◌, List, All, Bool, false}
use Rattle.its_model.specs.World.{Config, Event}
use Rattle.its_world.specs.Entries.{Entry}
use Rattle.its_world.specs.State.{WorldState}
use Rattle.sim_simulation.specs.Simulated.{IsSimulated}

-- no station contends, of those of which this says whether they do
abbrev pub NoneContends : List Bool → Type 0
NoneContends contend = All (λ contends. contends ≡ false) contend

-- Stations were made beside these, which began as if they had been there from the beginning, and
-- there is a list of events that were done of all of them.
pub record IsMadeRun (configs : List Config) (world : WorldState)
    (Took : List Event → List Entry → Type 0) : Type 0 where
  pub made : List Config
  pub events : List Event
  pub run : IsSimulated (configs ++ made) events world Took

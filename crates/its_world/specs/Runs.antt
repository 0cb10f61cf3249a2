-- What a run of a world is, and what holds after it.
use Rattle.std.specs.Prelude.{◌≡◌, ℕ, List, ◌++◌}
use Rattle.its_model.specs.Calls.{Answer}
use Rattle.its_model.specs.World.{WorldModel, Config, Event, opening, world_run, entries}
use Rattle.its_model.specs.EverySchedule.{HoldsOfSchedules}
use Rattle.its_world.specs.State.{WorldState, RepresentsWorld}
use Rattle.its_world.specs.Entries.{AreEntries, Entry}

-- From a world of the model these events were done: the world afterwards represents the model's,
-- and the log is the model's entries.
pub record IsRunOf (w : WorldModel) (events : List Event) (log : List Entry)
    (new : WorldState) : Type 0 where
  pub stands : RepresentsWorld new (world_run w events)
  pub answers : List (Answer ℕ)
  pub grown : entries (world_run w events).log ≡ entries w.log ++ answers
  pub told : AreEntries log answers

-- The headline. Of the run of these configs and past events, followed by the events that were done:
-- the world represents its end, the log is its entries, and of that very end hold the laws over
-- every schedule.
pub record IsLawfulRunOf (configs : List Config) (past events : List Event) (log : List Entry)
    (new : WorldState) : Type 0 where
  pub stands : RepresentsWorld new (world_run (opening configs) (past ++ events))
  pub answers : List (Answer ℕ)
  pub grown : entries (world_run (opening configs) (past ++ events)).log
      ≡ entries (world_run (opening configs) past).log ++ answers
  pub told : AreEntries log answers
  pub laws : HoldsOfSchedules configs (world_run (opening configs) (past ++ events))

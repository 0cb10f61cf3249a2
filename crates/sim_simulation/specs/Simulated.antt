-- What a simulation did.
use Rattle.std.specs.Prelude.{◌≡◌, ℕ, List, [], ◌∷◌, ◌++◌}
use Rattle.its_model.specs.Calls.{Answer}
use Rattle.its_model.specs.World.{Config, Event, opening, world_run, entries}
use Rattle.its_model.specs.EverySchedule.{HoldsOfSchedules}
use Rattle.its_world.specs.State.{WorldState, RepresentsWorld}
use Rattle.its_world.specs.Entries.{AreEntries, Entry, TellsEntry}

-- Of these configs the events were done, in order: the world stands at the end of just this run of
-- the model, and of that very end hold the laws over every schedule.
pub record IsSimulation (configs : List Config) (events : List Event)
    (world : WorldState) : Type 0 where
  pub stands : RepresentsWorld world (world_run (opening configs) events)
  pub laws : HoldsOfSchedules configs (world_run (opening configs) events)

-- The same, and what was taken are the events and the model's entries of them, one for one.
pub record IsSimulated (configs : List Config) (events : List Event) (world : WorldState)
    (Took : List Event → List Entry → Type 0) : Type 0 where
  pub stands : RepresentsWorld world (world_run (opening configs) events)
  pub laws : HoldsOfSchedules configs (world_run (opening configs) events)
  pub log : List Entry
  pub told : AreEntries log (entries (world_run (opening configs) events).log)
  pub took : Took events log

-- Of these configs, after these events, the entry is what is logged of the event that is done next.
pub record IsEntryOf (configs : List Config) (events : List Event) (e : Event)
    (entry : Entry) : Type 0 where
  pub answer : Answer ℕ
  pub tells : TellsEntry entry answer
  pub last : entries (world_run (opening configs) (events ++ e ∷ [])).log
      ≡ entries (world_run (opening configs) events).log ++ answer ∷ []

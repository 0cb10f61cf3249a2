-- A run that is under way.
use Rattle.std.specs.Prelude.{◌≡◌, List}
use Rattle.its_model.specs.World.{Event}
use Rattle.its_world.specs.Entries.{Entry}
use Rattle.sim_queue.specs.PlaceIndexes.{AreStandingsOf}
use Rattle.sim_air.specs.declared.run.Run.{Run}

-- each station stands in the index once, at its place in the world, and no other does
abbrev pub AreIndexed : Run → Type 0
AreIndexed run = AreStandingsOf run.world.stations run.standings.order.items

-- its rules, its world, where the stations stand and the frames that they hold are as before
pub record SameWorld (old new : Run) : Type 0 where
  pub air : new.air ≡ old.air
  pub every : new.every ≡ old.every
  pub world : new.world ≡ old.world
  pub standings : new.standings ≡ old.standings
  pub contentions : new.contentions ≡ old.contentions

-- what the radio model goes by, what it put and will draw, and who is present are as before
pub record SameRadio (old new : Run) : Type 0 where
  pub air : new.air ≡ old.air
  pub every : new.every ≡ old.every
  pub queue : new.queue ≡ old.queue
  pub draws : new.draws ≡ old.draws
  pub present : new.present ≡ old.present
  pub standings : new.standings ≡ old.standings

-- what a sink said of events and entries, it says of them still
abbrev pub SaysAsBefore : (Before After : List Event → List Entry → Type 0) → Type 0
SaysAsBefore Before After =
    (events : List Event) (log : List Entry) → Before events log → After events log

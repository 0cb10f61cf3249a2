-- The events and leaves of a file, in the model.
use Rattle.std.specs.Prelude.{List, map}
use denote.Ref.{Bor}
use Rattle.its_world.specs.Events.{event_of, IsInRange}
use Rattle.sim_scenario.specs.declared.events.event.FileEvent.{FileEvent}
use Rattle.sim_scenario.specs.declared.events.event.FileEvent.TheVariants as files
use Rattle.sim_air_model.specs.Timetable.{Filed}
use Rattle.sim_air_model.specs.Timetable.Filed.{Happens, Leaves}

-- an event or a leave of the file, in the model
abbrev pub filed_of : FileEvent → Filed
filed_of (files.Happens e) = Happens (event_of e)
filed_of (files.Leaves station moment) = Leaves station moment

-- those that wait
abbrev pub filed_in : List (Bor FileEvent) → List Filed
filed_in due = map (λ e. filed_of e.now) due

-- an event of the file has its numbers in their ranges
abbrev pub IsFiledInRange : FileEvent → Type 0
IsFiledInRange (files.Happens e) = IsInRange e.what
IsFiledInRange (files.Leaves station moment) = Unit {0}

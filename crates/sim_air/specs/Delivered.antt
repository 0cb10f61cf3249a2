-- The frames that events of a file deliver.
use Rattle.std.specs.Prelude.{ℕ}
use Rattle.its_world.specs.Events.{what_of}
use Rattle.its_world.specs.Steps.{IsKept}
use Rattle.sim_scenario.specs.declared.events.event.FileEvent.{FileEvent}
use Rattle.sim_scenario.specs.declared.events.event.FileEvent.TheVariants as files

-- it delivers no frame of a lower number
abbrev pub KeepsFrom : ℕ → FileEvent → Type 0
KeepsFrom lowest (files.Happens e) = IsKept lowest (what_of e.what)
KeepsFrom lowest (files.Leaves station moment) = Unit {0}

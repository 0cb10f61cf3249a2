-- When an air ends.
use Rattle.std.specs.Prelude.{◌+◌, ℕ, Option, Some, None, List, map, max}
use Rattle.std.specs.List.{fold}
use Rattle.sim_scenario.specs.declared.events.event.FileEvent.{FileEvent}
use Rattle.sim_scenario.specs.declared.events.event.FileEvent.TheVariants.{Happens, Leaves}

-- the moment of an event of the file, or of a leave
abbrev pub moment_of : FileEvent → ℕ
moment_of (Happens e) = e.moment
moment_of (Leaves station moment) = moment

-- the greatest moment of a file, 0 where there is none
abbrev pub greatest_moment : List FileEvent → ℕ
greatest_moment file = fold max 0 (map moment_of file)

-- the last moment that is run: the one that is given, else ten seconds after the last of the file
abbrev pub end_of : Option ℕ → List FileEvent → ℕ
end_of (Some until) file = until
end_of None file = greatest_moment file + 10000

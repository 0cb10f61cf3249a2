-- A row that can be run.
use Rattle.std.specs.Prelude.{◌≤◌, ◌^◌}
use Rattle.its_gnvalue.specs.Values.{IsSpeed}
use Rattle.sim_moves.specs.declared.row.Row.{Row}

-- a row can be run: its moment and its speed are in their ranges
abbrev pub FitsRun : Row → Type 0
FitsRun row = (row.moment ≤ 2 ^ 62) × IsSpeed row.speed

-- How what a subcommand prints is shown.
use Rattle.std.specs.Prelude.{Bool, true, false, Option, None}
use Rattle.geostation.specs.declared.subcommand.Subcommand.{Subcommand}
use Rattle.geostation.specs.declared.subcommand.Subcommand.TheVariants as subcommands
use Rattle.cmd_arguments.specs.declared.terminal.painting.Painter.{Painter}

-- whether a line of column heads is put before its lines
abbrev pub is_headed : Subcommand → Bool
is_headed (subcommands.Mesh mesh) = mesh.heads
is_headed subcommand = false

-- how its lines are coloured, where they are
abbrev pub painter_of : Subcommand → Option Painter
painter_of (subcommands.Show show) = show.painter
painter_of (subcommands.Sim sim) = sim.painter
painter_of subcommand = None

-- whether it shows how far it is
abbrev pub has_progress : Subcommand → Bool
has_progress (subcommands.Convert convert) = convert.progress
has_progress (subcommands.Import import) = import.progress
has_progress (subcommands.Sim sim) = sim.options.progress
has_progress (subcommands.View viewing) = viewing.options.progress
has_progress subcommand = false

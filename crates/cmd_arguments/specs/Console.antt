-- Where the program colours what it prints.
use Rattle.std.specs.Prelude.{Bool, true, false, ◌&&◌}
use Rattle.cmd_arguments.specs.declared.terminal.console.Console.{Console}
use Rattle.cmd_arguments.specs.declared.terminal.console.Coloring.{Coloring}
use Rattle.cmd_arguments.specs.declared.terminal.console.Coloring.TheVariants.{Auto, Always, Never}

-- where it is asked for, and by itself on a terminal that the environment has colours for
abbrev pub is_colored : Console → Coloring → Bool
is_colored console Auto = console.out && console.colors
is_colored console Always = true
is_colored console Never = false

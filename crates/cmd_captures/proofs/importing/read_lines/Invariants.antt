use Rattle.std.specs.Prelude.{All}
use Rattle.cmd_captures.specs.Lines.{HasFrame}
use Rattle.cmd_captures.proofs.importing.read_lines.Given as goal

-- each line so far has a frame
abbrev pub invariant-loop-number : goal.invariant-loop-number
invariant-loop-number g l = All HasFrame l.records.items

use Rattle.std.proofs.Common.{◌≤◌, length}
use Rattle.cmd_arguments.proofs.terminal.painting.start_of.Given as goal

-- it begins within the line
abbrev pub invariant-loop : goal.invariant-loop
invariant-loop l = l.start ≤ length l.line

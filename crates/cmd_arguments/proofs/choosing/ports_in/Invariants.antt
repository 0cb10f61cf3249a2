use Rattle.std.proofs.Common.{map, take}
use Rattle.cmd_arguments.specs.Options.{ArePorts}
use Rattle.cmd_arguments.proofs.choosing.ports_in.Given as goal
use Rattle.cmd_stats.specs.Units.{listed}

-- the ports of the words so far
abbrev pub invariant-loop-word : goal.invariant-loop-word
invariant-loop-word l =
    ArePorts (map (λ w. w.now) (take l.word-index l.words)) (listed l.ports)

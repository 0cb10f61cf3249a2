use Rattle.std.proofs.Common.{take}
use Rattle.sim_settings.specs.Moves.{ArePorts}
use Rattle.sim_settings.proofs.moves_keys.ports_in.Given as goal
use Rattle.toml.specs.View.{items_view}

-- the ports of the items so far
abbrev pub invariant-loop-item : goal.invariant-loop-item
invariant-loop-item l = ArePorts (items_view (take l.item-index l.items)) l.ports.items

use Rattle.std.proofs.Common.{take}
use Rattle.sim_settings.specs.Items.{SayItems}
use Rattle.sim_settings.specs.Saying.{SaysTraffic}
use Rattle.sim_scenario.proofs.settings.read_every.Given as goal
use Rattle.toml.specs.View.{items_view}

-- one for each item so far, which says it
abbrev pub invariant-loop-number : goal.invariant-loop-number
invariant-loop-number l =
    SayItems SaysTraffic (items_view (take l.number l.items)) l.every.items

use Rattle.std.proofs.Common.{◌≡◌, All, take, vec_len}
use Rattle.sim_scenario.specs.Saying.{SaysStation}
use Rattle.sim_settings.specs.Items.{SayItems}
use Rattle.sim_scenario.specs.Scenarios.{SaysOwnContention, SaysPresence}
use Rattle.sim_scenario.proofs.stations.read_stations.Given as goal
use Rattle.its_world.specs.Events.{IsConfig}
use Rattle.toml.specs.View.{items_view}

-- one station for each item so far, which says it, with its numbers in range, and whether it is
-- present and contends
abbrev pub invariant-loop-number : goal.invariant-loop-number
invariant-loop-number l =
    record {
      count : vec_len l.stations ≡ l.number;
      present : vec_len l.present ≡ l.number;
      says : SayItems SaysStation (items_view (take l.number l.items)) l.stations.items;
      presence :
          SayItems (SaysPresence l.has_air) (items_view (take l.number l.items))
          l.present.items;
      contention :
          SayItems (SaysOwnContention l.has_air) (items_view (take l.number l.items))
          l.contend.items;
      ranges : All IsConfig l.stations.items;
    }

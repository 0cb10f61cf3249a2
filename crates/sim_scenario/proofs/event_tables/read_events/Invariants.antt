use Rattle.std.proofs.Common.{◌≡◌, All, take, vec_len}
use Rattle.sim_settings.specs.Items.{SayItems}
use Rattle.sim_scenario.proofs.event_tables.read_events.Given as goal
use Rattle.toml.specs.View.{items_view}

-- one event for each item so far, which says it, with its numbers in range
abbrev pub invariant-loop-number : goal.invariant-loop-number
invariant-loop-number g l =
    record {
      count : vec_len l.events ≡ l.number;
      says :
          SayItems g.E.TableEvent.Says (items_view (take l.number l.items)) l.events.items;
      ranges : All g.E.TableEvent.Fits l.events.items;
    }

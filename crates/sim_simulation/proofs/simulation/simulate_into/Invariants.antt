use Rattle.std.proofs.Common.{◌≡◌, [], map, take}
use Rattle.its_world.specs.Events.{config_of, event_of}
use Rattle.sim_simulation.specs.Simulated.{IsSimulated}
use Rattle.sim_simulation.proofs.simulation.simulate_into.Given as goal

-- the first events were done, the sink took them, and no frame was let go
abbrev pub invariant-loop-number : goal.invariant-loop-number
invariant-loop-number g l =
    record {
      kept : l.world.released ≡ 0;
      told : g.S.EventSink.Took l.fn.sink [] [] → IsSimulated (map config_of l.stations)
          (map event_of (take l.number l.events)) l.world
          (g.S.EventSink.Took l.sink);
    }

use Rattle.std.specs.Prelude.{◌≡◌, ◌<◌, length, map, take, true}
use Rattle.sim_air.specs.Going.{GoesOn}
use Rattle.sim_air.specs.Moving.{DoesThere}
use Rattle.sim_air.specs.Outside.{opening_at}
use Rattle.sim_queue.specs.PlaceIndexes.{AreStandingsOf}
use Rattle.sim_air.proofs.step.open_ports.Given as goal

-- stations stand where the world has them, as many as before, and those so far were opened
abbrev pub invariant-loop-port : goal.invariant-loop-port
invariant-loop-port g l =
    record {
      standings : AreStandingsOf l.run.world.stations l.run.standings.order.items;
      count : length l.run.world.stations ≡ length l.fn.run.world.stations;
      moving : DoesThere l.event.station l.event.moment
          (map (opening_at l.event.station l.event.moment) (take l.port-index l.ports))
          l.fn.run (g.S.EventSink.Took l.fn.sink) l.run (g.S.EventSink.Took l.sink);
      going : l.event.station < length l.fn.run.world.stations
          → GoesOn true l.fn.run.world (g.S.EventSink.Took l.fn.sink) l.run.world
          (g.S.EventSink.Took l.sink);
    }

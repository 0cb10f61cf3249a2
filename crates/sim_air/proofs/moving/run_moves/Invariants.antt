use Rattle.std.specs.Prelude.{◌≡◌, [], ◌∷◌, map, true}
use Rattle.sim_scenario.specs.Airs.{end_of}
use Rattle.its_world.specs.Events.{config_of}
use Rattle.sim_air.specs.AirTimed.{rules_of}
use Rattle.sim_air.specs.Contenders.{NoneContends}
use Rattle.sim_air.specs.Going.{IsGoing}
use Rattle.sim_queue.specs.PlaceIndexes.{AreStandingsOf}
use Rattle.sim_queue.specs.Traffics.{all_traffic}
use Rattle.sim_air.specs.Outside.{IsByMoment}
use Rattle.sim_air.specs.UnderRows.{IsUnderSome, asked_in}
use Rattle.sim_air.proofs.moving.run_moves.Given as goal

-- stations stand where the world has them, and a run with rows is under way
abbrev pub invariant-loop : goal.invariant-loop
invariant-loop g l =
    record {
      standings : AreStandingsOf l.moving.run.world.stations l.moving.run.standings.order.items;
      until : l.moving.until ≡ l.timeline.air.until;
      moves : l.moving.moves.now ≡ l.timeline.moves;
      asked : IsByMoment l.timeline.events.items (asked_in l.moving);
      going : g.S.EventSink.Took l.fn.sink [] []
          → IsGoing true (map config_of l.scenario.stations.items) [] l.moving.run.world
          (g.S.EventSink.Took l.sink);
      under : NoneContends (l.timeline.moves.contends ∷ l.scenario.contend.items)
          → g.S.EventSink.Took l.fn.sink [] []
          → IsUnderSome (rules_of l.timeline.air (all_traffic l.timeline.every.items)
          (end_of l.timeline.air.until []) l.scenario.present.items)
          (map config_of l.scenario.stations.items) l.rows.begin l.rows.before l.moving
          (g.S.EventSink.Took l.sink);
    }

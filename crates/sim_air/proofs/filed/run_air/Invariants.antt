use Rattle.std.proofs.Common.{◌≡◌, ◌≤◌, [], map, All}
use denote.Ref.{Bor}
use Rattle.sim_air.specs.Delivered.{KeepsFrom}
use Rattle.sim_scenario.specs.declared.events.event.FileEvent.{FileEvent}
use Rattle.its_world.specs.Events.{config_of}
use Rattle.sim_scenario.specs.Airs.{end_of}
use Rattle.sim_air.specs.Due.{AreDue}
use Rattle.sim_air.specs.AirTimed.{rules_of}
use Rattle.sim_air.specs.Contenders.{NoneContends}
use Rattle.sim_air.specs.Filing.{IsFiling}
use Rattle.sim_air.specs.Going.{HasDone}
use Rattle.sim_air.specs.FileEvents.{IsFiledInRange, filed_in, filed_of}
use Rattle.sim_queue.specs.PlaceIndexes.{AreStandingsOf}
use Rattle.sim_queue.specs.Traffics.{all_traffic}
use Rattle.sim_air.proofs.filed.run_air.Given as goal

-- the run is under way over what is due of the file
abbrev pub invariant-loop : goal.invariant-loop
invariant-loop g l =
    record {
      standings : AreStandingsOf l.filed.run.world.stations l.filed.run.standings.order.items;
      kept : l.filed.run.world.released ≤ l.filed.lowest;
      end : l.filed.end ≡ end_of l.air.until l.file;
      due : AreDue (map filed_of l.file) l.filed.end (filed_in l.filed.due.items);
      ranges : All (λ (e : Bor FileEvent). IsFiledInRange e.now) l.filed.due.items;
      deliveries : All (λ (e : Bor FileEvent). KeepsFrom l.filed.lowest e.now) l.filed.due.items;
      going : g.S.EventSink.Took l.fn.sink [] []
          → HasDone (map config_of l.configs) l.filed (g.S.EventSink.Took l.sink);
      filing : NoneContends l.contend → g.S.EventSink.Took l.fn.sink [] []
          → IsFiling (rules_of l.air (all_traffic l.every) (end_of l.air.until []) l.present)
          (map config_of l.configs) l.filed (g.S.EventSink.Took l.sink);
    }

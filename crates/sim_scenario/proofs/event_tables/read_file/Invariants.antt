use Rattle.std.proofs.Common.{◌≡◌, All, ◌++◌, length}
use Rattle.std.specs.Vec.Iter.{into_iter_items, into_iter_len}
use Rattle.sim_scenario.proofs.Said.{AreDone}
use Rattle.sim_scenario.specs.Events.{FitsFileEvent, FitsStationEvent}
use Rattle.sim_scenario.specs.Saying.{SaysStationEvent}
use Rattle.sim_settings.specs.Items.{SayItems}
use Rattle.toml.specs.View.{items_view}
use Rattle.sim_scenario.proofs.event_tables.read_file.Given as goal

-- those so far are done, and the keys say all of them
abbrev pub invariant-loop-event : goal.invariant-loop-event
invariant-loop-event l =
    record {
      left : into_iter_len l.event-iterator ≡ length (into_iter_items l.event-iterator);
      says :
          SayItems SaysStationEvent (items_view l.items)
          (l.yielded ++ into_iter_items l.event-iterator);
      fits : All FitsStationEvent (l.yielded ++ into_iter_items l.event-iterator);
      done : AreDone l.yielded l.file.items;
      ranges : All FitsFileEvent l.file.items;
    }

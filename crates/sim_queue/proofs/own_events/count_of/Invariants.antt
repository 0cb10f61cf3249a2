use Rattle.std.proofs.Common.{◌≡◌, ◌≤◌, take}
use Rattle.std.specs.Prelude.{count_by}
use Rattle.sim_queue.specs.Counted.{is_of_kind_at}
use Rattle.sim_queue.proofs.own_events.count_of.Given as goal

-- how many there are among those so far
abbrev pub invariant-loop-event : goal.invariant-loop-event
invariant-loop-event l =
    record {
      count : l.count ≡ count_by (is_of_kind_at l.kind l.station) (take l.event-index l.own);
      few : l.count ≤ l.event-index;
    }

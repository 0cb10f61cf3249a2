use Rattle.sim_queue.specs.Keeps.{Keeps}
use Rattle.sim_air_model.specs.Timetable.{Timetable, schedule_first_sends}
use Rattle.sim_queue.specs.Traffics.{traffic_of}
use Rattle.sim_queue.proofs.scheduling.schedule_first_sends.Given as goal

-- the sends of the stations so far
abbrev pub invariant-loop-station : goal.invariant-loop-station
invariant-loop-station l =
    record {
      sends : (t : Timetable) → Keeps l.fn.queue l.fn.draws t
          → Keeps l.queue l.draws (schedule_first_sends l.present (traffic_of l.number l.traffic)
          l.station t);
    }

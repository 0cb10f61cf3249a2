use Rattle.sim_queue.specs.Keeps.{Keeps}
use Rattle.sim_air_model.specs.Timetable.{Timetable, schedule_first_ticks}
use Rattle.sim_queue.proofs.scheduling.schedule_first_ticks.Given as goal

-- the ticks of the stations so far
abbrev pub invariant-loop-station : goal.invariant-loop-station
invariant-loop-station l =
    record {
      ticks : (t : Timetable) → Keeps l.fn.queue l.fn.draws t
          → Keeps l.queue l.draws (schedule_first_ticks l.present l.station t);
    }

use Rattle.std.proofs.Common.{take}
use Rattle.sim_queue.specs.Keeps.{Keeps}
use Rattle.sim_air_model.specs.Timetable.{Timetable, come_sending_all}
use Rattle.sim_queue.specs.Traffics.{all_traffic}
use Rattle.sim_queue.proofs.scheduling.schedule_coming_sends.Given as goal

-- the sends of each traffic so far
abbrev pub invariant-loop-number : goal.invariant-loop-number
invariant-loop-number l =
    record {
      sends : (t : Timetable) → Keeps l.fn.queue l.fn.draws t → Keeps l.queue l.draws
          (come_sending_all (all_traffic (take l.number l.every)) l.station l.moment t);
    }

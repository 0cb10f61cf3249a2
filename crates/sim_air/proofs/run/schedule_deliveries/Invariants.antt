use Rattle.std.proofs.Common.{take}
use Rattle.sim_queue.specs.Keeps.{Keeps}
use Rattle.sim_air.specs.Runs.{SaysAsBefore}
use Rattle.sim_air_model.specs.Timetable.{Timetable, send_all}
use Rattle.sim_air.proofs.run.schedule_deliveries.Given as goal

-- the deliveries to the stations so far
abbrev pub invariant-loop-station : goal.invariant-loop-station
invariant-loop-station g l =
    record {
      told : SaysAsBefore (g.S.EventSink.Took l.fn.sink) (g.S.EventSink.Took l.sink);
      sent : (t : Timetable) → Keeps l.fn.queue l.fn.draws t → Keeps l.queue l.draws
          (send_all l.loss l.given.frame l.given.heard_at (take l.station-index l.hearers) t);
    }

use Rattle.std.proofs.Common.{subst}
use Rattle.sim_queue.specs.Keeps.{Keeps}
use Rattle.sim_air_model.specs.Timetable.{Rules, come, come_ticking}
use Rattle.sim_air.proofs.run.Run.schedule_coming.Goals as goal

pub returns-clause-come : goal.returns-clause-come
returns-clause-come c = λ rules t goes_by h.
    let run = c.args.self.now in
    let n = c.args.station in
    let m = c.args.moment in
    let ticked = c.in_ok-schedule_coming_tick.ensures.tick t h in
    subst (λ (r : Rules). Keeps c.schedule_coming_sends.new.queue c.schedule_coming_sends.new.draws
    (come r n m t)) goes_by
    (c.in_ok-schedule_coming_sends.ensures.sends (come_ticking run.air.beacons n m t) ticked)

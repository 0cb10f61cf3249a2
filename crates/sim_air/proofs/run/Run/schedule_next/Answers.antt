use Rattle.std.proofs.Common.{◌≡◌, ◌+◌, refl, ap, subst, rules}
use Rattle.std.specs.Prelude.{slice_get, OnOk}
use Rattle.sim_queue.specs.declared.scheduled.Scheduled.{Scheduled}
use Rattle.sim_queue.specs.declared.scheduled.AirAction.TheVariants as owns
use Rattle.sim_queue.specs.Keeps.{Keeps}
use Rattle.sim_air_model.specs.Timetable.{Timetable, is_refusal, sending}
use Rattle.sim_queue.specs.Traffics.{traffic_of}
use Rattle.sim_air.proofs.Following.{follows_tick, follows_delivery, follows_send}
use Rattle.sim_queue.proofs.Keeping.{keeps_put_alone}
use Rattle.sim_air.proofs.run.Run.schedule_next.Goals as goal

pub returns-in-Tick-clause-next : goal.returns-in-Tick-clause-next
returns-in-Tick-clause-next c = λ w t answer stands tells h.
    let done = c.args.done.now in
    subst (λ (u : Timetable). OnOk c.schedule_next_tick.result
    (Keeps c.schedule_next_tick.new.self.queue c.schedule_next_tick.new.self.draws u))
    (follows_tick done c.in-Tick.field-0 (is_refusal answer) (slice_get w.stations done.station) t
    c.in-Tick.is)
    (c.schedule_next_tick.ensures.tick w t answer stands tells h)

pub returns-in-Deliver-clause-next : goal.returns-in-Deliver-clause-next
returns-in-Deliver-clause-next c = λ w t answer stands tells h.
    let done = c.args.done.now in
    subst (λ (u : Timetable). Keeps c.args.self.now.queue c.args.self.now.draws u)
    (follows_delivery done c.in-Deliver.field-0 (is_refusal answer)
    (slice_get w.stations done.station) t c.in-Deliver.is) h

pub returns-in_ok-push-in-Send-clause-next : goal.returns-in_ok-push-in-Send-clause-next
returns-in_ok-push-in-Send-clause-next c = λ w t answer stands tells h.
    let done = c.args.done.now in
    let queue = c.args.self.now.queue in
    let words = c.args.self.now.draws in
    let n = c.in-Send.number in
    let x = c.in-Send.traffic in
    let m = done.moment + c.from.result in
    let later : m ≡ done.moment + x.period = search rules in
    let schedule : Scheduled = record {
      moment = m;
      place = queue.pushed;
      station = done.station;
      own = owns.Send n x;
    } in
    subst (λ (u : Timetable). Keeps c.push.new.self words u)
    (follows_send done n x (is_refusal answer) (slice_get w.stations done.station) t c.in-Send.is)
    (keeps_put_alone queue c.push.new.self words t schedule
    (sending (traffic_of n x) done.station (done.moment + x.period))
    c.in_ok-push-in-Send.ensures.put c.in_ok-push-in-Send.ensures.count refl
    (ap (sending (traffic_of n x) done.station) later) h)

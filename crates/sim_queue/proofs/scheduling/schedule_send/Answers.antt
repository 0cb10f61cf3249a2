use Rattle.std.proofs.Common.{◌≡◌, ◌+◌, ◌%◌, ◌∙◌, refl, ap, sym, ◌∷◌, IsPermutation}
use Rattle.sim_queue.specs.declared.scheduled.Scheduled.{Scheduled}
use Rattle.sim_queue.specs.declared.scheduled.AirAction.TheVariants as owns
use Rattle.sim_air_model.specs.Timetable.{schedule_send, sending, draw}
use Rattle.sim_queue.specs.Traffics.{traffic_of}
use Rattle.sim_queue.specs.Keeps.{Keeps}
use Rattle.sim_queue.proofs.Keeping.{keeps_put, drawn_is, on_ok_both}
use Rattle.sim_queue.proofs.scheduling.schedule_send.Goals as goal

pub returns : goal.returns
returns c =
    record {
      send = λ t h.
          let queue = c.args.queue.now in
          let words = c.args.draws.now in
          let flow = traffic_of c.args.number c.args.traffic.now in
          let moment = c.args.moment + c.within.result in
          let x : Scheduled = record {
            moment = moment;
            place = queue.pushed;
            station = c.args.station;
            own = owns.Send c.args.number c.args.traffic.now;
          } in
          on_ok_both c.push.result (IsPermutation (x ∷ queue.own) c.push.new.self.own)
          (c.push.new.self.pushed ≡ queue.pushed + 1)
          (Keeps c.push.new.self c.within.new.self (schedule_send flow c.args.station c.args.moment t))
          (λ moves count.
          keeps_put queue c.push.new.self words c.within.new.self t x
          (sending flow c.args.station (c.args.moment + draw t % flow.period))
          moves count refl
          (ap (λ n. sending flow c.args.station (c.args.moment + n))
          (c.within.ensures.value ∙ ap (λ n. n % flow.period) (sym (drawn_is queue words t h))))
          c.within.ensures.rest h)
          c.push.ensures.put c.push.ensures.count;
    }

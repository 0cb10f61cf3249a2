use Rattle.std.proofs.Common.{◌≡◌, ◌+◌, ◌%◌, ◌∙◌, max, refl, arith, ap, sym}
use Rattle.std.proofs.Common.{◌∷◌, IsPermutation}
use Rattle.sim_queue.specs.declared.scheduled.Scheduled.{Scheduled}
use Rattle.sim_queue.specs.declared.scheduled.AirAction.TheVariants as owns
use Rattle.sim_air_model.specs.Timetable.{schedule_tick, tick, draw}
use Rattle.sim_queue.specs.Keeps.{Keeps}
use Rattle.sim_queue.proofs.Keeping.{keeps_put, tick_is, drawn_is, on_ok_both}
use Rattle.sim_queue.proofs.scheduling.schedule_tick.Goals as goal

pub returns : goal.returns
returns c =
    record {
      tick = λ t h.
          let queue = c.args.queue.now in
          let words = c.args.draws.now in
          let jitter = c.jitter-jitter.result in
          let due : c.saturating_add-due.result ≡ c.args.beacon_from + jitter = omega arith in
          let m : c.max.result ≡ max c.args.moment (c.args.beacon_from + jitter) =
          c.max.ensures ∙ ap (max c.args.moment) due in
          let x : Scheduled = record {
            moment = c.max.result;
            place = queue.pushed;
            station = c.args.station;
            own = owns.Tick jitter;
          } in
          on_ok_both c.push.result (IsPermutation (x ∷ queue.own) c.push.new.self.own)
          (c.push.new.self.pushed ≡ queue.pushed + 1)
          (Keeps c.push.new.self c.jitter-jitter.new.self
          (schedule_tick c.args.station c.args.moment c.args.beacon_from t))
          (λ moves count.
          keeps_put queue c.push.new.self words c.jitter-jitter.new.self t x
          (tick c.args.station c.args.moment c.args.beacon_from (draw t % 751))
          moves count refl
          (tick_is c.args.station c.args.moment c.args.beacon_from c.max.result queue.pushed jitter
          (draw t)
          m (c.jitter-jitter.ensures.value ∙ ap (λ n. n % 751) (sym (drawn_is queue words t h))))
          c.jitter-jitter.ensures.rest h)
          c.push.ensures.put c.push.ensures.count;
    }

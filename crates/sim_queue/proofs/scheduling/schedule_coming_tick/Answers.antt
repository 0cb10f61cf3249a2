use Rattle.std.proofs.Common.{◌≡◌, ◌∙◌, sym, subst, Bool, cond, true, false, ◌&&◌}
use Rattle.std.specs.Prelude.{OnOk}
use Rattle.sim_queue.specs.Keeps.{Keeps}
use Rattle.sim_air_model.specs.Timetable.{schedule_tick, none_waits, is_tick_of}
use Rattle.sim_queue.proofs.Counting.{no_tick_waits}
use Rattle.sim_queue.proofs.scheduling.schedule_coming_tick.Goals as goal

pub returns-then-not-beacons : goal.returns-then-not-beacons
returns-then-not-beacons c =
    record {
      tick = λ t h.
          let n = c.args.station in
          let m = c.args.moment in
          subst (λ (b : Bool). Keeps c.args.queue.now c.args.draws.now
          (cond (b && none_waits (is_tick_of n) t) (schedule_tick n m m t) t)) (sym c.if-not-beacons.true)
          h;
    }

pub returns-then-has_no_tick : goal.returns-then-has_no_tick
returns-then-has_no_tick c =
    record {
      tick = λ t h.
          let n = c.args.station in
          let m = c.args.moment in
          let none : none_waits (is_tick_of n) t ≡ true =
          no_tick_waits c.args.queue.now c.args.draws.now t n h
          ∙ sym c.has_no_tick.ensures ∙ c.if-has_no_tick.true in
          subst (λ (b : Bool). OnOk c.schedule_tick.result (Keeps c.schedule_tick.new.queue
          c.schedule_tick.new.draws (cond (b && none_waits (is_tick_of n) t) (schedule_tick n m m t) t)))
          (sym c.if-not-beacons.false)
          (subst (λ (b : Bool). OnOk c.schedule_tick.result (Keeps c.schedule_tick.new.queue
          c.schedule_tick.new.draws (cond b (schedule_tick n m m t) t))) (sym none)
          (c.schedule_tick.ensures.tick t h));
    }

pub returns-else-has_no_tick : goal.returns-else-has_no_tick
returns-else-has_no_tick c =
    record {
      tick = λ t h.
          let n = c.args.station in
          let m = c.args.moment in
          let waits : none_waits (is_tick_of n) t ≡ false =
          no_tick_waits c.args.queue.now c.args.draws.now t n h
          ∙ sym c.has_no_tick.ensures ∙ c.if-has_no_tick.false in
          subst (λ (b : Bool). Keeps c.args.queue.now c.args.draws.now
          (cond (b && none_waits (is_tick_of n) t) (schedule_tick n m m t) t))
          (sym c.if-not-beacons.false)
          (subst (λ (b : Bool). Keeps c.args.queue.now c.args.draws.now (cond b (schedule_tick n m m t)
          t))
          (sym waits) h);
    }

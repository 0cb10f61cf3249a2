use Rattle.std.proofs.Common.{◌≡◌, ◌∙◌, sym, subst, Bool, cond, true, false}
use Rattle.std.specs.Prelude.{OnOk}
use Rattle.sim_queue.specs.Keeps.{Keeps}
use Rattle.sim_air_model.specs.Timetable.{schedule_send, none_waits, is_send_of}
use Rattle.sim_queue.specs.Traffics.{traffic_of}
use Rattle.sim_queue.proofs.Counting.{no_send_waits}
use Rattle.sim_queue.proofs.scheduling.schedule_coming_send.Goals as goal

pub returns-then-has_no_send : goal.returns-then-has_no_send
returns-then-has_no_send c =
    record {
      send = λ t h.
          let x = traffic_of c.args.number c.args.traffic.now in
          let n = c.args.station in
          let m = c.args.moment in
          let none : none_waits (is_send_of c.args.number n) t ≡ true =
          no_send_waits c.args.queue.now c.args.draws.now t c.args.number n h
          ∙ sym c.has_no_send.ensures ∙ c.if-has_no_send.true in
          subst (λ (b : Bool). OnOk c.schedule_send.result
          (Keeps c.schedule_send.new.queue c.schedule_send.new.draws (cond b (schedule_send x n m t) t)))
          (sym none) (c.schedule_send.ensures.send t h);
    }

pub returns-else-has_no_send : goal.returns-else-has_no_send
returns-else-has_no_send c =
    record {
      send = λ t h.
          let x = traffic_of c.args.number c.args.traffic.now in
          let n = c.args.station in
          let m = c.args.moment in
          let waits : none_waits (is_send_of c.args.number n) t ≡ false =
          no_send_waits c.args.queue.now c.args.draws.now t c.args.number n h
          ∙ sym c.has_no_send.ensures ∙ c.if-has_no_send.false in
          subst (λ (b : Bool). Keeps c.args.queue.now c.args.draws.now (cond b (schedule_send x n m t) t))
          (sym waits) h;
    }

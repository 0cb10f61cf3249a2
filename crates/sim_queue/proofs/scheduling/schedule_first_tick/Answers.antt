use Rattle.std.proofs.Common.{◌≡◌, sym, subst, rules, Bool, cond, true, false}
use Rattle.std.specs.Prelude.{OnOk}
use Rattle.sim_queue.specs.Keeps.{Keeps}
use Rattle.sim_air_model.specs.Timetable.{is_present, schedule_tick}
use Rattle.sim_queue.proofs.scheduling.schedule_first_tick.Goals as goal

pub returns-then-is_present : goal.returns-then-is_present
returns-then-is_present c =
    record {
      tick = λ t h.
          let there : is_present c.args.present.now c.args.station ≡ true = search rules in
          subst (λ (b : Bool). OnOk c.schedule_tick.result
          (Keeps c.schedule_tick.new.queue c.schedule_tick.new.draws
          (cond b (schedule_tick c.args.station 0 0 t) t))) (sym there) (c.schedule_tick.ensures.tick t h);
    }

pub returns-else-is_present : goal.returns-else-is_present
returns-else-is_present c =
    record {
      tick = λ t h.
          let away : is_present c.args.present.now c.args.station ≡ false = search rules in
          subst (λ (b : Bool). Keeps c.args.queue.now c.args.draws.now
          (cond b (schedule_tick c.args.station 0 0 t) t)) (sym away) h;
    }

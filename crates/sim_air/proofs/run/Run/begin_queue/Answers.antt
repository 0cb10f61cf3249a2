use Rattle.std.proofs.Common.{◌≡◌, ◌∙◌, [], map, length, cond, ap, sym, subst, Bool}
use Rattle.std.proofs.lemmas.List.{length-map}
use Rattle.its_world.specs.Events.{config_of}
use Rattle.sim_air_model.specs.Draws.{draws_of}
use Rattle.sim_queue.specs.Keeps.{Keeps}
use Rattle.sim_air_model.specs.Timetable.{Timetable}
use Rattle.sim_air_model.specs.Timetable.{schedule_first_ticks}
use Rattle.sim_air_model.specs.Timetable.{schedule_traffic}
use Rattle.sim_queue.specs.Traffics.{all_traffic}
use Rattle.sim_air.proofs.Stepping.{keeps_opening}
use Rattle.sim_air.proofs.run.Run.begin_queue.Goals.{then-air, else-air}
use Rattle.sim_air.proofs.run.Run.begin_queue.Goals as goal

pub returns : goal.returns
returns c =
    record {
      timed =
          let air = c.args.air.now in
          let configs = c.args.configs.now in
          let empty = c.new-queue.ensures in
          let t : Timetable = record { waiting = []; draws = draws_of air.seed } in
          let kept : Keeps c.new-queue.result c.of_seed-draws.result t =
          keeps_opening c.new-queue.result c.of_seed-draws.result air.seed empty.0 empty.1
          c.of_seed-draws.ensures in
          let many : length configs ≡ length (map config_of configs) = sym (length-map configs config_of)
          in
          let ticking : c.if-air.ticking ≡ cond air.beacons (length (map config_of configs)) 0 =
          (elim c.if-air.branch [
            | then-air w ↦ w.ticking-is ∙ many
                ∙ ap (λ (b : Bool). cond b (length (map config_of configs)) 0) (sym w.if-air.true)
            | else-air w ↦ w.ticking-is
                ∙ ap (λ (b : Bool). cond b (length (map config_of configs)) 0) (sym w.if-air.false)
          ]) in
          let ticked : Keeps c.schedule_first_ticks.new.queue c.schedule_first_ticks.new.draws
          (schedule_first_ticks c.args.present.now (cond air.beacons (length (map config_of configs)) 0)
          t) =
          subst (λ n. Keeps c.schedule_first_ticks.new.queue c.schedule_first_ticks.new.draws
          (schedule_first_ticks c.args.present.now n t))
          ticking (c.in_ok-schedule_first_ticks.ensures.ticks t kept) in
          subst (λ n. Keeps c.schedule_traffic.new.queue c.schedule_traffic.new.draws
          (schedule_traffic c.args.present.now (all_traffic c.args.every.now) n
          (schedule_first_ticks c.args.present.now (cond air.beacons (length (map config_of configs)) 0)
          t))) many
          (c.in_ok-schedule_traffic.ensures.sends _ ticked);
    }

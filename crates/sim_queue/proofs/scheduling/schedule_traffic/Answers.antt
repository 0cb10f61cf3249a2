use Rattle.std.proofs.Common.{◌≡◌, ◌+◌, ◌∷◌, ◌++◌, ◌∙◌, [], List, arith, ap, sym, subst}
use Rattle.std.proofs.Common.{take, take_all}
use Rattle.std.proofs.lemmas.List.{take_more, length-take-le}
use Rattle.sim_settings.specs.declared.traffic.Traffic.{Traffic as Flow}
use Rattle.sim_queue.specs.Keeps.{Keeps}
use Rattle.sim_air_model.specs.Timetable.{Timetable, Traffic, schedule_traffic}
use Rattle.sim_air_model.specs.Timetable.{schedule_first_sends}
use Rattle.sim_queue.specs.Traffics.{all_traffic, traffic_of}
use Rattle.sim_queue.proofs.Keeping.{traffic_more, first_sends_more}
use Rattle.sim_queue.proofs.scheduling.schedule_traffic.Goals as goal

pub loop-number-preserved : goal.loop-number-preserved
loop-number-preserved c =
    let i = c.loop-number.number in
    let every = c.args.every.now in
    let x = c.index-every-number.result in
    let below = c.loop-number-test.true in
    let long = length-take-le i every (omega (arith, below)) in
    let n = c.args.count in
    let present = c.args.present.now in
    record {
      sends = λ t h.
          let before = c.loop-number.invariant.sends t h in
          let u = schedule_traffic present (all_traffic (take i every)) n t in
          let more : schedule_traffic present (all_traffic (take (i + 1) every)) n t
          ≡ schedule_first_sends present (traffic_of i x) n u =
          ap (λ (l : List Flow). schedule_traffic present (all_traffic l) n t)
          (take_more every i x (omega (arith, below))
          ∙ ap (λ (y : Flow). take i every ++ y ∷ []) (sym c.index-every-number.is))
          ∙ ap (λ (l : List Traffic). schedule_traffic present l n t)
          (traffic_more (take i every) x 0 i (omega (arith, long)))
          ∙ first_sends_more present (all_traffic (take i every)) (traffic_of i x) n t in
          subst (λ (v : Timetable). Keeps c.schedule_first_sends.new.queue
          c.schedule_first_sends.new.draws v) (sym more)
          (c.in_ok-schedule_first_sends.ensures.sends u before);
    }

pub returns : goal.returns
returns c =
    record {
      sends = λ t h.
          subst (λ (l : List Flow). Keeps c.loop-number.queue c.loop-number.draws
          (schedule_traffic c.args.present.now (all_traffic l) c.args.count t))
          (take_all c.loop-number.number c.args.every.now (omega (arith, c.loop-number-test.false)))
          (c.loop-number.invariant.sends t h);
    }

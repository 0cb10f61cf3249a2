use Rattle.std.proofs.Common.{◌≡◌, ◌+◌, ◌∷◌, ◌++◌, ◌∙◌, [], List, arith, ap, sym, subst}
use Rattle.std.proofs.Common.{take, take_all}
use Rattle.std.proofs.lemmas.List.{take_more, length-take-le}
use Rattle.sim_settings.specs.declared.traffic.Traffic.{Traffic as Flow}
use Rattle.sim_queue.specs.Keeps.{Keeps}
use Rattle.sim_air_model.specs.Timetable.{Timetable, Traffic, come_sending_all, come_sending}
use Rattle.sim_queue.specs.Traffics.{all_traffic, traffic_of}
use Rattle.sim_queue.proofs.Keeping.{traffic_more, coming_more}
use Rattle.sim_queue.proofs.scheduling.schedule_coming_sends.Goals as goal

pub loop-number-preserved : goal.loop-number-preserved
loop-number-preserved c =
    let i = c.loop-number.number in
    let every = c.args.every.now in
    let x = c.index-every-number.result in
    let below = c.loop-number-test.true in
    let long = length-take-le i every (omega (arith, below)) in
    let n = c.args.station in
    let m = c.args.moment in
    record {
      sends = λ t h.
          let before = c.loop-number.invariant.sends t h in
          let u = come_sending_all (all_traffic (take i every)) n m t in
          let more : come_sending_all (all_traffic (take (i + 1) every)) n m t
          ≡ come_sending (traffic_of i x) n m u =
          ap (λ (l : List Flow). come_sending_all (all_traffic l) n m t)
          (take_more every i x (omega (arith, below))
          ∙ ap (λ (y : Flow). take i every ++ y ∷ []) (sym c.index-every-number.is))
          ∙ ap (λ (l : List Traffic). come_sending_all l n m t)
          (traffic_more (take i every) x 0 i (omega (arith, long)))
          ∙ coming_more (all_traffic (take i every)) (traffic_of i x) n m t in
          subst (λ (v : Timetable). Keeps c.schedule_coming_send.new.queue
          c.schedule_coming_send.new.draws v) (sym more)
          (c.in_ok-schedule_coming_send.ensures.send u before);
    }

pub returns : goal.returns
returns c =
    record {
      sends = λ t h.
          subst (λ (l : List Flow). Keeps c.loop-number.queue c.loop-number.draws
          (come_sending_all (all_traffic l) c.args.station c.args.moment t))
          (take_all c.loop-number.number c.args.every.now (omega (arith, c.loop-number-test.false)))
          (c.loop-number.invariant.sends t h);
    }

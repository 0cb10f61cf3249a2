use Rattle.std.proofs.Common.{◌≡◌, ◌+◌, ◌∙◌, List, ℕ, ap, sym, subst, take, take_all, get_or}
use Rattle.std.proofs.lemmas.List.{take_more}
use Rattle.sim_queue.specs.Keeps.{Keeps}
use Rattle.sim_air_model.specs.Timetable.{Timetable, send, send_all}
use Rattle.sim_queue.proofs.Keeping.{send_all_more}
use Rattle.sim_air.proofs.run.schedule_deliveries.Goals as goal
use Rattle.sim_air.proofs.run.schedule_deliveries.Goals.{then-wants_heard+in_ok-note-2}
use Rattle.sim_air.proofs.run.schedule_deliveries.Goals.{else-wants_heard+else-matches}

pub loop-station-preserved : goal.loop-station-preserved
loop-station-preserved g c =
    let i = c.loop-station.station-index in
    let js = c.args.hearers.now in
    let j = get_or js i 0 in
    let loss = c.args.loss in
    let k = c.args.given.frame in
    let m = c.args.given.heard_at in
    record {
      told = λ events log took.
          let before = c.loop-station.invariant.told events log took in
          elim c.if-wants_heard.branch [
            | then-wants_heard+in_ok-note-2 w ↦
                rw w.sink-is (w.in_ok-note-2.ensures events log before)
            | else-wants_heard+else-matches w ↦
                rw w.sink-is before
          ];
      sent = λ t h.
          let before = c.loop-station.invariant.sent t h in
          let u = send_all loss k m (take i js) t in
          let more : send_all loss k m (take (i + 1) js) t ≡ send loss k m j u =
          ap (λ (l : List ℕ). send_all loss k m l t) (take_more js i 0 c.loop-station-test.true)
          ∙ send_all_more loss k m (take i js) j t in
          subst (λ (v : Timetable). Keeps c.schedule_delivery.new.queue
          c.schedule_delivery.new.draws v)
          (sym more) (c.in_ok-note.ensures.sent u before);
    }

pub returns-clause-sent : goal.returns-clause-sent
returns-clause-sent g c = λ t h.
    subst (λ (l : List ℕ). Keeps c.loop-station.queue c.loop-station.draws
    (send_all c.args.loss c.args.given.frame c.args.given.heard_at l t))
    (take_all c.loop-station.station-index c.args.hearers.now c.loop-station-test.false)
    (c.loop-station.invariant.sent t h)

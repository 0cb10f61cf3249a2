use Rattle.std.proofs.Common.{[], ◌∷◌, ◌++◌, sym, subst, ◌∙◌, refl}
use Rattle.its_world.specs.Events.{event_of}
use Rattle.its_world.specs.State.{WorldState}
use Rattle.sim_simulation.specs.Simulated.{IsSimulated}
use Rattle.sim_air.proofs.run.Run.do_event.Goals.{in-Some-sent_frame+in_ok-schedule_frame}
use Rattle.sim_air.proofs.run.Run.do_event.Goals.{in_default-sent_frame}
use Rattle.sim_air.proofs.run.Run.do_event.Goals as goal
use Rattle.std.proofs.Common.{◌≡◌, ap, List, ℕ, Option, Some, Bool}
use Rattle.std.specs.Prelude.{Vec}
use Rattle.std.specs.declared.alloc.Global.{Global}
use Rattle.its_model.specs.World.{opening, world_run, entries}
use Rattle.its_world.specs.State.{RepresentsWorld}
use Rattle.sim_queue.specs.Keeps.{Keeps}
use Rattle.sim_air_model.specs.Timetable.{given, spread_frame}
use Rattle.sim_queue.specs.declared.queue.Queue.{Queue}
use Rattle.sim_air.proofs.Keeping.{answered_last, goes_on}
use Rattle.sim_air.proofs.Under.{told_on}

pub returns-clause-run : goal.returns-clause-run
returns-clause-run g c = λ configs events before.
    let e = event_of c.args.event.now in
    let done = c.in_ok-entry.ensures.run configs events before in
    elim c.match-sent_frame.branch [
      | in-Some-sent_frame+in_ok-schedule_frame w ↦ rw w.self-is (rw w.sink-is (
          subst (λ (x : WorldState). IsSimulated configs (events ++ e ∷ []) x
          (g.S.EventSink.Took w.schedule_frame.new.sink))
          (sym (w.schedule_frame.ensures.world.world ∙ c.update_place.ensures.world))
          (told_on configs (events ++ e ∷ []) c.step.new.self.world
          (g.S.EventSink.Took c.step.new.sink) (g.S.EventSink.Took w.schedule_frame.new.sink)
          w.in_ok-schedule_frame.ensures.told done)))
      | in_default-sent_frame w ↦ rw w.self-is (rw w.sink-is (
          subst (λ (x : WorldState). IsSimulated configs (events ++ e ∷ []) x
          (g.S.EventSink.Took c.step.new.sink)) (sym c.update_place.ensures.world) done))
    ]

pub returns-clause-answered : goal.returns-clause-answered
returns-clause-answered g c = λ configs events before.
    let a = c.in_ok-entry.ensures.entry configs events before in
    let e = event_of c.args.event.now in
    let l = answered_last (world_run (opening configs) (events ++ e ∷ [])).log
    (entries (world_run (opening configs) events).log) a.answer a.last in
    record { answer = a.answer; tells = a.tells; gave = l.0; refused = l.1; moved = l.2 }

pub returns-clause-spread : goal.returns-clause-spread
returns-clause-spread g c = λ rules configs events t steady goes_by before keeps.
    let a = c.in_ok-entry.ensures.entry configs events before in
    let e = event_of c.args.event.now in
    let after = world_run (opening configs) (events ++ e ∷ []) in
    let l = answered_last after.log (entries (world_run (opening configs) events).log) a.answer
    a.last in
    let run = c.args.self.now in
    let moved = c.update_place.new.self in
    let present : List Bool = run.present.items in
    let same : moved.present.items ≡ present =
    ap (λ (v : Vec Bool Global). v.items)
    (c.update_place.ensures.present ∙ c.step.ensures.radio.present) in
    let stands : RepresentsWorld moved.world after =
    subst (λ (x : WorldState). RepresentsWorld x after) (sym c.update_place.ensures.world)
    (c.in_ok-entry.ensures.run configs events before).stands in
    let kept : Keeps moved.queue moved.draws t =
    subst (λ (q : Queue). Keeps q moved.draws t)
    (sym (c.update_place.ensures.queue ∙ c.step.ensures.radio.queue))
    (subst (λ (ws : List ℕ). Keeps run.queue ws t)
    (sym (c.update_place.ensures.draws ∙ c.step.ensures.radio.draws)) keeps) in
    let goes = goes_on rules run moved goes_by
    (c.update_place.ensures.air ∙ c.step.ensures.radio.air)
    (c.update_place.ensures.every ∙ c.step.ensures.radio.every) in
    let frame : c.sent_frame.result ≡ given after.log =
    c.sent_frame.ensures.none (c.update_place.ensures.contentions ∙ c.step.ensures.none steady) a.answer
    a.tells ∙ sym l.0 in
    elim c.match-sent_frame.branch [
      | in-Some-sent_frame+in_ok-schedule_frame w ↦ rw w.self-is (
          subst (λ (o : Option ℕ). Keeps w.schedule_frame.new.self.queue
          w.schedule_frame.new.self.draws
          (spread_frame rules present e after o t)) (sym w.in-Some-sent_frame.is ∙ frame)
          (subst (λ (l : List Bool). Keeps w.schedule_frame.new.self.queue
          w.schedule_frame.new.self.draws
          (spread_frame rules l e after (Some w.in-Some-sent_frame.frame) t)) same
          (w.in_ok-schedule_frame.ensures.spread rules e after t refl refl goes stands kept)))
      | in_default-sent_frame w ↦ rw w.self-is (
          subst (λ (o : Option ℕ). Keeps moved.queue moved.draws
          (spread_frame rules present e after o t)) (sym w.in_default-sent_frame.is ∙ frame) kept)
    ]

use Rattle.std.proofs.Common.{◌≡◌, ◌∙◌, [], ◌∷◌, ◌++◌, ap, sym, subst, List, Bool, cond}
use Rattle.std.specs.Prelude.{Vec}
use Rattle.std.specs.declared.alloc.Global.{Global}
use Rattle.its_model.specs.World.{opening, world_run}
use Rattle.sim_simulation.specs.Simulated.{IsSimulated}
use Rattle.its_world.specs.Events.{event_of}
use Rattle.its_world.specs.State.{WorldState}
use Rattle.sim_queue.specs.Keeps.{Keeps}
use Rattle.sim_air.specs.Keeps.{IsAnswered}
use Rattle.sim_air_model.specs.Timetable.{come, comes, present_after, spread}
use Rattle.sim_queue.proofs.Keeping.{on_ok_both}
use Rattle.sim_air.proofs.Going.{always_ok}
use Rattle.sim_air.proofs.Keeping.{goes_on}
use Rattle.sim_air.proofs.Stepping.{filed_event}
use Rattle.sim_air.proofs.run.Run.do_outer.Goals as goal

pub returns-clause-timed : goal.returns-clause-timed
returns-clause-timed g c = λ rules configs a h.
    let run = c.args.self.now in
    let e = event_of c.args.event.now in
    let done = c.do_event.new.self in
    let last = c.admit.new.self in
    let After = g.S.EventSink.Took c.do_event.new.sink in
    let after = world_run (opening configs) (a.done ++ e ∷ []) in
    let goes = goes_on rules run done h.goes_by c.do_event.ensures.air c.do_event.ensures.every in
    let goes_last = goes_on rules done last goes c.admit.ensures.world.air
    c.admit.ensures.world.every in
    let present : done.present.items ≡ a.present =
    ap (λ (v : Vec Bool Global). v.items) c.do_event.ensures.present ∙ h.present in
    let said : IsAnswered c.in_ok-entry.entry after =
    c.in_ok-entry.ensures.answered configs a.done h.told in
    let told = c.in_ok-entry.ensures.run configs a.done h.told in
    let t = spread rules a.present e after a.timetable in
    let kept : Keeps done.queue done.draws t =
    subst (λ (l : List Bool). Keeps done.queue done.draws (spread rules l e after a.timetable))
    h.present (c.in_ok-entry.ensures.spread rules configs a.done a.timetable h.steady h.goes_by h.told
    h.keeps) in
    let steady = c.admit.ensures.world.contentions ∙ c.do_event.ensures.none h.steady in
    let Presence : Type 0 = last.present.items ≡ present_after done.present.items e after in
    let Timing : Type 0 = Keeps last.queue last.draws
    (cond (comes done.present.items e after) (come rules e.station e.moment t) t) in
    on_ok_both c.admit.result Presence Timing _
    (λ presence timing. filed_event rules configs a e last After goes_last steady
    (subst (λ (x : WorldState). IsSimulated configs (a.done ++ e ∷ []) x After)
    (sym c.admit.ensures.world.world) told)
    (subst (λ (l : List Bool). Keeps last.queue last.draws
    (cond (comes l e after) (come rules e.station e.moment t) t)) present timing)
    (subst (λ (l : List Bool). last.present.items ≡ present_after l e after) present presence))
    (c.admit.ensures.present after said) (c.admit.ensures.come rules after t goes said kept)

pub returns-clause-run : goal.returns-clause-run
returns-clause-run g c = λ configs events h.
    let e = event_of c.args.event.now in
    always_ok c.admit.result _
    (subst (λ (x : WorldState). IsSimulated configs (events ++ e ∷ []) x
    (g.S.EventSink.Took c.do_event.new.sink)) (sym c.admit.ensures.world.world)
    (c.in_ok-entry.ensures.run configs events h))

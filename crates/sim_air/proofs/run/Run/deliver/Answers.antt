use Rattle.std.proofs.Common.{◌≡◌, ◌∙◌, [], ◌∷◌, ◌++◌, ap, sym, subst, refl, List, Bool, cond}
use Rattle.std.proofs.Common.{false}
use Rattle.std.specs.Prelude.{OnOk, Vec}
use Rattle.std.specs.declared.alloc.Global.{Global}
use Rattle.its_model.specs.World.{Event, opening, world_run}
use Rattle.sim_simulation.specs.Simulated.{IsSimulated}
use Rattle.its_world.specs.Events.{event_of}
use Rattle.its_world.specs.State.{WorldState}
use Rattle.sim_queue.specs.Keeps.{Keeps}
use Rattle.sim_air.specs.Keeps.{IsAnswered, IsTimed}
use Rattle.sim_queue.specs.Waiting.{delivery_of, happening_of}
use Rattle.sim_air.specs.Runs.{SaysAsBefore}
use Rattle.sim_air_model.specs.Timetable.{come, comes, is_passed_over}
use Rattle.sim_air_model.specs.Timetable.{present_after, spread, take_one}
use Rattle.sim_queue.specs.Waits.{pending_of, planned_of}
use Rattle.sim_queue.proofs.Keeping.{on_ok, on_ok_both}
use Rattle.sim_air.proofs.Keeping.{goes_on, timed_on}
use Rattle.sim_air.proofs.Stepping.{own_done}
use Rattle.sim_air.proofs.Under.{told_on}
use Rattle.sim_air.proofs.run.Run.deliver.Goals as goal

pub returns-clause-timed : goal.returns-clause-timed
returns-clause-timed g c = λ rules configs a h0.
    let run = c.announce.new.self in
    let h = timed_on rules configs a c.args.self.now run (g.S.EventSink.Took c.args.sink.now)
    c.announce.ensures.world c.announce.ensures.present c.announce.ensures.queue
    c.announce.ensures.draws h0 in
    let w = delivery_of c.args.delivery.now in
    let ev = event_of c.event-event.result in
    let e = happening_of w in
    let is : ev ≡ e = c.event-event.ensures.event in
    let done = c.do_event.new.self in
    let last = c.come-came.new.self in
    let Before = g.S.EventSink.Took c.do_event.new.sink in
    let After = g.S.EventSink.Took c.come-came.new.sink in
    let after = world_run (opening configs) (a.done ++ e ∷ []) in
    let goes = goes_on rules run done h.goes_by c.do_event.ensures.air c.do_event.ensures.every in
    let goes_last = goes_on rules done last goes c.come-came.ensures.world.air
    c.come-came.ensures.world.every in
    let present : done.present.items ≡ a.present =
    ap (λ (v : Vec Bool Global). v.items) c.do_event.ensures.present ∙ h.present in
    let steady = c.come-came.ensures.world.contentions ∙ c.do_event.ensures.none h.steady in
    let run_it : is_passed_over a.present (planned_of w) ≡ false = refl in
    let told : IsSimulated configs (a.done ++ e ∷ []) done.world Before =
    subst (λ (x : Event). IsSimulated configs (a.done ++ x ∷ []) done.world Before) is
    (c.in_ok-entry.ensures.run configs a.done h.told) in
    let said : IsAnswered c.in_ok-entry.entry after =
    subst (λ (x : Event). IsAnswered c.in_ok-entry.entry
    (world_run (opening configs) (a.done ++ x ∷ []))) is
    (c.in_ok-entry.ensures.answered configs a.done h.told) in
    let t = spread rules a.present e after a.timetable in
    let kept : Keeps done.queue done.draws t =
    subst (λ (x : Event). Keeps done.queue done.draws
    (spread rules a.present x (world_run (opening configs) (a.done ++ x ∷ [])) a.timetable)) is
    (subst (λ (l : List Bool). Keeps done.queue done.draws (spread rules l ev
    (world_run (opening configs) (a.done ++ ev ∷ [])) a.timetable)) h.present
    (c.in_ok-entry.ensures.spread rules configs a.done a.timetable h.steady h.goes_by h.told
    h.keeps)) in
    let Presence : Type 0 = last.present.items ≡ present_after done.present.items ev after in
    let Timing : Type 0 = Keeps last.queue last.draws
    (cond (comes done.present.items ev after) (come rules ev.station ev.moment t) t) in
    subst (λ (v : WorldState). OnOk c.come-came.result (IsTimed rules configs
    (take_one rules configs a (pending_of w) a.timetable) (record last { world = v }) After))
    (sym c.reuse.ensures)
    (on_ok_both c.come-came.result _ _ (IsTimed rules configs
    (take_one rules configs a (pending_of w) a.timetable) last After)
    (λ (says : SaysAsBefore Before After) (both : Presence × Timing).
    own_done rules configs a w last After run_it goes_last steady
    (subst (λ (x : WorldState). IsSimulated configs (a.done ++ e ∷ []) x After)
    (sym c.come-came.ensures.world.world)
    (told_on configs (a.done ++ e ∷ []) done.world Before After says told))
    (subst (λ (l : List Bool). Keeps last.queue last.draws
    (cond (comes l e after) (come rules e.station e.moment t) t)) present
    (subst (λ (x : Event). Keeps last.queue last.draws
    (cond (comes done.present.items x after) (come rules x.station x.moment t) t)) is both.1))
    (subst (λ (l : List Bool). last.present.items ≡ present_after l e after) present
    (subst (λ (x : Event). last.present.items ≡ present_after done.present.items x after) is
    both.0)))
    c.come-came.ensures.told
    (on_ok_both c.come-came.result Presence Timing _ (λ x y. (x, y)) (c.come-came.ensures.present
    after said)
    (c.come-came.ensures.come rules after t goes said kept)))

pub returns-clause-run : goal.returns-clause-run
returns-clause-run g c = λ configs events h.
    let e = happening_of (delivery_of c.args.delivery.now) in
    let is : event_of c.event-event.result ≡ e = c.event-event.ensures.event in
    let done = c.do_event.new.self in
    let last = c.come-came.new.self in
    let Start = g.S.EventSink.Took c.args.sink.now in
    let Before = g.S.EventSink.Took c.do_event.new.sink in
    let After = g.S.EventSink.Took c.come-came.new.sink in
    let told : IsSimulated configs (events ++ e ∷ []) done.world Before =
    subst (λ (x : Event). IsSimulated configs (events ++ x ∷ []) done.world Before) is
    (c.in_ok-entry.ensures.run configs events
    (subst (λ (x : WorldState). IsSimulated configs events x Start)
    (sym c.announce.ensures.world.world) h)) in
    subst (λ (v : WorldState). OnOk c.come-came.result
    (IsSimulated configs (events ++ e ∷ []) v After)) (sym c.reuse.ensures)
    (on_ok c.come-came.result _ _
    (λ (says : SaysAsBefore Before After).
    subst (λ (x : WorldState). IsSimulated configs (events ++ e ∷ []) x After)
    (sym c.come-came.ensures.world.world)
    (told_on configs (events ++ e ∷ []) done.world Before After says told))
    c.come-came.ensures.told)

use Rattle.std.proofs.Common.{◌≡◌, ◌<◌, ◌∙◌, [], ◌∷◌, ◌++◌, ap, sym, subst, ℕ, List, Bool, cond, false}
use Rattle.std.proofs.Common.{length}
use Rattle.std.specs.Prelude.{Vec}
use Rattle.std.specs.declared.alloc.Global.{Global}
use Rattle.its_model.specs.World.{Event, opening, world_run}
use Rattle.sim_simulation.specs.Simulated.{IsSimulated}
use Rattle.its_world.specs.Events.{event_of}
use Rattle.its_world.specs.State.{WorldState}
use Rattle.sim_queue.specs.Keeps.{Keeps}
use Rattle.sim_air.specs.Keeps.{IsAnswered}
use Rattle.sim_queue.specs.Waiting.{happening_of}
use Rattle.sim_air.specs.Runs.{SaysAsBefore}
use Rattle.sim_air_model.specs.Timetable.{Timetable, come, comes, follow_all, is_passed_over}
use Rattle.sim_air_model.specs.Timetable.{is_refusal}
use Rattle.sim_air_model.specs.Timetable.{present_after, spread}
use Rattle.sim_queue.specs.Waits.{planned_of}
use Rattle.sim_queue.proofs.Keeping.{on_ok, on_ok_both}
use Rattle.sim_air.proofs.Going.{one_done}
use Rattle.sim_air.proofs.Keeping.{goes_on}
use Rattle.sim_air.proofs.Stepping.{follows, own_done, own_passed_over}
use Rattle.sim_air.proofs.Under.{told_on}
use Rattle.sim_air.proofs.run.Run.do_own.Goals as goal

pub returns-then-is_passed_over-clause-timed : goal.returns-then-is_passed_over-clause-timed
returns-then-is_passed_over-clause-timed g c = λ rules configs a h.
    own_passed_over rules configs a c.args.waiting.now c.args.self.now
    (g.S.EventSink.Took c.args.sink.now)
    (ap (λ (l : List Bool). is_passed_over l (planned_of c.args.waiting.now)) (sym h.present)
    ∙ sym c.is_passed_over.ensures ∙ c.if-is_passed_over.true) h

pub returns-clause-timed : goal.returns-clause-timed
returns-clause-timed g c = λ rules configs a h.
    let run = c.args.self.now in
    let w = c.args.waiting.now in
    let ev = event_of c.in_ok-event.event in
    let is : ev ≡ happening_of w = c.in_ok-event.ensures.event in
    let e = happening_of w in
    let done = c.do_event.new.self in
    let next = c.schedule_next.new.self in
    let last = c.come.new.self in
    let Before = g.S.EventSink.Took c.do_event.new.sink in
    let After = g.S.EventSink.Took c.come.new.sink in
    let after = world_run (opening configs) (a.done ++ e ∷ []) in
    let goes = goes_on rules run done h.goes_by c.do_event.ensures.air c.do_event.ensures.every in
    let goes_next = goes_on rules done next goes c.schedule_next.ensures.world.air
    c.schedule_next.ensures.world.every in
    let goes_last = goes_on rules next last goes_next c.come.ensures.world.air
    c.come.ensures.world.every in
    let steady = c.come.ensures.world.contentions ∙ c.schedule_next.ensures.world.contentions
    ∙ c.do_event.ensures.none h.steady in
    let present : next.present.items ≡ a.present =
    ap (λ (v : Vec Bool Global). v.items)
    (c.schedule_next.ensures.present ∙ c.do_event.ensures.present) ∙ h.present in
    let run_it : is_passed_over a.present (planned_of w) ≡ false =
    ap (λ (l : List Bool). is_passed_over l (planned_of w)) (sym h.present)
    ∙ sym c.is_passed_over.ensures ∙ c.if-is_passed_over.false in
    let told : IsSimulated configs (a.done ++ e ∷ []) done.world Before =
    subst (λ (x : Event). IsSimulated configs (a.done ++ x ∷ []) done.world Before) is
    (c.in_ok-entry.ensures.run configs a.done h.told) in
    let said : IsAnswered c.in_ok-entry.entry after =
    subst (λ (x : Event). IsAnswered c.in_ok-entry.entry
    (world_run (opening configs) (a.done ++ x ∷ []))) is
    (c.in_ok-entry.ensures.answered configs a.done h.told) in
    let s = spread rules a.present e after a.timetable in
    let kept : Keeps done.queue done.draws s =
    subst (λ (x : Event). Keeps done.queue done.draws
    (spread rules a.present x (world_run (opening configs) (a.done ++ x ∷ [])) a.timetable)) is
    (subst (λ (l : List Bool). Keeps done.queue done.draws (spread rules l ev
    (world_run (opening configs) (a.done ++ ev ∷ [])) a.timetable)) h.present
    (c.in_ok-entry.ensures.spread rules configs a.done a.timetable h.steady h.goes_by h.told
    h.keeps)) in
    let t = follow_all rules a.present (planned_of w) after a.timetable in
    let followed : Keeps next.queue next.draws t =
    subst (λ (u : Timetable). Keeps next.queue next.draws u)
    (follows w after s (is_refusal said.answer) said.refused)
    (c.in_ok-schedule_next.ensures.next after s said.answer told.stands said.tells kept) in
    let Presence : Type 0 = last.present.items ≡ present_after next.present.items ev after in
    let Timing : Type 0 = Keeps last.queue last.draws
    (cond (comes next.present.items ev after) (come rules ev.station ev.moment t) t) in
    on_ok_both c.come.result _ _ _
    (λ (says : SaysAsBefore Before After) (both : Presence × Timing).
    own_done rules configs a w last After run_it goes_last steady
    (subst (λ (x : WorldState). IsSimulated configs (a.done ++ e ∷ []) x After)
    (sym (c.come.ensures.world.world ∙ c.schedule_next.ensures.world.world))
    (told_on configs (a.done ++ e ∷ []) done.world Before After says told))
    (subst (λ (l : List Bool). Keeps last.queue last.draws
    (cond (comes l e after) (come rules e.station e.moment t) t)) present
    (subst (λ (x : Event). Keeps last.queue last.draws
    (cond (comes next.present.items x after) (come rules x.station x.moment t) t)) is both.1))
    (subst (λ (l : List Bool). last.present.items ≡ present_after l e after) present
    (subst (λ (x : Event). last.present.items ≡ present_after next.present.items x after) is
    both.0)))
    c.come.ensures.told
    (on_ok_both c.come.result Presence Timing _ (λ x y. (x, y)) (c.come.ensures.present after said)
    (c.come.ensures.come rules after t goes_next said followed))

pub returns-clause-going : goal.returns-clause-going
returns-clause-going g c = λ grows lt.
    let run = c.args.self.now in
    let ev = event_of c.in_ok-event.event in
    let here : ev.station ≡ c.args.waiting.now.station =
    ap (λ (x : Event). x.station) c.in_ok-event.ensures.event in
    let last = c.come.new.self in
    let Before = g.S.EventSink.Took c.do_event.new.sink in
    let After = g.S.EventSink.Took c.come.new.sink in
    on_ok c.come.result _ _
    (λ (says : SaysAsBefore Before After).
    one_done grows ev run.world last.world (g.S.EventSink.Took c.args.sink.now) After
    (subst (λ (n : ℕ). n < length run.world.stations) (sym here) lt)
    (λ configs events h. subst (λ (x : WorldState). IsSimulated configs (events ++ ev ∷ []) x After)
    (sym (c.come.ensures.world.world ∙ c.schedule_next.ensures.world.world))
    (told_on configs (events ++ ev ∷ []) c.do_event.new.self.world Before After says
    (c.in_ok-entry.ensures.run configs events h))))
    c.come.ensures.told

pub returns-then-is_passed_over-clause-going : goal.returns-then-is_passed_over-clause-going
returns-then-is_passed_over-clause-going g c = λ grows lt configs past h. h

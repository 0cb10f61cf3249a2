use Rattle.std.proofs.Common.{◌∙◌, [], ◌∷◌, ◌++◌, ap, sym, subst, List, Bool, false, ℕ}
use Rattle.std.proofs.Common.{append-nil}
use Rattle.std.specs.Prelude.{slice_set}
use Rattle.its_model.specs.World.{Event}
use Rattle.sim_scenario.specs.declared.events.event.FileEvent.{FileEvent}
use Rattle.sim_simulation.specs.Simulated.{IsSimulated}
use Rattle.its_world.specs.Events.{event_of}
use Rattle.its_world.specs.State.{WorldState}
use Rattle.sim_air.specs.AirRun.{events_in}
use Rattle.sim_queue.specs.Keeps.{Keeps}
use Rattle.sim_air.specs.Keeps.{IsTimed}
use Rattle.sim_air.specs.FileEvents.{filed_of}
use Rattle.sim_air_model.specs.Timetable.{of_file, take_one}
use Rattle.sim_queue.specs.declared.queue.Queue.{Queue}
use Rattle.sim_queue.proofs.Keeping.{on_ok}
use Rattle.sim_air.proofs.Keeping.{goes_on}
use Rattle.sim_air.proofs.Under.{told_on}
use Rattle.std.proofs.Common.{All, arith}
use Rattle.its_world.specs.Steps.{IsKept}
use Rattle.sim_air.proofs.run.Run.do_filed.Goals as goal

pub returns-in-Leaves-clause-timed : goal.returns-in-Leaves-clause-timed
returns-in-Leaves-clause-timed g c = λ rules configs a h.
    let run = c.args.self.now in
    let last = c.leave.new.self in
    let After = g.S.EventSink.Took c.leave.new.sink in
    let n = c.in-Leaves.station in
    on_ok c.leave.result _ _
    (λ says. subst (λ (f : FileEvent). IsTimed rules configs
    (take_one rules configs a (of_file (filed_of f)) a.timetable) last After) (sym c.in-Leaves.is)
    (record {
      goes_by = goes_on rules run last h.goes_by c.leave.ensures.world.air
          c.leave.ensures.world.every;
      told = subst (λ (x : WorldState). IsSimulated configs a.done x After)
          (sym c.leave.ensures.world.world)
          (told_on configs a.done run.world (g.S.EventSink.Took c.args.sink.now) After says h.told);
      keeps = subst (λ (q : Queue). Keeps q last.draws a.timetable) (sym c.leave.ensures.queue)
          (subst (λ (ws : List ℕ). Keeps run.queue ws a.timetable) (sym c.leave.ensures.draws)
          h.keeps);
      present = c.leave.ensures.present
          ∙ ap (λ (l : List Bool). slice_set l n false) h.present;
      steady = c.leave.ensures.world.contentions ∙ h.steady;
    }))
    c.leave.ensures.told

pub returns-in-Leaves-clause-run : goal.returns-in-Leaves-clause-run
returns-in-Leaves-clause-run g c = λ configs events h.
    let run = c.args.self.now in
    let last = c.leave.new.self in
    let After = g.S.EventSink.Took c.leave.new.sink in
    on_ok c.leave.result _ _
    (λ says. subst (λ (f : FileEvent). IsSimulated configs (events ++ events_in (filed_of f ∷ []))
    last.world After) (sym c.in-Leaves.is)
    (subst (λ (l : List Event). IsSimulated configs l last.world After) (sym (append-nil events))
    (subst (λ (x : WorldState). IsSimulated configs events x After)
    (sym c.leave.ensures.world.world)
    (told_on configs events run.world (g.S.EventSink.Took c.args.sink.now) After says h))))
    c.leave.ensures.told

pub do_outer-requires-clause-kept : goal.do_outer-requires-clause-kept
do_outer-requires-clause-kept g c =
    let released = c.args.self.now.world.released in
    let all : All (λ (e : Event). IsKept released e.what)
    (event_of c.in-Happens.event ∷ []) =
    subst (λ (f : FileEvent). All (λ (e : Event). IsKept released e.what)
    (events_in (filed_of f ∷ []))) c.in-Happens.is c.requires.kept in
    all 0 (event_of c.in-Happens.event) (omega arith)

use Rattle.std.proofs.Common.{◌≡◌, ℕ, List, [], ◌∷◌, ◌++◌, length, sym, ap, subst, ◌∙◌}
use Rattle.std.proofs.Common.{rules, arith, append_assoc}
use Rattle.std.specs.Vec.Iter.{into_iter_items}
use Rattle.its_station.specs.declared.call.Call.TheVariants as calls
use Rattle.its_world.specs.declared.event.Event.{Event}
use Rattle.cmd_mesh.specs.Calls.{mesh_run}
use Rattle.cmd_mesh.proofs.Runs.{RunsTo, run_passed, run_called, run_came, run_begun, run_cut}
use Rattle.cmd_mesh.proofs.Runs.{one_asked, none_asked, on_err}
use Rattle.cmd_mesh.proofs.mesh.Mesh.run.Goals as goal

pub loop-event-preserved-in_ok-rounds-in-Call : goal.loop-event-preserved-in_ok-rounds-in-Call
loop-event-preserved-in_ok-rounds-in-Call g c =
    let at = c.loop-event in
    let e = c.in-Some.event in
    let left = into_iter_items c.next.new.self in
    let steps : into_iter_items at.event-iterator ≡ e ∷ left = c.in-Some.ensures.steps.0 in
    record {
      all = append_assoc at.yielded (e ∷ []) left
          ∙ subst (λ (l : List Event). at.yielded ++ l ≡ c.args.events.items) steps
          at.invariant.all;
      left = let was = at.invariant.left in
          let gone = c.in-Some.ensures.steps.1 in
          let short = ap length steps in
          omega arith;
      run = λ models represent. (
          let call = calls.Own c.in-Call.own in
          let m = c.args.self.now.moment in
          let was = c.args.self.now.refused in
          let one = c.call.new.self in
          let two = c.rounds.new.self in
          let events = at.yielded ++ e ∷ [] in
          let run = at.invariant.run models represent in
          let asked = one_asked e c.in-Call.own c.in-Call.is in
          let called = run_called models m was at.yielded at.self.stations.items one.stations.items
          at.self.refused one.refused at.self.moment e call run asked
          (c.in_ok-call-in-Call.ensures.called (mesh_run models run.calls) run.made.stand) in
          let now = c.call.ensures.moment ∙ c.max-self.ensures in
          subst (λ (n : ℕ). RunsTo models m was events two.stations.items two.refused n)
          (sym c.rounds.ensures.moment)
          (run_came models m was events one.stations.items two.stations.items one.refused
          two.refused one.moment
          (subst (λ (n : ℕ). RunsTo models m was events one.stations.items one.refused n)
          (sym now) called)
          c.rounds.ensures.received));
    }

pub returns-in_err-rounds-in-Call-clause-stopped : goal.returns-in_err-rounds-in-Call-clause-stopped
returns-in_err-rounds-in-Call-clause-stopped g c = λ models represent. (
    let at = c.loop-event in
    let e = c.in-Some.event in
    let left = into_iter_items c.next.new.self in
    let steps : into_iter_items at.event-iterator ≡ e ∷ left = c.in-Some.ensures.steps.0 in
    let all = append_assoc at.yielded (e ∷ []) left
    ∙ subst (λ (l : List Event). at.yielded ++ l ≡ c.args.events.items) steps at.invariant.all in
    let call = calls.Own c.in-Call.own in
    let m = c.args.self.now.moment in
    let was = c.args.self.now.refused in
    let one = c.call.new.self in
    let two = c.rounds.new.self in
    let events = at.yielded ++ e ∷ [] in
    let run = at.invariant.run models represent in
    let asked = one_asked e c.in-Call.own c.in-Call.is in
    let called = run_called models m was at.yielded at.self.stations.items one.stations.items
    at.self.refused one.refused at.self.moment e call run asked
    (c.in_ok-call-in-Call.ensures.called (mesh_run models run.calls) run.made.stand) in
    let now = c.call.ensures.moment ∙ c.max-self.ensures in
    on_err _ (run_begun models m was events left c.args.events.items two.stations.items
    two.refused one.moment all
    (run_came models m was events one.stations.items two.stations.items one.refused two.refused
    one.moment
    (subst (λ (n : ℕ). RunsTo models m was events one.stations.items one.refused n) (sym now)
    called)
    c.rounds.ensures.received)))

pub returns-in_err-call-in-Call-clause-stopped : goal.returns-in_err-call-in-Call-clause-stopped
returns-in_err-call-in-Call-clause-stopped g c = λ models represent. (
    let at = c.loop-event in
    let e = c.in-Some.event in
    let left = into_iter_items c.next.new.self in
    let steps : into_iter_items at.event-iterator ≡ e ∷ left = c.in-Some.ensures.steps.0 in
    let all = subst (λ (l : List Event). at.yielded ++ l ≡ c.args.events.items) steps
    at.invariant.all in
    let call = calls.Own c.in-Call.own in
    let run = at.invariant.run models represent in
    let asked = one_asked e c.in-Call.own c.in-Call.is in
    on_err _ (run_cut models c.args.self.now.moment c.args.self.now.refused at.yielded left
    c.args.events.items at.self.stations.items c.call.new.self.stations.items at.self.refused
    c.call.new.self.refused at.self.moment e call all run asked
    (c.in_err-call-in-Call.ensures.stopped (mesh_run models run.calls) run.made.stand)))

pub loop-event-preserved : goal.loop-event-preserved
loop-event-preserved g c =
    let at = c.loop-event in
    let e = c.in-Some.event in
    let left = into_iter_items c.next.new.self in
    let steps : into_iter_items at.event-iterator ≡ e ∷ left = c.in-Some.ensures.steps.0 in
    record {
      all = append_assoc at.yielded (e ∷ []) left
          ∙ subst (λ (l : List Event). at.yielded ++ l ≡ c.args.events.items) steps
          at.invariant.all;
      left = let was = at.invariant.left in
          let gone = c.in-Some.ensures.steps.1 in
          let short = ap length steps in
          omega arith;
      run = λ models represent. (
          run_passed models c.args.self.now.moment c.args.self.now.refused at.yielded
          at.self.stations.items at.self.refused at.self.moment e
          (none_asked e c.in-Deliver.field-0 c.in-Deliver.is)
          (at.invariant.run models represent));
    }

use Rattle.std.proofs.Common.{true}
use Rattle.std.proofs.Common.{refl, ◌≡◌, ◌<◌, ◌+◌, ◌++◌, ◌∷◌, [], ℕ, List, sym, subst, ap, ◌∙◌}
use Rattle.std.proofs.Common.{append_assoc, map, slice_index_or, take, take_all}
use Rattle.std.proofs.lemmas.List.{map_more}
use Rattle.sim_air.specs.Moving.{DoesThere, IsMoving}
use Rattle.sim_air.specs.Outside.{opening_at}
use Rattle.sim_air_model.specs.Timetable.{Filed}
use Rattle.sim_air.proofs.Going.{one_done}
use Rattle.sim_air.proofs.Moved.{event_comes_at, none_at}
use Rattle.sim_air.proofs.step.open_ports.Goals as goal

pub loop-port-init : goal.loop-port-init
loop-port-init g c =
    record {
      standings = c.requires.standings;
      count = refl;
      moving = λ there. none_at true c.args.event.now.moment c.args.run.now
          (g.S.EventSink.Took c.args.sink.now);
      going = λ there configs past h. h;
    }

pub loop-port-preserved : goal.loop-port-preserved
loop-port-preserved g c =
    let old = c.loop-port.run in
    let new = c.do_outer.new.self in
    let e = c.args.event.now in
    let ports = c.args.ports.now in
    let i = c.loop-port.port-index in
    let f : ℕ → Filed = opening_at e.station e.moment in
    let port = slice_index_or ports i 0 in
    let came : List Filed = map f (take i ports) in
    let more : came ++ f port ∷ [] ≡ map f (take (i + 1) ports) =
    sym (map_more f ports i 0 c.loop-port-test.true) in
    let A = g.S.EventSink.Took c.args.sink.now in
    let B = g.S.EventSink.Took c.loop-port.sink in
    let C = g.S.EventSink.Took c.do_outer.new.sink in
    record {
      standings = c.in_ok-do_outer.ensures.standings;
      count = c.do_outer.ensures.count ∙ c.loop-port.invariant.count;
      moving = λ there rules configs made past end counted by within h.
          subst (λ (p : List Filed). IsMoving true rules configs made p e.moment e.moment end
          counted by
          new C) (append_assoc past came (f port ∷ []) ∙ ap (λ (l : List Filed). past ++ l) more)
          (event_comes_at true _ old new B C
          (subst (λ (n : ℕ). e.station < n) (sym c.loop-port.invariant.count) there)
          c.do_outer.ensures.released c.in_ok-do_outer.ensures.timed rules configs made
          (past ++ came) end counted by within
          (c.loop-port.invariant.moving there rules configs made past end counted by within h));
      going = λ there configs past h.
          one_done true _ old.world new.world B C
          (subst (λ (n : ℕ). e.station < n) (sym c.loop-port.invariant.count) there)
          c.in_ok-do_outer.ensures.run configs past
          (c.loop-port.invariant.going there configs past h);
    }

pub returns-clause-moving : goal.returns-clause-moving
returns-clause-moving g c =
    let e = c.args.event.now in
    let run = c.args.run.now in
    let ports = c.args.ports.now in
    let A = g.S.EventSink.Took c.args.sink.now in
    let B = g.S.EventSink.Took c.loop-port.sink in
    subst (λ (l : List ℕ). DoesThere e.station e.moment (map (opening_at e.station e.moment) l)
    run A c.loop-port.run B)
    (take_all c.loop-port.port-index ports c.loop-port-test.false) c.loop-port.invariant.moving

use Rattle.std.proofs.Common.{true}
use Rattle.std.proofs.Common.{refl, sym, subst, ◌<◌, ◌++◌, ◌∷◌, [], ℕ, List, map, append_assoc}
use Rattle.its_world.specs.Events.{event_of}
use Rattle.sim_air.specs.Moving.{IsMoving}
use Rattle.sim_air.specs.Outside.{opening_at}
use Rattle.sim_air_model.specs.Timetable.{Filed}
use Rattle.sim_air_model.specs.Timetable.Filed.{Happens}
use Rattle.sim_air.proofs.Going.{one_done, stays}
use Rattle.sim_air.proofs.Moved.{comes_at, says_moving}
use Rattle.sim_air.proofs.step.move_in.Goals as goal

pub do_outer-requires-clause-kept : goal.do_outer-requires-clause-kept
do_outer-requires-clause-kept g c = c.requires.kept c.args.run.now.world.released

pub returns-in_ok-note_coming-clause-moving : goal.returns-in_ok-note_coming-clause-moving
returns-in_ok-note_coming-clause-moving g c = λ there rules configs made past end counted by
    within h.
    let e = c.args.event.now in
    let one = c.do_outer.new.self in
    let A = g.S.EventSink.Took c.args.sink.now in
    let B = g.S.EventSink.Took c.do_outer.new.sink in
    let C = g.S.EventSink.Took c.open_ports.new.sink in
    let D = g.S.EventSink.Took c.note_coming.new.sink in
    let moves : List Filed = Happens (event_of e) ∷ [] in
    let opens : List Filed = map (opening_at e.station e.moment) c.args.ports.now in
    says_moving true rules configs made (past ++ Happens (event_of e) ∷ opens) e.moment e.moment end
    counted by c.open_ports.new.run C D c.in_ok-note_coming.ensures.told
    (subst (λ (p : List Filed). IsMoving true rules configs made p e.moment e.moment end counted by
    c.open_ports.new.run C) (append_assoc past moves opens)
    (c.in_ok-open_ports.ensures.moving
    (subst (λ (n : ℕ). e.station < n) (sym c.do_outer.ensures.count) there) rules configs made
    (past ++ moves) end counted by within
    (comes_at true (Happens (event_of e)) c.args.run.now one A B there c.do_outer.ensures.released
    c.in_ok-came.ensures.timed rules configs made past end counted by within h)))

pub returns-else-came-clause-moving : goal.returns-else-came-clause-moving
returns-else-came-clause-moving g c = λ there rules configs made past end counted by within h.
    let e = c.args.event.now in
    let one = c.do_outer.new.self in
    let A = g.S.EventSink.Took c.args.sink.now in
    let B = g.S.EventSink.Took c.do_outer.new.sink in
    let C = g.S.EventSink.Took c.open_ports.new.sink in
    let moves : List Filed = Happens (event_of e) ∷ [] in
    let opens : List Filed = map (opening_at e.station e.moment) c.args.ports.now in
    subst (λ (p : List Filed). IsMoving true rules configs made p e.moment e.moment end counted by
    c.open_ports.new.run C) (append_assoc past moves opens)
    (c.in_ok-open_ports.ensures.moving
    (subst (λ (n : ℕ). e.station < n) (sym c.do_outer.ensures.count) there) rules configs made
    (past ++ moves) end counted by within
    (comes_at true (Happens (event_of e)) c.args.run.now one A B there c.do_outer.ensures.released
    c.in_ok-came.ensures.timed rules configs made past end counted by within h))

pub returns-in_ok-note_coming-clause-going : goal.returns-in_ok-note_coming-clause-going
returns-in_ok-note_coming-clause-going g c = λ there configs past h.
    let e = c.args.event.now in
    let old = c.args.run.now.world in
    let one = c.do_outer.new.self.world in
    let opened = c.open_ports.new.run.world in
    let A = g.S.EventSink.Took c.args.sink.now in
    let B = g.S.EventSink.Took c.do_outer.new.sink in
    let C = g.S.EventSink.Took c.open_ports.new.sink in
    let D = g.S.EventSink.Took c.note_coming.new.sink in
    stays true opened opened C D refl c.in_ok-note_coming.ensures.told configs past
    (c.in_ok-open_ports.ensures.going
    (subst (λ (n : ℕ). e.station < n) (sym c.do_outer.ensures.count) there) configs past
    (one_done true (event_of e) old one A B there c.in_ok-came.ensures.run configs past h))

pub returns-else-came-clause-going : goal.returns-else-came-clause-going
returns-else-came-clause-going g c = λ there configs past h.
    let e = c.args.event.now in
    let old = c.args.run.now.world in
    let one = c.do_outer.new.self.world in
    let A = g.S.EventSink.Took c.args.sink.now in
    let B = g.S.EventSink.Took c.do_outer.new.sink in
    c.in_ok-open_ports.ensures.going
    (subst (λ (n : ℕ). e.station < n) (sym c.do_outer.ensures.count) there) configs past
    (one_done true (event_of e) old one A B there c.in_ok-came.ensures.run configs past h)

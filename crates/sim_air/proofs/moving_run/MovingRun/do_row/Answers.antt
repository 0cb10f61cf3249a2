use Rattle.std.proofs.Common.{true}
use Rattle.std.proofs.Common.{refl, sym, subst, ap, ◌∙◌, ◌<◌, ◌≡◌, ◌∷◌, ℕ, List, length, map}
use Rattle.its_model.specs.World.{Event}
use Rattle.its_world.specs.Events.{event_of}
use Rattle.sim_air.specs.Moving.{DoesAt}
use Rattle.sim_air.specs.Outside.{opening_at, row_move}
use Rattle.sim_air_model.specs.Timetable.{Filed}
use Rattle.sim_air_model.specs.Timetable.Filed.{Happens}
use Rattle.sim_queue.proofs.Keeping.{on_ok}
use Rattle.sim_air.proofs.UnderRows.{row_does, same_end}
use Rattle.sim_air.proofs.moving_run.MovingRun.do_row.Goals as goal

pub returns-clause-moving : goal.returns-clause-moving
returns-clause-moving g c =
    let old = c.args.self.now in
    let one = c.station_of.new.self in
    let row = c.args.row.now in
    let m = row.moment in
    let event = c.move_of-event.result in
    let is = c.move_of-event.ensures in
    let station = c.in_ok-found.found.station in
    let ports = c.in_ok-found.found.ports.now in
    let A = g.S.EventSink.Took c.args.sink.now in
    let B = g.S.EventSink.Took c.station_of.new.sink in
    let C = g.S.EventSink.Took c.move_in.new.sink in
    let there =
    subst (λ (n : ℕ). n < length one.run.world.stations) (sym is.station)
    c.in_ok-found.ensures.there in
    let came : (Happens (event_of event) ∷ map (opening_at event.station event.moment) ports)
    ≡ (Happens (row_move station row) ∷ map (opening_at station m) ports) =
    ap (λ (e : Event). Happens e ∷ map (opening_at event.station event.moment) ports) is.event
    ∙ ap (λ (n : ℕ). Happens (row_move station row) ∷ map (opening_at n event.moment) ports)
    is.station
    ∙ ap (λ (n : ℕ). Happens (row_move station row) ∷ map (opening_at station n) ports) is.moment in
    on_ok c.move_in.result _ _
    (λ moves.
    row_does row station ports old one _ A B C c.in_ok-found.ensures.moving
    (same_end old one c.station_of.ensures.until c.station_of.ensures.end) refl
    c.in_ok-note_row.ensures.from refl refl refl refl refl
    (subst (λ (l : List Filed). DoesAt true m l one.run B c.move_in.new.run C) came
    (subst (λ (n : ℕ). DoesAt true n (Happens (event_of event)
    ∷ map (opening_at event.station event.moment) ports) one.run B c.move_in.new.run C) is.moment
    (moves there))))
    c.move_in.ensures.moving

pub returns-clause-going : goal.returns-clause-going
returns-clause-going g c =
    let one = c.station_of.new.self in
    let is = c.move_of-event.ensures in
    let there =
    subst (λ (n : ℕ). n < length one.run.world.stations) (sym is.station)
    c.in_ok-found.ensures.there in
    on_ok c.move_in.result _ _
    (λ moves configs past h. moves there configs past (c.in_ok-found.ensures.going configs past h))
    c.move_in.ensures.going

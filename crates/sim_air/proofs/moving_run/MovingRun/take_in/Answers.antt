use Rattle.std.proofs.Common.{true}
use Rattle.std.proofs.Common.{◌∙◌, ◌+◌, ◌*◌, subst, sym, ap, ℕ, length, ◌≤◌, add-zero}
use Rattle.sim_air.specs.UnderRows.{CameUnder, IsComing, IsUnder, class_in, end_in}
use Rattle.sim_air.specs.declared.moving_run.Outside.{Outside}
use Rattle.sim_queue.proofs.Keeping.{on_ok}
use Rattle.sim_air.proofs.Moved.{stations_made}
use Rattle.sim_air.proofs.Outside.{event_done_under, leave_done}
use Rattle.sim_air.proofs.moving_run.MovingRun.take_in.Goals as goal

pub returns-in-Row-clause-moving : goal.returns-in-Row-clause-moving
returns-in-Row-clause-moving g c =
    let old = c.args.self.now in
    let moment = c.args.coming.moment in
    on_ok c.take_row.result _ _
    (λ takes rules configs made past came h outside.
    takes rules configs made past came moment
    (subst (IsComing old moment) c.in-Row.is c.requires.next.is) c.requires.until h
    (subst (λ (n : ℕ). CameUnder (length configs) (length made) came past n old)
    (ap (λ (o : Outside). 3 * moment + class_in o) c.in-Row.is ∙ add-zero (3 * moment)) outside))
    c.take_row.ensures.moving

pub returns-in-Departure-clause-moving : goal.returns-in-Departure-clause-moving
returns-in-Departure-clause-moving g c =
    let old = c.args.self.now in
    let moment = c.args.coming.moment in
    let does = c.do_departure.ensures in
    let begin = c.args.rows.now.begin in
    let clock = c.args.rows.now.before in
    let A = g.S.EventSink.Took c.args.sink.now in
    let B = g.S.EventSink.Took c.do_departure.new.sink in
    on_ok c.do_departure.result _ _
    (λ leaves rules configs made past came h outside.
    leave_done rules configs made past came begin clock _ moment old c.do_departure.new.self A B
    (stations_made true rules configs made past moment moment (end_in old) old.count.before
    old.count.delivered_by old.run A h.moving) does.moves does.row does.events.0 does.events.1
    c.requires.until h
    (subst (λ (n : ℕ). CameUnder (length configs) (length made) came past n old)
    (ap (λ (o : Outside). 3 * moment + class_in o) c.in-Departure.is) outside) leaves)
    does.moving

pub returns-in-Event-clause-moving : goal.returns-in-Event-clause-moving
returns-in-Event-clause-moving g c =
    let old = c.args.self.now in
    let moment = c.args.coming.moment in
    let does = c.do_next_event.ensures in
    let begin = c.args.rows.now.begin in
    let clock = c.args.rows.now.before in
    let A = g.S.EventSink.Took c.args.sink.now in
    let B = g.S.EventSink.Took c.do_next_event.new.sink in
    let event = subst (IsComing old moment) c.in-Event.is c.requires.next.is in
    let e = event.0 in
    on_ok c.do_next_event.result _ _
    (λ done rules configs made past came h outside.
    event_done_under rules configs made past came begin clock e old c.do_next_event.new.self A B
    (stations_made true rules configs made past moment moment (end_in old) old.count.before
    old.count.delivered_by old.run A h.moving) event.1 does.moves does.row does.departures
    (does.events
    e event.1).0
    (does.events e event.1).1
    (subst (λ (n : ℕ). n ≤ end_in old) (sym event.2) c.requires.until)
    (subst (λ (n : ℕ). IsUnder rules configs made past n n begin clock old A) (sym event.2) h)
    (subst (λ (n : ℕ). CameUnder (length configs) (length made) came past (3 * n + 2) old)
    (sym event.2)
    (subst (λ (n : ℕ). CameUnder (length configs) (length made) came past n old)
    (ap (λ (o : Outside). 3 * moment + class_in o) c.in-Event.is) outside)) done)
    (does.moving e event.1)

use Rattle.std.proofs.Common.{true}
use Rattle.std.proofs.Common.{◌≡◌, ◌≤◌, ◌∙◌, ℕ, refl, sym, subst, ap, Some, arith, length, ◌*◌}
use Rattle.sim_moves.specs.declared.row.Row.{Row}
use Rattle.sim_air.specs.UnderRows.{CameUnder, IsUnder, IsUnderSome, end_in}
use Rattle.sim_queue.proofs.Keeping.{on_ok}
use Rattle.sim_air.proofs.Moved.{stations_made}
use Rattle.sim_air.proofs.Outside.{row_done, same_came, turn_of_row}
use Rattle.sim_air.proofs.UnderRows.{row_read, row_taken}
use Rattle.sim_air.specs.Going.{GoesOn}
use Rattle.sim_air.specs.declared.run.Run.{Run}
use Rattle.sim_air.proofs.Going.{always_ok}
use Rattle.sim_air.proofs.moving_run.MovingRun.take_row.Goals as goal

pub do_row-requires-clause-row : goal.do_row-requires-clause-row
do_row-requires-clause-row g c =
    c.args.self.now.next c.in-Some.row (sym c.take.ensures.value ∙ c.in-Some.is)

pub returns-clause-moving : goal.returns-clause-moving
returns-clause-moving g c =
    let old = c.args.self.now in
    let row = c.in-Some.row in
    let m = row.moment in
    let begin = c.args.rows.now.begin in
    let clock = c.args.rows.now.before in
    let done = c.do_row.new.self in
    let last = c.read_row.new.self in
    let read = c.read_row.ensures in
    let A = g.S.EventSink.Took c.args.sink.now in
    let B = g.S.EventSink.Took c.do_row.new.sink in
    let here : old.row ≡ Some row = sym c.take.ensures.value ∙ c.in-Some.is in
    on_ok c.read_row.result _ _
    (λ next. λ rules configs made past came moment coming within h outside.
    let same : Some row ≡ Some coming.0 = sym here ∙ coming.1 in
    let one : row ≡ coming.0 = cc in
    let is : m ≡ moment = ap (λ (r : Row). r.moment) one ∙ coming.2 in
    let under : IsUnder rules configs made past m m begin clock old A =
    subst (λ (n : ℕ). IsUnder rules configs made past n n begin clock old A) (sym is) h in
    let came_so : CameUnder (length configs) (length made) came past (3 * m) old =
    subst (λ (n : ℕ). CameUnder (length configs) (length made) came past (3 * n) old) (sym is)
    outside in
    let ahead = under.ahead row here in
    let got = row_done rules configs made past came begin clock row old _ done A B
    (stations_made true rules configs made past m m (end_in old) old.count.before
    old.count.delivered_by
    old.run A under.moving) c.do_row.ensures.moves c.do_row.ensures.events.0
    c.do_row.ensures.events.1 (subst (λ (n : ℕ). n ≤ end_in old) (sym is) within) refl refl
    (row_taken rules configs made past m m begin clock old _ A c.take.ensures.after refl refl refl
    refl refl refl refl under) came_so c.in_ok-do_row.ensures.moving in
    let on = row_read rules configs got.0 got.1 m m begin clock c.read_row.new.rows.before done
    last B
    read.run read.departures read.events.0 read.events.1 read.frames.0 read.frames.1 read.until
    read.end next (λ n le. omega (arith, ahead, le)) got.3 in
    subst (λ (n : ℕ). IsUnderSome rules configs n c.read_row.new.rows.before last B)
    (sym read.begin)
    (record {
      last = m;
      from = m;
      made = got.0;
      past = got.1;
      came = got.2;
      turn = 3 * m;
      under = on;
      outside =
          same_came (length configs) (length got.0) got.2 got.1 (3 * m) (3 * m) done last read.moves
          read.events.0 read.events.1 (omega arith) (turn_of_row m last on.comings) got.4;
    }))
    read.row

pub returns-clause-going : goal.returns-clause-going
returns-clause-going g c =
    let old = c.args.self.now in
    let A = g.S.EventSink.Took c.args.sink.now in
    let B = g.S.EventSink.Took c.do_row.new.sink in
    always_ok c.read_row.result _
    (subst (λ (r : Run). GoesOn true old.run.world A r.world B) (sym c.read_row.ensures.run)
    c.in_ok-do_row.ensures.going)

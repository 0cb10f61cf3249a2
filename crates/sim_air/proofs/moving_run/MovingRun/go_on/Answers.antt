use Rattle.std.proofs.Common.{◌≡◌, ◌≤◌, ◌+◌, ◌∙◌, ℕ, refl, subst, sym, ap, arith, length, All, true}
use Rattle.sim_air.specs.Moving.{IsMoving}
use Rattle.sim_air.specs.UnderRows.{ComesFrom, end_in, turn_in}
use Rattle.sim_air.specs.declared.frames.FrameCount.{FrameCount}
use Rattle.sim_queue.specs.declared.scheduled.Scheduled.{Scheduled}
use Rattle.sim_air.proofs.Moved.{comes_to, ended}
use Rattle.sim_air.proofs.UnderRows.{comes_later, end_given, from_coming, is_last_of, is_next_of}
use Rattle.sim_air.proofs.UnderRows.{limits, none_until, own_under}
use Rattle.sim_air.proofs.Outside.{is_outside, next_came, same_came, still_comes}
use Rattle.sim_air.proofs.moving_run.MovingRun.go_on.Goals as goal

pub returns-then-taken-clause-moving : goal.returns-then-taken-clause-moving
returns-then-taken-clause-moving g c = λ is rules configs u.
    let old = c.args.self.now in
    let B = g.S.EventSink.Took c.take_turn.new.sink in
    let next = c.next_until-coming.ensures in
    let end = c.end-end.ensures.end in
    let limit = c.limit_of-limit.result in
    let l = limits c.next_until-coming.result old limit c.end-end.result next.until next.next
    next.none c.limit_of-limit.ensures.some c.limit_of-limit.ensures.none in
    let most = l.0 in
    let done = c.in_ok-taken.ensures.taken c.if-taken.true true rules configs u.made u.past u.last
    u.from (end_in old) (omega (arith, end, most)) u.under.moving in
    let before = done.1 in
    record {
      last = done.0;
      from = done.0 + 1;
      made = u.made;
      past = u.past;
      came = u.came;
      turn = u.turn;
      under =
          own_under rules configs u.made u.past done.0 c.args.rows.now.begin
          c.args.rows.now.before old _ B refl refl refl refl refl
          (comes_later old limit (done.0 + 1) (omega (arith, before)) l.1) u.under.ahead done.2;
      outside =
          same_came (length configs) (length u.made) u.came u.past u.turn u.turn old _ refl
          refl refl (omega arith)
          (still_comes u.turn old _ refl refl refl refl u.outside.next) u.outside;
    }

pub returns-in_ok-take_in-in-Some-clause-moving : goal.returns-in_ok-take_in-in-Some-clause-moving
returns-in_ok-take_in-in-Some-clause-moving g c = λ is rules configs u.
    let old = c.args.self.now in
    let coming = c.in-Some.coming in
    let m = coming.moment in
    let n = is_next_of c.next_until-coming.result old c.limit_of-limit.result coming
    c.in-Some.is c.next_until-coming.ensures.next c.limit_of-limit.ensures.some in
    let left = c.in_ok-taken.ensures.left c.if-taken.false in
    let B = g.S.EventSink.Took c.take_turn.new.sink in
    let run = c.take_turn.new.run in
    let moving = subst (λ (f : FrameCount). IsMoving true rules configs u.made u.past m m
    (end_in old) f.before f.delivered_by run B) (sym left.count)
    (comes_to true rules configs u.made u.past u.last u.from (end_in old) old.count.before
    old.count.delivered_by m run B
    (subst (λ (k : ℕ). All (λ (w : Scheduled). k ≤ w.moment) run.queue.own) n.1 left.late)
    (from_coming old u.from m coming.outside n.0.is u.under.comings)
    (left.stays true rules configs u.made u.past u.last u.from (end_in old) old.count.before
    old.count.delivered_by u.under.moving)) in
    let first = n.0.first in
    let turn = n.0.turn in
    let outside = next_came (length configs) (length u.made) u.came u.past u.turn old coming n.0
    u.outside in
    c.in_ok-take_in-in-Some.ensures.moving rules configs u.made u.past u.came
    (record {
      moving = moving;
      comings = record { row = first.row; departures = first.departures; events = first.events };
      ahead = u.under.ahead;
    })
    (same_came (length configs) (length u.made) u.came u.past (turn_in coming) (turn_in coming)
    old _
    refl refl refl (omega arith)
    (record {
      row = turn.row;
      since = turn.since;
      by_since = turn.by_since;
      departures = turn.departures;
      events = turn.events;
    }) outside)

pub returns-in-None-clause-ended : goal.returns-in-None-clause-ended
returns-in-None-clause-ended g c = λ is rules configs asked by u.
    let old = c.args.self.now in
    let end = end_in old in
    let none = none_until c.next_until-coming.result old c.end-end.result c.in-None.is
    c.next_until-coming.ensures.none in
    let comes : ComesFrom (end + 1) old =
    subst (λ n. ComesFrom (n + 1) old) c.end-end.ensures.end none in
    let last : c.limit_of-limit.result ≡ end + 1 =
    is_last_of c.next_until-coming.result c.limit_of-limit.result c.end-end.result
    c.in-None.is c.limit_of-limit.ensures.none
    ∙ ap (λ n. n + 1) c.end-end.ensures.end in
    let left = c.in_ok-taken.ensures.left c.if-taken.false in
    let run = c.take_turn.new.run in
    ended rules configs u.made u.past u.last u.from end old.count.before old.count.delivered_by
    run (g.S.EventSink.Took c.take_turn.new.sink) old.moves.now asked old.until
    (end_given old.until old.greatest)
    (subst (λ (k : ℕ). All (λ (w : Scheduled). k ≤ w.moment) run.queue.own) last left.late)
    (left.stays true rules configs u.made u.past u.last u.from end old.count.before
    old.count.delivered_by u.under.moving)
    (is_outside (length configs) (length u.made) u.came u.past u.turn end old asked by comes
    u.outside)

pub returns-in_ok-take_in-in-Some-clause-going : goal.returns-in_ok-take_in-in-Some-clause-going
returns-in_ok-take_in-in-Some-clause-going g c = λ configs past h.
    c.in_ok-take_in-in-Some.ensures.going configs past
    (c.in_ok-taken.ensures.going true configs past h)

use Rattle.std.proofs.Common.{◌≤◌, ◌+◌, ℕ, [], List, subst, arith, All}
use Rattle.std.proofs.Common.{false, take, take_all}
use Rattle.std.proofs.lemmas.List.{length-map}
use denote.Ref.{Bor}
use Rattle.sim_air.specs.Delivered.{KeepsFrom}
use Rattle.sim_air.specs.Moving.{IsMoving}
use Rattle.sim_air.specs.FileEvents.{IsFiledInRange, filed_in, filed_of}
use Rattle.sim_queue.specs.declared.scheduled.Scheduled.{Scheduled}
use Rattle.sim_air_model.specs.Timetable.{Filed}
use Rattle.sim_scenario.specs.Airs.{moment_of}
use Rattle.sim_scenario.specs.declared.events.event.FileEvent.{FileEvent}
use Rattle.sim_air.specs.AirRun.{events_in}
use Rattle.sim_air.specs.Going.{IsGoing}
use Rattle.sim_air.proofs.Going.{done_next, file_done}
use Rattle.sim_air.proofs.Filing.{all_kept, filed_next, filed_over, next_of_file}
use Rattle.sim_air.proofs.Filing.{this_of_file}
use Rattle.sim_air.proofs.filed_run.FiledRun.go_on.Goals as goal

pub returns-then-taken-clause-filing : goal.returns-then-taken-clause-filing
returns-then-taken-clause-filing g c = λ is rules configs u.
    let old = c.args.self.now in
    let limit = c.limit-limit.ensures in
    let most = limit.most in
    let done = c.in_ok-taken.ensures.taken c.if-taken.true false rules configs []
    (take old.taken (filed_in old.due.items)) u.last u.from old.end most u.moving in
    let before = done.1 in
    record {
      last = done.0;
      from = done.0 + 1;
      moving = done.2;
      next = λ e at. let here = limit.next e at in omega (arith, here, before);
      near = omega (arith, most, before);
    }

pub do_filed-requires-clause-range : goal.do_filed-requires-clause-range
do_filed-requires-clause-range g c =
    this_of_file IsFiledInRange c.args.self.now.due.items c.args.self.now.taken c.in-Some.filed
    c.in-Some.ensures.some c.requires.ranges

pub do_filed-requires-clause-kept : goal.do_filed-requires-clause-kept
do_filed-requires-clause-kept g c =
    let old = c.args.self.now in
    all_kept c.take_turn.new.run.world.released old.lowest c.in-Some.filed.now
    (c.in_ok-taken.ensures.kept c.requires.kept)
    (this_of_file (KeepsFrom old.lowest) old.due.items old.taken c.in-Some.filed
    c.in-Some.ensures.some c.requires.deliveries)

pub returns-clause-filing : goal.returns-clause-filing
returns-clause-filing g c = λ is rules configs u.
    let old = c.args.self.now in
    let e = c.in-Some.filed in
    let m = moment_of e.now in
    let here = c.in-Some.ensures.some in
    let within = this_of_file (λ x. moment_of x ≤ old.end) old.due.items old.taken e here
    old.within in
    record {
      last = m;
      from = m;
      moving = filed_next rules configs old.due.items old.taken e u.last u.from old.end
          c.limit-limit.result old.count c.take_turn.new.count old.run c.take_turn.new.run
          c.do_filed.new.self (g.S.EventSink.Took c.args.sink.now)
          (g.S.EventSink.Took c.take_turn.new.sink) (g.S.EventSink.Took c.do_filed.new.sink)
          here (c.limit-limit.ensures.next e here) (u.next e here) within
          (c.in_ok-taken.ensures.left c.if-taken.false)
          c.do_filed.ensures.released c.in_ok-do_filed.ensures.timed u.moving;
      next = λ next at. next_of_file old.due.items old.taken e next old.sorted here at;
      near = omega (arith, within);
    }

pub returns-in_default-clause-timed : goal.returns-in_default-clause-timed
returns-in_default-clause-timed g c = λ is rules configs file due u.
    let old = c.args.self.now in
    let left = c.in_ok-taken.ensures.left c.if-taken.false in
    let run = c.take_turn.new.run in
    let all = c.in_default.ensures.none in
    let long = length-map old.due.items (λ (e : Bor FileEvent). filed_of e.now) in
    let A = g.S.EventSink.Took c.take_turn.new.sink in
    filed_over rules configs file (filed_in old.due.items) u.last u.from old.end old.count.before
    old.count.delivered_by run A due
    (subst (λ (k : ℕ). All (λ (w : Scheduled). k ≤ w.moment) run.queue.own)
    (c.limit-limit.ensures.last all) left.late) u.near
    (subst (λ (l : List Filed). IsMoving false rules configs [] l u.last u.from old.end
    old.count.before old.count.delivered_by run A)
    (take_all old.taken (filed_in old.due.items) (omega (arith, all, long)))
    (left.stays false rules configs [] (take old.taken (filed_in old.due.items)) u.last u.from
    old.end old.count.before old.count.delivered_by u.moving))

pub returns-then-taken-clause-going : goal.returns-then-taken-clause-going
returns-then-taken-clause-going g c = λ is configs h.
    c.in_ok-taken.ensures.going false configs _ h

pub returns-clause-going : goal.returns-clause-going
returns-clause-going g c = λ is configs h.
    let old = c.args.self.now in
    let e = c.in-Some.filed in
    done_next configs old.due.items old.taken e c.take_turn.new.run.world
    c.do_filed.new.self.world (g.S.EventSink.Took c.take_turn.new.sink)
    (g.S.EventSink.Took c.do_filed.new.sink) c.in-Some.ensures.some c.in_ok-do_filed.ensures.run
    (c.in_ok-taken.ensures.going false configs
    (events_in (take old.taken (filed_in old.due.items))) h)

pub returns-in_default-clause-file : goal.returns-in_default-clause-file
returns-in_default-clause-file g c = λ is configs file due h.
    let old = c.args.self.now in
    let run = c.take_turn.new.run in
    let all = c.in_default.ensures.none in
    let long = length-map old.due.items (λ (e : Bor FileEvent). filed_of e.now) in
    let A = g.S.EventSink.Took c.take_turn.new.sink in
    file_done configs file (filed_in old.due.items) old.end run.world A due
    (subst (λ (l : List Filed). IsGoing false configs (events_in l) run.world A)
    (take_all old.taken (filed_in old.due.items) (omega (arith, all, long)))
    (c.in_ok-taken.ensures.going false configs
    (events_in (take old.taken (filed_in old.due.items))) h))

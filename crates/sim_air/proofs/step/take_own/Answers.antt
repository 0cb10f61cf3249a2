use Rattle.std.proofs.Common.{◌≡◌, true, refl, arith, subst}
use Rattle.std.specs.Prelude.{IfOk}
use Rattle.sim_queue.specs.Waiting.{delivery_of}
use Rattle.sim_queue.specs.declared.queue.Queue.{Queue}
use Rattle.sim_air.specs.Moving.{IsTaken, TakesOwn}
use Rattle.sim_air.specs.declared.run.Run.{Run}
use Rattle.sim_air.proofs.Going.{lets_go}
use Rattle.sim_air.proofs.Moved.{is_taken, still_taken}
use Rattle.sim_air.proofs.step.take_own.Goals as goal

-- a run with another queue
abbrev with_queue : Run → Queue → Run
with_queue run queue = record {
  alloc = run.alloc;
  air = run.air;
  every = run.every;
  world = run.world;
  queue = queue;
  draws = run.draws;
  present = run.present;
  standings = run.standings;
  hearers = run.hearers;
  done = run.done;
  announced = run.announced;
  contentions = run.contentions;
}

pub returns-in-Some-clause-taken : goal.returns-in-Some-clause-taken
returns-in-Some-clause-taken g c = λ is grows rules configs made past last from end most h.
    let old = c.args.run.now in
    let before = c.args.count.now in
    let w = delivery_of c.in-Some.delivery in
    let A = g.S.EventSink.Took c.args.sink.now in
    let early = c.in-Some.ensures.before in
    let one : Run = with_queue old c.pop_delivery_before.new.self in
    let taken : IsTaken grows rules configs made past from end before.before before.delivered_by w
    one A =
    is_taken grows rules configs made past last from end before.before before.delivered_by old one
    A w refl refl refl refl refl refl c.pop_delivery_before.ensures.put c.in-Some.ensures.left
    c.in-Some.ensures.first (omega (arith, most, early)) h in
    let after = c.release_delivered.new.count in
    let goes = c.release_delivered.ensures in
    let still = still_taken grows rules configs made past from end before.before
    before.delivered_by after.before after.delivered_by one c.release_delivered.new.run A w
    goes.air goes.every goes.queue goes.draws goes.present goes.none goes.stands goes.counted
    goes.frames
    taken in (
      w.moment,
      early,
      c.in_ok-deliver.ensures.moving grows rules configs made past from end after.before
          after.delivered_by still,
    )

pub returns-clause-taken : goal.returns-clause-taken
returns-clause-taken g c =
    subst (λ (queue : Queue). IfOk c.take_planned.result (λ taken. taken ≡ true →
    TakesOwn c.args.limit c.args.count.now (with_queue c.args.run.now queue)
    (g.S.EventSink.Took c.args.sink.now) c.take_planned.new.count c.take_planned.new.run
    (g.S.EventSink.Took c.take_planned.new.sink)))
    c.in_default.ensures.none c.take_planned.ensures.taken

pub returns-in-Some-clause-going : goal.returns-in-Some-clause-going
returns-in-Some-clause-going g c = λ grows configs past h.
    let old = c.args.run.now in
    c.in_ok-deliver.ensures.going grows configs past
    (lets_go grows old.world c.release_delivered.new.run.world (g.S.EventSink.Took c.args.sink.now)
    c.release_delivered.ensures.stands configs past h)

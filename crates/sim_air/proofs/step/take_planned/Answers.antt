use Rattle.std.proofs.Common.{◌≤◌, List, All, refl, arith, subst, sym}
use Rattle.sim_queue.specs.declared.scheduled.Scheduled.{Scheduled}
use Rattle.sim_air.specs.Moving.{IsTaken}
use Rattle.sim_air.specs.declared.run.Run.{Run}
use Rattle.sim_air.proofs.Going.{lets_go}
use Rattle.sim_air.proofs.Moved.{is_taken, stays_moving, still_taken}
use Rattle.sim_air.proofs.step.take_planned.Goals as goal

pub returns-clause-taken : goal.returns-clause-taken
returns-clause-taken g c = λ is grows rules configs made past last from end most h.
    let old = c.args.run.now in
    let before = c.args.count.now in
    let w = c.in-Some.waiting in
    let A = g.S.EventSink.Took c.args.sink.now in
    let early = c.in-Some.ensures.before in
    let one : Run = record {
      alloc = old.alloc;
      air = old.air;
      every = old.every;
      world = old.world;
      queue = c.pop_before.new.self;
      draws = old.draws;
      present = old.present;
      standings = old.standings;
      hearers = old.hearers;
      done = old.done;
      announced = old.announced;
      contentions = old.contentions;
    } in
    let taken : IsTaken grows rules configs made past from end before.before before.delivered_by w
    one A =
    is_taken grows rules configs made past last from end before.before before.delivered_by old one
    A w refl refl refl refl refl refl c.pop_before.ensures.put c.in-Some.ensures.left
    c.in-Some.ensures.first (omega (arith, most, early)) h in
    let after = c.release_delivered.new.count in
    let goes = c.release_delivered.ensures in
    let still = still_taken grows rules configs made past from end before.before
    before.delivered_by after.before after.delivered_by one c.release_delivered.new.run A w
    goes.air goes.every goes.queue goes.draws goes.present goes.none goes.stands goes.counted
    goes.frames
    taken in (
      w.moment,
      early,
      c.in_ok-do_own.ensures.moving grows rules configs made past from end after.before
          after.delivered_by still,
    )

pub returns-in_default-clause-left : goal.returns-in_default-clause-left
returns-in_default-clause-left g c = λ is.
    let A = g.S.EventSink.Took c.args.sink.now in
    record {
      late = subst (λ (xs : List Scheduled). All (λ (w : Scheduled). c.args.limit ≤ w.moment) xs)
          (sym c.in_default.ensures.none) c.in_default.ensures.late;
      count = refl;
      world = refl;
      stays = stays_moving c.args.run.now _ A refl refl refl refl refl refl c.pop_before.ensures.put
          c.in_default.ensures.none;
    }

pub returns-clause-kept : goal.returns-clause-kept
returns-clause-kept g c = λ kept.
    subst (λ n. n ≤ c.args.lowest) (sym c.do_own.ensures.released)
    (c.release_delivered.ensures.kept kept)

pub returns-clause-going : goal.returns-clause-going
returns-clause-going g c = λ grows configs past h.
    let old = c.args.run.now in
    c.in_ok-do_own.ensures.going grows configs past
    (lets_go grows old.world c.release_delivered.new.run.world (g.S.EventSink.Took c.args.sink.now)
    c.release_delivered.ensures.stands configs past h)

use Rattle.std.proofs.Common.{◌+◌, ◌≤◌, arith, subst, sym}
use Rattle.std.proofs.Math.Nat.{min-le_left, min-le_right}
use Rattle.std.specs.List.{AllByRecursion}
use Rattle.sim_air.specs.Moving.{Awaits}
use Rattle.sim_air.proofs.Moved.{let_go, no_more}
use Rattle.sim_air.proofs.frames.release_delivered.Goals as goal

pub overflow_add-count : goal.overflow_add-count
overflow_add-count c =
    let moment = c.requires.moment in
    let delay = c.delay.ensures.bound in
    omega (arith, moment, delay)

pub returns-then-moment-count-clause-frames : goal.returns-then-moment-count-clause-frames
returns-then-moment-count-clause-frames c = λ waiting from awaits.
    let run = c.args.run.now in
    let count = c.args.count.now in
    let by = c.if-moment-count.true in
    let few = min-le_left count.before c.args.lowest in
    let is = c.min.ensures in
    let fewer = min-le_left c.min.result c.lowest_kept-kept.result in
    let next = c.min-then-moment-count.ensures in
    subst (λ n. AllByRecursion (Awaits c.release.new.self.released c.frames-count.result
    (c.args.moment + n) (c.args.moment + run.air.delay)) waiting) (sym c.delay.ensures.delay)
    (let_go run.world.released count.before count.delivered_by
    (c.args.moment + run.air.delay) c.args.moment c.release.new.self.released
    c.frames-count.result waiting (omega (arith, by))
    (λ k kept counted. subst (λ n. n ≤ k) (sym c.release.ensures.released)
    (no_more run.world.released c.min-then-moment-count.result _ k kept
    (omega (arith, is, few, next, fewer, counted)))) from awaits)

pub returns-then-moment-count-clause-kept : goal.returns-then-moment-count-clause-kept
returns-then-moment-count-clause-kept c = λ kept.
    let few = min-le_right c.args.count.now.before c.args.lowest in
    let is = c.min.ensures in
    let fewer = min-le_left c.min.result c.lowest_kept-kept.result in
    let next = c.min-then-moment-count.ensures in
    subst (λ n. n ≤ c.args.lowest) (sym c.release.ensures.released)
    (no_more c.args.run.now.world.released c.min-then-moment-count.result _ c.args.lowest kept
    (omega (arith, is, few, next, fewer)))

use Rattle.std.proofs.Common.{◌≡◌, ◌≤◌, HoldsAt, subst, arith}
use Rattle.sim_queue.specs.declared.places.place_index.Standing.{Standing}
use Rattle.sim_queue.specs.PlaceIndexes.{row_key}
use Rattle.sim_queue.proofs.Counts.{to_behind, to_before}
use Rattle.sim_queue.proofs.places.place_index.end_for.Goals as goal

pub returns-then-from-end-clause-point : goal.returns-then-from-end-clause-point
returns-then-from-end-clause-point c =
    let last = c.end_behind-end in
    to_behind (λ s. row_key c.args.range s.place) c.args.order.now c.args.from last.result
    c.args.key c.if-from-end.true last.ensures.bound.1 c.requires.rising last.ensures.passed
    last.ensures.stops

pub returns-else-from-end-clause-point : goal.returns-else-from-end-clause-point
returns-else-from-end-clause-point c =
    let xs = c.args.order.now in
    let range = c.args.range in
    let key = c.args.key in
    let first = c.end_behind-end in
    let here : first.result ≡ c.args.from =
    omega (arith, c.if-from-end.false, first.ensures.bound) in
    to_before (λ s. row_key range s.place) xs c.args.from c.end_before.result key c.requires.from
    c.end_before.ensures.bound c.requires.rising
    (subst (HoldsAt (λ (s : Standing). key ≤ row_key range s.place) xs) here
    (first.ensures.stops (omega (arith, here, c.requires.from))))
    c.end_before.ensures.passed c.end_before.ensures.stops

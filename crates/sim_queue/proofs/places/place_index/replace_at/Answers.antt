use Rattle.std.proofs.Common.{◌≡◌, ◌+◌, ◌-◌, ◌≤◌, get_or, arith, rules, subst}
use Rattle.sim_queue.proofs.Shifts.{moved_up, moved_down}
use Rattle.sim_queue.proofs.places.place_index.replace_at.Goals.{then-from-to, else-from-to}
use Rattle.sim_queue.proofs.places.place_index.replace_at.Goals as goal

pub returns : goal.returns
returns c =
    let xs = c.args.order.now.items in
    let from = c.args.from in
    let to = c.args.to in
    elim c.if-from-to.branch [
      | then-from-to w ↦ rw w.order-is (moved_up xs w.copy_within.new.self.items from to
          c.args.standing w.if-from-to.true c.requires.to (search rules)
          (λ k d ge lt.
          let at : from + 1 + (k - from) ≡ k + 1 = omega (arith, ge) in
          subst (λ j. get_or w.copy_within.new.self.items k d ≡ get_or xs j d) at
          (w.copy_within.ensures.by_index.0 k d ge (omega (arith, ge, lt))))
          w.copy_within.ensures.by_index.1
          (λ k d gt. w.copy_within.ensures.by_index.2 k d
          (omega (arith, gt, w.if-from-to.true))))
      | else-from-to w ↦
          let ms = w.copy_within-else-from-to.new.self.items in
          let moves = w.copy_within-else-from-to.ensures.by_index in
          let le : to ≤ from = w.if-from-to.false in
          rw w.order-is (moved_down xs ms from to
          c.args.standing le c.requires.from (search rules)
          (λ k d ge lt.
          let at : to + (k + 1 - (to + 1)) ≡ k = omega (arith, ge) in
          subst (λ j. get_or ms (k + 1) d ≡ get_or xs j d) at
          (moves.0 (k + 1) d (omega (arith, ge)) (omega (arith, ge, lt))))
          (λ k d le'. moves.1 k d (omega (arith, le')))
          (λ k d gt. moves.2 k d (omega (arith, gt, le))))
    ]

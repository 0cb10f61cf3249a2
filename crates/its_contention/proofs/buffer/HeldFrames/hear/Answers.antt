use Rattle.std.proofs.Common.{◌≡◌, ◌+◌, arith, subst, sym, ap, ◌∙◌, length, min}
use Rattle.its_model.specs.Contention.{after_copy, cancelled_by}
use Rattle.its_contention.specs.Buffer.{Buffer}
use Rattle.its_contention.specs.Tests.{AreTested}
use Rattle.its_contention.proofs.buffer.HeldFrames.hear.Goals as goal

pub returns-clause-state : goal.returns-clause-state
returns-clause-state g c = λ test tested.
    let at_fields = subst (λ (b : Buffer g.row.F.Denot). AreTested g.C.Fn c.args.is_copy test
    b.held)
    (sym c.self.view_is) tested in
    let lists = c.sort_out.ensures.lists test at_fields in
    let xs = c.self.inside.held.items in
    let held_is : c.sort_out.new.held.items
    ≡ after_copy c.self.inside.rule.copies test c.args.sender xs =
    lists.0 ∙ ap (λ n. after_copy n test c.args.sender xs) c.copies-copies.ensures.value in
    let left_is : c.sort_out.new.left.items
    ≡ cancelled_by c.self.inside.rule.copies test c.args.sender xs =
    lists.1 ∙ ap (λ n. cancelled_by n test c.args.sender xs) c.copies-copies.ensures.value in
    let size : c.len-cancelled.result ≡ length c.sort_out.new.left.items = omega arith in
    let count : c.saturating_add-self-inside.result
    ≡ min (c.self.inside.counts.cancelled + length (cancelled_by c.self.inside.rule.copies test
    c.args.sender xs)) 18446744073709551615 =
    c.saturating_add-self-inside.ensures
    ∙ ap (λ n. min (c.self.inside.counts.cancelled + n) 18446744073709551615) (size
    ∙ ap length left_is) in
    rw (← c.self.view_is) (cc (held_is, left_is, count))

use Rattle.std.proofs.Common.{◌+◌, ◌*◌, ℕ, List, length, take, drop, ap, sym, ◌∙◌}
use Rattle.std.proofs.Common.{arith}
use Rattle.its_model.specs.History.{with_number}
use Rattle.its_loctable.specs.Rows.{numbers_at, IsRow, put_before}
use Rattle.its_loctable.proofs.RowLemmas.{noted, others_kept}
use Rattle.its_loctable.proofs.sorted.slot.SortedSlot.note.Goals as goal

pub returns-in-Some-clause-noted : goal.returns-in-Some-clause-noted
returns-in-Some-clause-noted c =
    let flat = c.args.numbers.now.items in
    let self = c.args.self.now in
    let remember = c.args.remembered in
    let kept = c.min-kept.result in
    let n = c.in-Some.number in
    ap (λ (l : List ℕ). take (kept + 1) (drop (self.row * remember) l))
    (c.insert_first.ensures.items ∙ ap (λ m. put_before flat m kept n) c.start_of-start.ensures)
    ∙ noted flat (self.row * remember) self.count kept remember n
    (omega (arith, c.requires.row.0, c.args.numbers.now.ok.0)) c.requires.row.1 c.requires.some
    (omega (arith, c.min-kept.ensures)) (omega (arith, c.min-kept.ensures))
    (λ le. omega (arith, c.min-kept.ensures, le))
    (λ le. omega (arith, c.min-kept.ensures, le, c.requires.some))
    ∙ ap (λ o. take remember (with_number o (numbers_at remember flat self))) (sym c.in-Some.is)

pub returns-in-Some-clause-others : goal.returns-in-Some-clause-others
returns-in-Some-clause-others c = λ s other few.
    let flat = c.args.numbers.now.items in
    let self = c.args.self.now in
    let remember = c.args.remembered in
    let kept = c.min-kept.result in
    let n = c.in-Some.number in
    let fits : IsRow remember (length flat) self.row =
    omega (arith, c.requires.row.0, c.args.numbers.now.ok.0) in
    ap (λ (l : List ℕ). numbers_at remember l s)
    (c.insert_first.ensures.items ∙ ap (λ m. put_before flat m kept n) c.start_of-start.ensures)
    ∙ others_kept flat self.row kept remember n fits
    (omega (arith, c.min-kept.ensures, c.requires.some)) s other few

use Rattle.std.proofs.Common.{ap, sym, ◌∙◌, reverse, take}
use Rattle.its_model.specs.History.{with_number}
use Rattle.its_loctable.proofs.NumberLemmas.{noted-some}
use Rattle.its_loctable.proofs.renewal.note.Goals as goal

pub returns-in-Some-clause-noted : goal.returns-in-Some-clause-noted
returns-in-Some-clause-noted c =
    let old = c.args.recent.now in
    noted-some old.limit c.in-Some.number old.numbers c.note.new.self.numbers c.note.ensures.numbers
    ∙ ap (λ o. take old.limit (with_number o (reverse old.numbers))) (sym c.in-Some.is)

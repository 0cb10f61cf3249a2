use Rattle.std.proofs.Common.{set, ap, ◌∙◌, arith}
use Rattle.its_loctable.proofs.RowLemmas.{put_is, put_moved}
use Rattle.its_loctable.proofs.sorted.rows.insert_first.Goals as goal

pub returns-clause-items : goal.returns-clause-items
returns-clause-items c =
    let flat = c.args.numbers.now.items in
    let start = c.args.start in
    let kept = c.args.kept in
    ap (λ l. set l start c.args.number) (c.copy_within.ensures.items
    ∙ put_moved flat start kept) ∙ put_is flat start kept c.args.number
    (omega (arith, c.requires, c.args.numbers.now.ok.0))

use Rattle.std.proofs.Common.{ap, sym, ◌∙◌, true≢false, fold, take, None, arith}
use Rattle.std.specs.Option.{option_map}
use Rattle.its_loctable.specs.Heard.{shown}
use Rattle.its_loctable.specs.Ordered.{contained}
use Rattle.its_loctable.specs.Wanted.{is_wanted, better}
use Rattle.its_loctable.proofs.LeastLemmas.{walk_more}
use Rattle.its_loctable.proofs.ordered.OrderedTable.least.Goals as goal
use Rattle.its_loctable.proofs.ordered.OrderedTable.least.Goals.{in-Some, in_default}

pub loop-i-preserved : goal.loop-i-preserved
loop-i-preserved c =
    let es = c.args.self.now.slots.entries in
    let p = is_wanted c.args.wanted in
    elim c.match-get_index.branch [
      | in-Some w ↦ w.best-is
          ∙ w.improve-best.ensures
          (fold (better p c.args.now) None (contained (take c.loop-i.i es))) c.loop-i.invariant
          ∙ ap (option_map shown)
          (sym (walk_more p c.args.now es c.loop-i.i _ (sym w.in-Some.ensures.entry)))
      | in_default w ↦
          absurd (true≢false
          (sym (w.in_default.ensures.found.1 (omega (arith, c.len-i-end.ensures.len)))))
    ]

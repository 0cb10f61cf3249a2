use Rattle.std.proofs.Common.{◌+◌, ap, sym, ◌∙◌, true≢false, ltb, arith}
use Rattle.std.proofs.lemmas.Bool.{lt-ltb}
use Rattle.its_loctable.proofs.LeastLemmas.{count_next}
use Rattle.its_loctable.proofs.ordered.OrderedTable.first_expired.Goals as goal
use Rattle.its_loctable.proofs.ordered.OrderedTable.first_expired.Goals.{in-Some+else-slot-now}
use Rattle.its_loctable.proofs.ordered.OrderedTable.first_expired.Goals.{in_default}

pub loop-i-preserved : goal.loop-i-preserved
loop-i-preserved c =
    let es = c.args.self.now.slots.entries in
    elim c.match-get_index.branch [
      | in-Some+else-slot-now w ↦ count_next (λ e. ltb c.args.now e.1.until) es c.loop-i.i _
          (sym w.in-Some.ensures.entry) (lt-ltb _ _ w.if-slot-now.false)
          ∙ ap (λ n. n + 1) c.loop-i.invariant
      | in_default w ↦
          absurd (true≢false
          (sym (w.in_default.ensures.found.1 (omega (arith, c.len-i-end.ensures.len)))))
    ]

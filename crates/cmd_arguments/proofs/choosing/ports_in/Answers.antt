use Rattle.std.proofs.Common.{◌+◌, ◌<◌, ◌∙◌, ℕ, List, [], arith, get_or, length, map, take, subst, sym}
use Rattle.std.specs.Borrow.{Bor}
use Rattle.std.specs.Str.Parse.{ParsesUnsigned}
use Rattle.cmd_arguments.specs.Options.{ArePorts}
use Rattle.cmd_arguments.proofs.Words.{done, port_more}
use Rattle.cmd_arguments.proofs.choosing.ports_in.Goals as goal

pub loop-word-preserved : goal.loop-word-preserved
loop-word-preserved c =
    let words : List (Bor (List ℕ)) = c.args.words.now in
    let i : ℕ = c.loop-word.word-index in
    let other : Bor (List ℕ) = record { ref_ptr = (0, 0); now = [] } in
    let lt : i < length words = omega arith in
    let added = done _ _ c.add.result (sym c.is_err.ensures.value ∙ c.if-is_err.false)
    c.add.ensures in
    subst (λ (l : List ℕ). ArePorts (map (λ w. w.now) (take (i + 1) words)) l) (sym added.1.1)
    (port_more words i other _ c.in-Ok.port lt c.loop-word.invariant
    (subst (λ r. ParsesUnsigned 16 10 (get_or words i other).now r) c.in-Ok.is c.parse.ensures.value.0))

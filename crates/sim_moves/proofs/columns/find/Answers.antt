use Rattle.std.proofs.Common.{◌≡◌, ◌≢◌, ◌+◌, List, ℕ, Some, subst, sym, ◌∙◌, arith}
use Rattle.std.specs.Prelude.{slice_get}
use Rattle.sim_moves.specs.Columns.{IsFoundBelow, texts}
use Rattle.sim_moves.specs.declared.columns.Occurrence.{Occurrence}
use Rattle.sim_moves.proofs.Names.{text_at, none_then, found_more}
use Rattle.sim_moves.proofs.columns.find.Goals as goal
use Rattle.sim_moves.proofs.columns.find.Goals.{then-is_named+in-Nowhere, else-is_named}

pub loop-place-preserved : goal.loop-place-preserved
loop-place-preserved c =
    let names : List (List ℕ) = texts c.args.names.now in
    let name : List ℕ = c.index-names-place.result.items in
    let n : ℕ = c.loop-place.place in
    let here : slice_get names n ≡ Some name =
    text_at c.args.names.now n c.index-names-place.result c.loop-place-test.true
    c.index-names-place.is in
    elim c.if-is_named.branch [
      | then-is_named+in-Nowhere w ↦
          let same : name ≡ c.args.word.now =
          sym c.deref.ensures.value ∙ c.is_named.ensures.0 w.if-is_named.true in
          subst (λ (f : Occurrence). IsFoundBelow (n + 1) names c.args.word.now f) (sym w.found-is)
          (none_then names c.args.word.now name n here same
          (subst (λ (f : Occurrence). IsFoundBelow n names c.args.word.now f) w.in-Nowhere.is
          c.loop-place.invariant))
      | else-is_named w ↦
          let other : name ≢ c.args.word.now =
          λ same. grind (
            arith,
            same,
            c.deref.ensures.value,
            c.is_named.ensures.1,
            w.if-is_named.false,
          ) in
          subst (λ (f : Occurrence). IsFoundBelow (n + 1) names c.args.word.now f) (sym w.found-is)
          (found_more names c.args.word.now name n c.loop-place.found here other
          c.loop-place.invariant)
    ]

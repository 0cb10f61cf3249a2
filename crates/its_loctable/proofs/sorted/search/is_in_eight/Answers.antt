use Rattle.std.proofs.Common.{◌≡◌, get_or, inl, inr, ap, sym, subst, ◌∙◌, arith}
use Rattle.std.proofs.lemmas.Bool.{or_parts, eqb-false, cases_lt}
use Rattle.std.proofs.lemmas.List.{get_or_default}
use Rattle.its_gnvalue.specs.Values.{mid_of}
use Rattle.its_loctable.proofs.sorted.search.is_in_eight.Goals as goal

pub loop-i-init : goal.loop-i-init
loop-i-init c = λ none k d lt within. absurd (omega arith)

pub loop-i-preserved : goal.loop-i-preserved
loop-i-preserved c = λ none k d lt within is.
    let i = c.loop-i.i in
    let eight = c.args.eight.now in
    let parts = or_parts c.loop-i.found c.eq-found.result none in
    elim (cases_lt k i) [
      | inl before ↦ c.loop-i.invariant parts.0 k d before within is
      | inr last ↦
          let same : k ≡ i = omega (arith, last, lt) in
          eqb-false c.mid.result c.args.mid (sym c.eq-found.ensures ∙ parts.1)
          (c.mid.ensures.value
          ∙ ap mid_of (c.index-eight-i.is
          ∙ sym (get_or_default eight i d c.index-eight-i.result (omega (arith, within, same))))
          ∙ subst (λ n. mid_of (get_or eight n d) ≡ c.args.mid) same is)
    ]

pub returns : goal.returns
returns c = λ none k d lt within is.
    c.loop-i.invariant none k d (omega (arith, lt, c.loop-i-test.false)) within is

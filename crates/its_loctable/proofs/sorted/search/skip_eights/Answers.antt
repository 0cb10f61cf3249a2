use Rattle.std.proofs.Common.{◌≡◌, ◌+◌, ◌-◌, drop, get_or, inl, inr, ap, sym, subst, ◌∙◌}
use Rattle.std.proofs.Common.{arith}
use Rattle.std.proofs.lemmas.Bool.{cases_lt}
use Rattle.std.proofs.lemmas.List.{get_or-take, get_or-drop, length-take-le, length-drop}
use Rattle.its_gnvalue.specs.Values.{mid_of}
use Rattle.its_loctable.proofs.sorted.search.skip_eights.Goals as goal

pub loop-at-preserved : goal.loop-at-preserved
loop-at-preserved c =
    let at = c.loop-at.at in
    let all = c.args.addresses.now in
    let size : at + 8 - at ≡ 8 = omega arith in
    record {
      within = omega (arith, c.loop-at-test.true, c.loop-at.invariant.within);
      none = λ k d lt within is. elim (cases_lt k at) [
        | inl before ↦ c.loop-at.invariant.none k d before within is
        | inr here ↦
            let same : at + (k - at) ≡ k = omega (arith, here) in
            c.is_in_eight.ensures c.if-is_in_eight.false (k - at) d (omega (arith, lt, here))
            (omega (
              arith,
              lt,
              here,
              size,
              length-take-le (at + 8 - at) (drop at all)
                  (omega
                  (arith, size, length-drop at all, c.loop-at-test.true)),
            ))
            (ap mid_of (get_or-take (at + 8 - at) (drop at all) (k - at) d
            (omega (arith, lt, here, size))
            ∙ get_or-drop at all (k - at) d)
            ∙ subst (λ n. mid_of (get_or all n d) ≡ c.args.mid) (sym same) is)
      ];
    }

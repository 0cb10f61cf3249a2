-- What a record is chosen by.
use Rattle.std.proofs.Common.{◌≡◌, ◌∙◌, ℕ, List, length, take, min, inl, inr, sym, ap, arith}
use Rattle.std.proofs.lemmas.Bool.{cases_lt}
use Rattle.std.proofs.lemmas.List.{take_all}

-- as many octets as are kept at most, or all, where there are fewer
pub take_most : (w : List ℕ) (most n : ℕ) → n ≡ min (length w) most → take n w ≡ take most w
take_most w most n is =
    elim (cases_lt (length w) most) [
      | inl less ↦ take_all n w (omega (arith, is, less)) ∙ sym (take_all most w (omega (arith, less)))
      | inr more ↦ ap (λ (k : ℕ). take k w) (omega (arith, is, more))
    ]

-- Where the first line feed is.
use Rattle.std.proofs.Common.{arith, ◌≡◌, ◌≤◌, ◌<◌, ◌+◌, ◌++◌, ◌∙◌, ℕ, Bool, true, false, Some}
use Rattle.std.proofs.Common.{None, List, [], ◌∷◌}
use Rattle.std.proofs.Common.{All, length, take, get_or, get_or-take, length-take-le, refl, sym, ap}
use Rattle.std.proofs.Common.{subst, cond}
use Rattle.std.proofs.Common.{eq-eqb, eqb-true, ltb-false, ◌==◌, nat_lt}
use Rattle.std.specs.List.{position, position_or_len}
use Rattle.std.proofs.lemmas.List.{take_more}
use Rattle.std.proofs.lemmas.List.Elements.{All-from_get_or}
use Rattle.std.proofs.lemmas.List.Quantifiers.{position-Some}
use Rattle.std.proofs.lemmas.List.Sums.{fails_before_first}

abbrev feed : ℕ → Bool
feed octet = octet == 10

no_feed : (x : ℕ) → feed x ≡ false → ¬ (x ≡ 10)
no_feed x other is = absurd (cc (other, eq-eqb x 10 is))

-- before it there is none
pub before_feed : (octets : List ℕ) (end : ℕ) → position (λ octet. octet == 10) octets ≡ Some end
    → (end < length octets) × All (λ octet. ¬ (octet ≡ 10)) (take end octets)
    × (take (end + 1) octets ≡ take end octets ++ 10 ∷ [])
before_feed octets end is =
    let (within, at, before) = position-Some feed octets end 0 is in (
      within,
      All-from_get_or (λ octet. ¬ (octet ≡ 10)) (take end octets) 0 (λ i lt.
          let short : i < end = omega (arith, length-take-le end octets (omega arith)) in
          subst (λ x. ¬ (x ≡ 10)) (sym (get_or-take end octets i 0 short))
          (no_feed (get_or octets i 0) (before i short))),
      take_more octets end 0 within ∙ ap (λ x. take end octets ++ x ∷ []) (eqb-true _ _ at),
    )

none_there : (b : Bool) (i : ℕ) → cond b (Some i) None ≡ None → b ≡ false
none_there true i e = absurd (cc e)
none_there false i e = refl

-- there is none
pub without_feed : (octets : List ℕ) → position (λ octet. octet == 10) octets ≡ None
    → All (λ octet. ¬ (octet ≡ 10)) octets
without_feed octets is =
    let past : length octets ≤ position_or_len feed octets =
    ltb-false _ _ (none_there (nat_lt (position_or_len feed octets) (length octets))
    (position_or_len feed octets) is) in
    All-from_get_or (λ octet. ¬ (octet ≡ 10)) octets 0 (λ i lt.
    no_feed (get_or octets i 0) (fails_before_first feed octets i 0 (omega arith)))

-- Who is absent at the start.
use Rattle.std.proofs.Common.{◌≡◌, ℕ, zero, suc, ◌<◌, List, [], ◌∷◌, Bool, true, false, cond, take}
use Rattle.std.proofs.Common.{length, get_or, refl, sym, ap, ◌∙◌, arith, not}
use Rattle.std.proofs.Math.Dec.{eqb-suc-zero, eqb-zero-suc, eqb-suc-suc}
use Rattle.std.specs.Prelude.{nat_eq}
use Rattle.sim_simulation.specs.Presences.{starts_absent}

-- with one more that is present
pub one_present : (present : List Bool) (n station : ℕ) → n < length present
    → get_or present n false ≡ true
    → starts_absent (take (suc n) present) station ≡ starts_absent (take n present) station
one_present [] n station lt is = absurd (omega (arith, lt))
one_present (x ∷ present) zero zero lt is = ap not is
one_present (x ∷ present) zero (suc station) lt is = refl
one_present (x ∷ present) (suc n) zero lt is = refl
one_present (x ∷ present) (suc n) (suc station) lt is =
    one_present present n station (omega (arith, lt)) is

-- with one more that is absent
pub one_absent : (present : List Bool) (n station : ℕ) → n < length present
    → get_or present n false ≡ false
    → starts_absent (take (suc n) present) station
    ≡ cond (nat_eq n station) true (starts_absent (take n present) station)
one_absent [] n station lt is = absurd (omega (arith, lt))
one_absent (x ∷ present) zero zero lt is = ap not is
one_absent (x ∷ present) zero (suc station) lt is =
    ap (λ (b : Bool). cond b true false) (sym (eqb-zero-suc station))
one_absent (x ∷ present) (suc n) zero lt is =
    ap (λ (b : Bool). cond b true (not x)) (sym (eqb-suc-zero n))
one_absent (x ∷ present) (suc n) (suc station) lt is =
    one_absent present n station (omega (arith, lt)) is
    ∙ ap (λ (b : Bool). cond b true (starts_absent (take n present) station))
    (sym (eqb-suc-suc n station))

-- Digits and points.
use Rattle.std.proofs.Common.{◌≡◌, ◌≢◌, ℕ, zero, suc, ◌+◌, ◌*◌, ◌^◌, ◌<◌, ◌≤◌, List, [], ◌∷◌, ◌++◌}
use Rattle.std.proofs.Common.{length, length-take, get_or, take, drop}
use Rattle.std.proofs.Common.{refl, sym, ap, subst, ◌∙◌, arith, eq-eqb, length-append, length-drop}
use Rattle.std.proofs.Common.{add-one, ◌-◌, Bool}
use Rattle.std.specs.Prelude.{if◌then◌else◌}
use Rattle.std.proofs.lemmas.Bool.{ne_eqb}
use Rattle.std.proofs.lemmas.List.{take_all}
use Rattle.std.specs.Char.{digit_value}
use Rattle.std.specs.Str.Parse.{AllDigits, digits_value, digits_value_after}
use Rattle.std.specs.Io.BufRead.{drop_through}
use Rattle.std.proofs.lemmas.Int.Digits.{digits_more, digits_value-lt, digits_value_more}
use Rattle.std.proofs.lemmas.Str.Parse.{digits_value-take-le}
use Rattle.std.proofs.Math.Nat.{pow-le-pow_right, pow-succ', one-le-pow}
use Rattle.sim_moves.specs.Decimals.{before_point, behind_point}

pub scaled : (n d p z : ℕ) → (n * 10 + d) * p + z ≡ n * (10 * p) + ((0 * 10 + d) * p + z)
scaled n d p z = omega arith

-- digits behind others
pub value_after : (n : ℕ) (cs : List ℕ)
    → digits_value_after 10 n cs ≡ n * 10 ^ length cs + digits_value_after 10 0 cs
value_after n [] = omega arith
value_after n (c ∷ cs) =
    let d : ℕ = digit_value c in
    let p : ℕ = 10 ^ length cs in
    let z : ℕ = digits_value_after 10 0 cs in
    value_after (n * 10 + d) cs ∙ scaled n d p z
    ∙ ap (λ x. n * x + ((0 * 10 + d) * p + z)) (sym (pow-succ' 10 (length cs)))
    ∙ ap (λ x. n * 10 ^ suc (length cs) + x) (sym (value_after (0 * 10 + d) cs))

pub value_from : (n : ℕ) (xs ys : List ℕ)
    → digits_value_after 10 n (xs ++ ys) ≡ digits_value_after 10 (digits_value_after 10 n xs) ys
value_from n [] ys = refl
value_from n (x ∷ xs) ys = value_from (n * 10 + digit_value x) xs ys

pub value_of_both : (xs ys : List ℕ)
    → digits_value 10 xs * 10 ^ length ys + digits_value 10 ys ≡ digits_value 10 (xs ++ ys)
value_of_both xs ys = sym (value_from 0 xs ys ∙ value_after (digits_value 10 xs) ys)

pub digits_of_both : (xs ys : List ℕ) → AllDigits 10 xs → AllDigits 10 ys → AllDigits 10 (xs ++ ys)
digits_of_both [] ys h k = k
digits_of_both (x ∷ xs) ys h k = (h.0, digits_of_both xs ys h.1 k)

-- of so many digits
pub few_digits : (most : ℕ) (ds : List ℕ) → AllDigits 10 ds → length ds ≤ most
    → digits_value 10 ds < 10 ^ most
few_digits most ds digits few =
    omega (arith, digits_value-lt 10 ds digits, pow-le-pow_right {n = 10} (omega arith) few)

-- one more digit fits
pub next_digit : (ds : List ℕ) (i : ℕ) → AllDigits 10 ds → length ds ≤ 19 → i < length ds
    → digits_value 10 (take i ds) * 10 + digit_value (get_or ds i 0) < 10000000000000000000
next_digit ds i digits few lt =
    omega (
      arith,
      digits_value_more 10 ds i lt,
      digits_value-take-le 10 ds (i + 1) (omega arith),
      few_digits 19 ds digits few,
    )

-- one more digit behind digits fits
pub digit_more : (ds : List ℕ) (i : ℕ) → AllDigits 10 (take i ds) → length ds ≤ 19
    → i < length ds → digit_value (get_or ds i 0) < 10
    → digits_value 10 (take i ds) * 10 + digit_value (get_or ds i 0) < 10000000000000000000
digit_more ds i digits few lt digit =
    omega (
      arith,
      digits_value_more 10 ds i lt,
      few_digits 19 (take (i + 1) ds) (digits_more 10 ds i lt digits digit)
          (omega (arith, few, length-take (i + 1) ds)),
    )

-- both sides of a point fit
pub both_fit : (xs ys : List ℕ) → AllDigits 10 xs → AllDigits 10 ys → length xs + length ys ≤ 18
    → digits_value 10 xs * 10 ^ length ys + digits_value 10 ys < 1000000000000000000
both_fit xs ys h k few =
    omega (
      arith,
      value_of_both xs ys,
      few_digits 18 (xs ++ ys) (digits_of_both xs ys h k)
          (omega (arith, few, length-append xs ys)),
    )

-- the first point is here
pub before_at : (octets : List ℕ) (i : ℕ) → i < length octets → get_or octets i 0 ≡ 46
    → ((k : ℕ) → k < i → get_or octets k 0 ≢ 46) → before_point octets ≡ take i octets
before_at [] i lt here none = absurd (omega (arith, lt))
before_at (x ∷ xs) zero lt here none = grind (arith, eq-eqb x 46 here)
before_at (x ∷ xs) (suc i) lt here none =
    let other : x ≢ 46 = none 0 (omega arith) in
    grind (
      arith,
      other,
      before_at xs i (omega (arith, lt)) here
          (λ k l. none (suc k) (omega (arith, l))),
    )

pub behind_at : (octets : List ℕ) (i : ℕ) → i < length octets → get_or octets i 0 ≡ 46
    → ((k : ℕ) → k < i → get_or octets k 0 ≢ 46) → behind_point octets ≡ drop (suc i) octets
behind_at [] i lt here none = absurd (omega (arith, lt))
behind_at (x ∷ xs) zero lt here none =
    subst (λ (b : Bool). (if b then xs else drop_through 46 xs) ≡ xs) (sym (eq-eqb x 46 here)) refl
behind_at (x ∷ xs) (suc i) lt here none =
    let other : x ≢ 46 = none 0 (omega arith) in
    subst (λ (b : Bool). (if b then xs else drop_through 46 xs) ≡ drop (suc i) xs)
    (sym (ne_eqb x 46 other))
    (behind_at xs i (omega (arith, lt)) here (λ k l. none (suc k) (omega (arith, l))))

-- and what stands behind it, as a slice
pub behind_here : (octets : List ℕ) (i : ℕ) → i < length octets → get_or octets i 0 ≡ 46
    → ((k : ℕ) → k < i → get_or octets k 0 ≢ 46)
    → take (length octets - (i + 1)) (drop (i + 1) octets) ≡ behind_point octets
behind_here octets i lt here none =
    take_all (length octets - (i + 1)) (drop (i + 1) octets)
    (omega (arith, length-drop (i + 1) octets))
    ∙ ap (λ k. drop k octets) (add-one i) ∙ sym (behind_at octets i lt here none)

-- a power of few places
pub small_power : (k : ℕ) → k ≤ 7 → 10 ^ k ≤ 10 ^ 7
small_power k few = pow-le-pow_right {n = 10} (omega arith) few

pub some_power : (k : ℕ) → 0 < 10 ^ k
some_power k = omega (arith, one-le-pow k 10 (omega arith))

-- there is none
pub before_none : (octets : List ℕ) → ((k : ℕ) → k < length octets → get_or octets k 0 ≢ 46)
    → before_point octets ≡ octets
before_none [] none = refl
before_none (x ∷ xs) none =
    let other : x ≢ 46 = none 0 (omega arith) in
    grind (arith, other, before_none xs (λ k l. none (suc k) (omega (arith, l))))

pub behind_none : (octets : List ℕ) → ((k : ℕ) → k < length octets → get_or octets k 0 ≢ 46)
    → behind_point octets ≡ []
behind_none [] none = refl
behind_none (x ∷ xs) none =
    let other : x ≢ 46 = none 0 (omega arith) in
    grind (arith, other, behind_none xs (λ k l. none (suc k) (omega (arith, l))))

-- How much shorter a wait is, as the greatest number whose part of the way fits.
use Rattle.std.proofs.Common.{◌≡◌, ◌≤◌, ◌<◌, ℕ, zero, suc, ◌+◌, ◌-◌, ◌*◌, ◌^◌, ◌⊎◌, inl, inr, nat_le}
use Rattle.std.proofs.Common.{true, false, Bool, sym, ◌∙◌, subst, ap, ap₂, refl, arith}
use Rattle.std.proofs.Common.{if◌then◌else◌}
use Rattle.std.proofs.Math.Nat.{pow-suc, pow-zero}
use Rattle.std.proofs.lemmas.Nat.{mul-le}
use Rattle.std.proofs.lemmas.Bool.{leb-true, leb-false}
use Rattle.its_model.specs.Contention.{ContentionRule, shorter}

-- a square is a product
pub square_is : (x : ℕ) → x ^ 2 ≡ x * x
square_is x = pow-suc x 1 ∙ ap (λ (n : ℕ). n * x)
    (pow-suc x 0 ∙ ap (λ (n : ℕ). n * x) (pow-zero x) ∙ omega arith)

-- the squares of the parts grow
squares_grow : (k n m : ℕ) → k ≤ n → k * m * (k * m) ≤ n * m * (n * m)
squares_grow k n m small =
    let part : k * m ≤ n * m = mul-le k m n m small (omega arith) in
    mul-le (k * m) (k * m) (n * m) (n * m) part part

-- what one more test says, by its outcome
greatest_by : (b : Bool) (k n m s rest : ℕ) → nat_le ((suc n * m) ^ 2) s ≡ b
    → k * m * (k * m) ≤ s → (k ≡ suc n) ⊎ (s < (k + 1) * m * ((k + 1) * m)) → k ≤ suc n
    → (k ≤ n → (k ≡ n) ⊎ (s < (k + 1) * m * ((k + 1) * m)) → rest ≡ k)
    → (if b then suc n else rest) ≡ k
greatest_by true k n m s rest h fits (inl is) small before = sym is
greatest_by true k n m s rest h fits (inr above) small before =
    let one_fits : suc n * m * (suc n * m) ≤ s =
    subst (λ (x : ℕ). x ≤ s) (square_is (suc n * m)) (leb-true _ s h) in
    at (nat_le (suc k) (suc n)) refl one_fits
  where
    at : (c : Bool) → nat_le (suc k) (suc n) ≡ c → suc n * m * (suc n * m) ≤ s → suc n ≡ k
    at false e one_fits = (let not_above = leb-false (suc k) (suc n) e in omega arith)
    at true e one_fits =
        let more : k + 1 ≤ suc n = (let le = leb-true (suc k) (suc n) e in omega arith) in
        let grows = squares_grow (k + 1) (suc n) m more in
        absurd (omega arith)
greatest_by false k n m s rest h fits (inl is) small before =
    let over : s < suc n * m * (suc n * m) =
    subst (λ (x : ℕ). s < x) (square_is (suc n * m)) (leb-false _ s h) in
    let one_fits : suc n * m * (suc n * m) ≤ s = subst (λ (x : ℕ). x * m * (x * m) ≤ s) is fits in
    absurd (omega arith)
greatest_by false k n m s rest h fits (inr above) small before =
    let over : s < suc n * m * (suc n * m) =
    subst (λ (x : ℕ). s < x) (square_is (suc n * m)) (leb-false _ s h) in
    at (nat_le (suc n) k) refl over
  where
    at : (c : Bool) → nat_le (suc n) k ≡ c → s < suc n * m * (suc n * m) → rest ≡ k
    at false e over = (let less = leb-false (suc n) k e in before (omega arith) (inr above))
    at true e over =
        let grows = squares_grow (suc n) k m (leb-true (suc n) k e) in absurd (omega arith)

-- the greatest number of at most n whose part fits
greatest : (r : ContentionRule) (d2 n k : ℕ) → let m : ℕ = 100 * r.range in
    let s : ℕ = (r.max_wait - r.min_wait) ^ 2 * d2 in
    k * m * (k * m) ≤ s → (k ≡ n) ⊎ (s < (k + 1) * m * ((k + 1) * m)) → k ≤ n
    → shorter r d2 n ≡ k
unfolding shorter
greatest r d2 zero k fits above small = omega arith
greatest r d2 (suc n) k fits above small =
    let m : ℕ = 100 * r.range in
    let s : ℕ = (r.max_wait - r.min_wait) ^ 2 * d2 in
    greatest_by (nat_le ((suc n * m) ^ 2) s) k n m s (shorter r d2 n) refl fits above small
    (λ less rest. greatest r d2 n k fits rest less)

-- the same, of the numbers that the code has
pub shorter-found : (r : ContentionRule) (d2 n k a b d reach whole : ℕ) → a ≡ n → b ≡ n → d ≡ d2
    → reach ≡ 100 * r.range → n ≡ r.max_wait - r.min_wait → whole ≡ a * b * d
    → k * reach * (k * reach) ≤ whole
    → (k ≡ n) ⊎ (whole < (k + 1) * reach * ((k + 1) * reach)) → k ≤ n
    → k ≡ shorter r d2 n
shorter-found r d2 n k a b d reach whole ea eb ed er en ew fits above small =
    let s : ℕ = (r.max_wait - r.min_wait) ^ 2 * d2 in
    let product : whole ≡ s =
    ew ∙ ap₂ (λ (x y : ℕ). x * y) (ap₂ (λ (x y : ℕ). x * y) (ea ∙ en) (eb ∙ en)) ed
    ∙ ap (λ (x : ℕ). x * d2) (sym (square_is (r.max_wait - r.min_wait))) in
    sym (greatest r d2 n k
    (subst (λ (x : ℕ). k * x * (k * x) ≤ s) er
    (subst (λ (x : ℕ). k * reach * (k * reach) ≤ x) product fits))
    (subst (λ (x : ℕ). (k ≡ n) ⊎ (s < (k + 1) * x * ((k + 1) * x))) er
    (subst (λ (x : ℕ). (k ≡ n) ⊎ (x < (k + 1) * reach * ((k + 1) * reach))) product above)) small)

-- at the end of the search: the lesser number fits, and the one above it doesn't
pub at_end : (fits over span reach whole : ℕ) → over ≡ fits + 1
    → (over ≡ span + 1) ⊎ (whole < over * reach * (over * reach))
    → (fits ≡ span) ⊎ (whole < (fits + 1) * reach * ((fits + 1) * reach))
at_end fits over span reach whole e (inl is) = inl (omega arith)
at_end fits over span reach whole e (inr above) =
    inr (subst (λ (x : ℕ). whole < x * reach * (x * reach)) e above)

-- Lists of numbers that have each once: facts on lists alone.
use Rattle.std.proofs.Common.{◌≡◌, ℕ, zero, suc, ◌<◌, ◌≤◌, List, [], ◌∷◌, length, Bool, true, false}
use Rattle.std.proofs.Common.{cond, eqb, not, ◌&&◌, ◌||◌, refl, sym, ap, subst, ◌∙◌, inl}
use Rattle.std.proofs.Common.{inr, arith}
use Rattle.std.specs.Prelude.{filter}
use Rattle.std.proofs.lemmas.Bool.Decides.{nat_tests}
use Rattle.its_model.specs.History.{is_among}
use Rattle.its_model.specs.Stations.{AreDistinct}
use Rattle.its_model.proofs.NumberTests.{eq_test, eqb_same, or_false, and_false}

-- Numbers that differ, all below a bound, are no more than the bound.
abbrev pub Below : ℕ → List ℕ → Type 0
Below n [] = Unit {0}
Below n (x ∷ xs) = (x < n) × Below n xs

-- what isn't there isn't there after a filter
absent_filter : (p : ℕ → Bool) (xs : List ℕ) (x : ℕ) → is_among x xs ≡ false
    → is_among x (filter p xs) ≡ false
absent_filter p [] x h = refl
absent_filter p (y ∷ xs) x h =
    let s = or_false (eqb y x) (is_among x xs) h in
    one (p y) s.0 (absent_filter p xs x s.1)
  where
    one : (b : Bool) → eqb y x ≡ false → is_among x (filter p xs) ≡ false
        → is_among x (cond b (y ∷ filter p xs) (filter p xs)) ≡ false
    one true e h = rw e h
    one false e h = h

-- a filter leaves numbers that differ
pub differ_filter : (p : ℕ → Bool) (xs : List ℕ) → AreDistinct xs → AreDistinct (filter p xs)
differ_filter p [] h = tt
differ_filter p (x ∷ xs) h = one (p x) (absent_filter p xs x h.0) (differ_filter p xs h.1)
  where
    one : (b : Bool) → is_among x (filter p xs) ≡ false → AreDistinct (filter p xs)
        → AreDistinct (cond b (x ∷ filter p xs) (filter p xs))
    one true a d = (a, d)
    one false a d = d

-- without n
abbrev pub without : ℕ → List ℕ → List ℕ
without n xs = filter (λ x. not (eqb x n)) xs

-- without the greatest possible one, the bound is one lower
below_without : (n : ℕ) (xs : List ℕ) → Below (suc n) xs → Below n (without n xs)
below_without n [] h = tt
below_without n (x ∷ xs) h =
    let rest = below_without n xs h.1 in
    elim (eq_test x n) [ inl e ↦ rw e.0 rest | inr e ↦ rw e.0 (omega arith, rest) ]

-- taking away what isn't there
length_absent : (n : ℕ) (xs : List ℕ) → is_among n xs ≡ false → length (without n xs) ≡ length xs
length_absent n [] h = refl
length_absent n (x ∷ xs) h =
    let s = or_false (eqb x n) (is_among n xs) h in
    rw s.0 (ap suc (length_absent n xs s.1))

-- taking one away makes a list without repetition at most one shorter
length_without : (n : ℕ) (xs : List ℕ) → AreDistinct xs → length xs ≤ suc (length (without n xs))
length_without n [] h = omega arith
length_without n (x ∷ xs) h =
    elim (eq_test x n) [
      | inl e ↦ rw e.0
          (omega (arith, length_absent n xs (subst (λ (i : ℕ). is_among i xs ≡ false) e.1 h.0)))
      | inr e ↦ rw e.0 (omega (arith, length_without n xs h.1))
    ]

-- numbers that differ, all below a bound
pub no_more_than : (n : ℕ) (xs : List ℕ) → Below n xs → AreDistinct xs → length xs ≤ n
no_more_than zero [] b d = omega arith
no_more_than zero (x ∷ xs) b d = absurd (omega arith)
no_more_than (suc n) xs b d =
    omega (
      arith,
      length_without n xs d,
      no_more_than n (without n xs) (below_without n xs b)
          (differ_filter (λ x. not (eqb x n)) xs d),
    )

-- A list without repetition is no longer than one that has its members.
pub shorter_or_same : (n : ℕ) (xs : List ℕ) → length (without n xs) ≤ length xs
shorter_or_same n [] = omega arith
shorter_or_same n (x ∷ xs) =
    let h = shorter_or_same n xs in
    elim (eq_test x n) [ inl e ↦ rw e.0 (omega (arith, h)) | inr e ↦ rw e.0 (omega (arith, h)) ]

-- taking away what is there makes a list shorter
shorter : (n : ℕ) (xs : List ℕ) → is_among n xs ≡ true → suc (length (without n xs)) ≤ length xs
shorter n [] h = cc
shorter n (x ∷ xs) h =
    elim (eq_test x n) [
      | inl e ↦ rw e.0 (omega (arith, shorter_or_same n xs))
      | inr e ↦ rw e.0
          (omega (arith, shorter n xs (subst (λ b. (b || is_among n xs) ≡ true) e.0 h)))
    ]

-- what a filter keeps
one_filtered : (b c : Bool) (p : ℕ → Bool) (s x : ℕ) (xs : List ℕ) → p x ≡ b → eqb x s ≡ c
    → is_among s (filter p xs) ≡ (p s && is_among s xs)
    → is_among s (cond b (x ∷ filter p xs) (filter p xs)) ≡ (p s && (c || is_among s xs))
one_filtered b true p s x xs is same h =
    let same_p : p s ≡ b = ap p (sym (eqb_tells_same x s same)) ∙ is in
    both b same_p
  where
    eqb_tells_same : (m n : ℕ) → eqb m n ≡ true → m ≡ n
    eqb_tells_same m n e = grind (arith, nat_tests)

    both : (d : Bool) → p s ≡ d
        → is_among s (cond d (x ∷ filter p xs) (filter p xs)) ≡ (p s && true)
    both true e = rw (e, same) refl
    both false e = h ∙ rw e refl
one_filtered true false p s x xs is off h = rw off h
one_filtered false false p s x xs is off h = h

-- what is among those that pass a test
pub among_filter : (p : ℕ → Bool) (s : ℕ) (xs : List ℕ)
    → is_among s (filter p xs) ≡ (p s && is_among s xs)
among_filter p s [] = sym (and_false (p s))
among_filter p s (x ∷ xs) = one_filtered (p x) (eqb x s) p s x xs refl refl (among_filter p s xs)

-- one that is there is taken away
pub length_without_one : (n : ℕ) (xs : List ℕ) → AreDistinct xs → is_among n xs ≡ true
    → length xs ≡ suc (length (without n xs))
length_without_one n xs d h = omega (arith, length_without n xs d, shorter n xs h)

-- a list without repetition is no longer than one that has all its numbers
pub subset_le : (xs ys : List ℕ) → AreDistinct xs
    → ((s : ℕ) → is_among s xs ≡ true → is_among s ys ≡ true) → length xs ≤ length ys
subset_le [] ys d h = omega arith
subset_le (x ∷ xs) ys d h =
    let mine : is_among x (x ∷ xs) ≡ true = ap (λ b. b || is_among x xs) (eqb_same x) in
    omega (
      arith,
      shorter x ys (h x mine),
      subset_le xs (without x ys) d.1
          (λ s i. still s i (h s (or_true (eqb x s) (is_among s xs) i))),
    )
  where
    or_true : (b c : Bool) → c ≡ true → (b || c) ≡ true
    or_true true c e = refl
    or_true false c e = e

    still : (s : ℕ) → is_among s xs ≡ true → is_among s ys ≡ true → is_among s (without x ys) ≡ true
    still s i there =
        elim (eq_test s x) [
          | inl e ↦ cc (i, d.0, ap (λ n. is_among n xs) e.1)
          | inr e ↦ among_filter (λ y. not (eqb y x)) s ys ∙ ap (λ b. not b && is_among s ys) e.0
              ∙ there
        ]

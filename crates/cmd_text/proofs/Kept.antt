-- What is kept of a line: its first octets, however many it has.
use Rattle.std.proofs.Common.{arith, ◌≡◌, ◌≤◌, ◌<◌, ◌+◌, ◌-◌, ◌%◌, ◌++◌, ◌∙◌, ◌⊎◌, ◌↔◌, inl, inr}
use Rattle.std.proofs.Common.{ℕ, zero, suc, Bool, true, false, List, [], ◌∷◌, All, IsTrue, length}
use Rattle.std.proofs.Common.{take}
use Rattle.std.proofs.Common.{drop, min, refl, sym, ap, subst, length-append, ◌==◌}
use Rattle.std.proofs.lemmas.List.{take_min, drop_min}
use Rattle.std.proofs.lemmas.List.Elements.{All-append, All-take, All-drop}
use Rattle.std.proofs.Math.Seq.{take-append-add, take-append_seam, drop-append_seam}
use Rattle.std.specs.Char.{IsAsciiHexdigit}
use Rattle.cmd_text.specs.Lines.{IsPassed}
use Rattle.cmd_text.specs.declared.lines.passed.Passed.{Passed}

-- the octets that are kept, and as many more as there is room for, are the first n of both
pub kept_take : (n : ℕ) (xs ys : List ℕ) → length xs ≤ n
    → xs ++ take (min (n - length xs) (length ys)) ys ≡ take n (xs ++ ys)
kept_take n xs ys fits =
    let whole : length xs + (n - length xs) ≡ n = omega arith in
    ap (λ l. xs ++ l) (take_min (n - length xs) ys)
    ∙ (sym (take-append-add xs ys (n - length xs)) ∙ ap (λ k. take k (xs ++ ys)) whole)

-- the first n octets of those that were kept, and more
kept_more : (n : ℕ) (taken octets : List ℕ)
    → take n (take n taken ++ octets) ≡ take n (taken ++ octets)
kept_more zero taken octets = refl
kept_more (suc n) [] octets = refl
kept_more (suc n) (x ∷ xs) octets = ap (λ l. x ∷ l) (kept_more n xs octets)

-- what goes on past the first n octets, and past those that are kept of more
passed_more : (n : ℕ) (taken octets : List ℕ)
    → drop n taken ++ drop (n - length (take n taken)) octets ≡ drop n (taken ++ octets)
passed_more zero taken octets = refl
passed_more (suc n) [] octets =
    let nothing : List ℕ = [] in
    let whole : suc n - length (take (suc n) nothing) ≡ suc n = omega arith in
    ap (λ k. drop k octets) whole
passed_more (suc n) (x ∷ xs) octets =
    let same : suc n - length (x ∷ take n xs) ≡ n - length (take n xs) = omega arith in
    ap (λ k. drop n xs ++ drop k octets) same ∙ passed_more n xs octets

-- there are any of both, where there are any of one
any_more : (was is : Bool) (before more : List ℕ) → (IsTrue was ↔ (0 < length before))
    → (IsTrue is ↔ (IsTrue was ⊎ (0 < length more))) → (IsTrue is ↔ (0 < length (before ++ more)))
any_more was is [] more old new = (
  λ h. elim (new.0 h) [ inl w ↦ absurd (omega (arith, old.0 w)) | inr m ↦ m ],
  λ h. new.1 (inr h),
)
any_more was is (x ∷ xs) more old new =
    (λ _. omega arith, λ _. new.1 (inl (old.1 (omega arith))))

-- one of both is none of these, where one of either isn't
stray_more : (was is : Bool) (P Q R : Type 0) → (IsTrue was ↔ ¬ P)
    → (IsTrue is ↔ (IsTrue was ⊎ ¬ Q))
    → (P → Q → R) → (R → P) → (R → Q) → (IsTrue is ↔ ¬ R)
stray_more was true P Q R old new both first second =
    (λ _ r. elim (new.0 refl) [ inl w ↦ old.0 w (first r) | inr n ↦ n (second r) ], λ _. refl)
stray_more was false P Q R old new both first second =
    let no : ¬ (IsTrue was ⊎ ¬ Q) = λ one. absurd (true_false (new.1 one)) in (
      λ h. absurd (true_false h),
      λ none. absurd (no (inr (λ q. no (inl (old.1 (λ p. none (both p q))))))),
    )
  where
    true_false : ¬ (false ≡ true)
    true_false e = absurd (cc e)

pub passed_adds : (was is : Passed) (before more : List ℕ) → IsPassed was before
    → (IsTrue is.any ↔ (IsTrue was.any ⊎ (0 < length more)))
    → ((n : ℕ) → was.odd ≡ (n % 2 == 1) → is.odd ≡ ((n + length more) % 2 == 1))
    → (IsTrue is.stray ↔ (IsTrue was.stray ⊎ ¬ All IsAsciiHexdigit more))
    → IsPassed is (before ++ more)
passed_adds was is before more old any odd stray =
    record {
      any = any_more was.any is.any before more old.any any;
      odd = odd (length before) old.odd ∙ ap (λ n. n % 2 == 1) (sym (length-append before more));
      stray = stray_more was.stray is.stray (All IsAsciiHexdigit before) (All IsAsciiHexdigit more)
          (All IsAsciiHexdigit (before ++ more)) old.stray stray
          (All-append IsAsciiHexdigit before more) (all_first before more) (all_second before more);
    }
  where
    all_first : (xs ys : List ℕ) → All IsAsciiHexdigit (xs ++ ys) → All IsAsciiHexdigit xs
    all_first xs ys all = subst (All IsAsciiHexdigit) (take-append_seam xs ys)
        (All-take IsAsciiHexdigit (length xs) (xs ++ ys) all)

    all_second : (xs ys : List ℕ) → All IsAsciiHexdigit (xs ++ ys) → All IsAsciiHexdigit ys
    all_second xs ys all = subst (All IsAsciiHexdigit) (drop-append_seam xs ys)
        (All-drop IsAsciiHexdigit (length xs) (xs ++ ys) all)

-- the octets that are kept of those that were taken, and more
pub start_adds : (n : ℕ) (items taken octets : List ℕ) → items ≡ take n taken
    → take n (items ++ octets) ≡ take n (taken ++ octets)
start_adds n items taken octets is =
    ap (λ l. take n (l ++ octets)) is ∙ kept_more n taken octets

-- what goes on past them
pub rest_adds : (n : ℕ) (items taken octets : List ℕ) → items ≡ take n taken
    → drop n taken ++ drop (min (n - length items) (length octets)) octets
    ≡ drop n (taken ++ octets)
rest_adds n items taken octets is =
    ap (λ l. drop n taken ++ l) (drop_min (n - length items) octets
    ∙ ap (λ l. drop (n - length l) octets) is)
    ∙ passed_more n taken octets

-- Lists of recent numbers, with the newest last and with the newest first.
use Rattle.std.proofs.Common.{◌≡◌, ℕ, ◌-◌, List, [], ◌∷◌, ◌++◌, length, take, drop, reverse, Some}
use Rattle.std.proofs.Common.{sym, ap, ◌∙◌, inl, inr, arith}
use Rattle.std.proofs.lemmas.List.{reverse-append, length-reverse, length-drop, take-append-drop}
use Rattle.std.proofs.lemmas.List.{take_all, take_at}
use Rattle.std.proofs.lemmas.List.Sorted.{list_any-IsPermutation, IsPermutation-reverse}
use Rattle.its_duplicates.specs.Numbers.{keep_last}
use Rattle.its_model.specs.History.{is_among, with_number}
use Rattle.its_model.proofs.NumberTests.{lt_test}

-- the order doesn't matter to what is among them
pub is_among-reverse : (n : ℕ) (xs : List ℕ) → is_among n (reverse xs) ≡ is_among n xs
is_among-reverse n xs = sym (list_any-IsPermutation _ xs (reverse xs) (IsPermutation-reverse xs))

-- the last of a list are the first of it turned round
reverse-keep_last : (k : ℕ) (xs : List ℕ) → reverse (keep_last k xs) ≡ take k (reverse xs)
reverse-keep_last k xs =
    elim (lt_test k (length xs)) [
      | inl e ↦ sym (ap (take k) (ap reverse (sym (take-append-drop (length xs - k) xs))
          ∙ reverse-append (take (length xs - k) xs) (drop (length xs - k) xs))
          ∙ take_at (reverse (drop (length xs - k) xs)) (reverse (take (length xs - k) xs)) k
          (length-reverse (drop (length xs - k) xs) ∙ length-drop (length xs - k) xs
          ∙ omega (arith, e.1)))
      | inr e ↦ (let none : length xs - k ≡ 0 = omega (arith, e.1)
          in ap (λ m. reverse (drop m xs)) none
          ∙ sym (take_all k (reverse xs) (omega (arith, length-reverse xs, e.1))))
    ]

-- one more number, put last and put first
noted_one : (k n : ℕ) (xs : List ℕ) → reverse (keep_last k (xs ++ n ∷ [])) ≡ take k (n ∷ reverse xs)
noted_one k n xs = reverse-keep_last k (xs ++ n ∷ []) ∙ ap (take k) (reverse-append xs (n ∷ []))

pub noted-some : (k n : ℕ) (old new : List ℕ) → new ≡ keep_last k (old ++ n ∷ []) → reverse new
    ≡ take k (with_number (Some n) (reverse old))
noted-some k n old new is = ap reverse is ∙ noted_one k n old

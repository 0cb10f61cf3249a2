-- Addresses in ascending order: where a search ends among them.
use Rattle.std.proofs.Common.{◌≡◌, ℕ, suc, zero, ◌+◌, ◌<◌, ◌≤◌, true, List, [], ◌∷◌}
use Rattle.std.proofs.Common.{Option, Some, None, Result, Ok, Err, IfOk, IfErr, refl, sym, ap}
use Rattle.std.proofs.Common.{subst, ◌∙◌, length, get_or, arith}
use Rattle.std.specs.List.Sorted.{IsSearchInRange, IsBinarySearchResult, IsNonDecreasingBy}
use Rattle.std.specs.Ordering.{nat_cmp, ordering_index}
use Rattle.std.proofs.lemmas.Cmp.{ranked}
use Rattle.std.proofs.lemmas.Bool.{lt-ltb, le-ltb, ltb-true}
use Rattle.std.proofs.lemmas.Bool.Decides.{nat_tests}
use Rattle.std.proofs.lemmas.List.{get_or_default}
use Rattle.its_model.specs.Stations.{is_above}
use Rattle.its_loctable.specs.Sorted.{IsBelowEach, AreRising, IsFoundAt, IsGapFor, IsStartAbove}
use Rattle.its_loctable.specs.Sorted.{AreAbove}

-- ---- where a search ends
below_each : (n : ℕ) (xs : List ℕ) (i d : ℕ) → IsBelowEach n xs
    → i < length xs
    → n < get_or xs i d
below_each n [] i d h lt = absurd (omega arith)
below_each n (x ∷ xs) zero d h lt = h.0
below_each n (x ∷ xs) (suc i) d h lt = below_each n xs i d h.1 (omega arith)

rises : (xs : List ℕ) (i j d : ℕ) → AreRising xs → i ≤ j
    → j < length xs
    → get_or xs i d ≤ get_or xs j d
rises [] i j d h le lt = absurd (omega arith)
rises (x ∷ xs) zero zero d h le lt = omega arith
rises (x ∷ xs) zero (suc j) d h le lt = omega (arith, below_each x xs j d h.0 (omega arith))
rises (x ∷ xs) (suc i) zero d h le lt = absurd (omega arith)
rises (x ∷ xs) (suc i) (suc j) d h le lt = rises xs i j d h.1 (omega arith) (omega arith)

comparisons_rise : (xs : List ℕ) (a : ℕ) → AreRising xs
    → IsNonDecreasingBy (λ n. ordering_index (nat_cmp n a)) xs
comparisons_rise xs a h i j d le lt = let up = rises xs i j d h le lt
    in higher (get_or xs i d) (get_or xs j d) up
  where
    higher : (m n : ℕ) → m ≤ n → ordering_index (nat_cmp m a) ≤ ordering_index (nat_cmp n a)
    higher m n le = grind (arith, nat_tests)

pub found_at : (xs : List ℕ) (a i : ℕ) → i < length xs
    → ((d : ℕ) → get_or xs i d ≡ a)
    → IsFoundAt xs a i
found_at [] a i lt h = absurd (omega arith)
found_at (x ∷ xs) a zero lt h = h x
found_at (x ∷ xs) a (suc i) lt h = found_at xs a i (omega arith) h

gap_for : (xs : List ℕ) (a i : ℕ) → i ≤ length xs
    → ((k d : ℕ) → k < i → get_or xs k d < a)
    → ((k d : ℕ) → i ≤ k → k < length xs → a < get_or xs k d) → IsGapFor xs a i
gap_for [] a zero le below above = tt
gap_for [] a (suc i) le below above = absurd (omega arith)
gap_for (x ∷ xs) a zero le below above = above 0 x (omega arith) (omega arith)
gap_for (x ∷ xs) a (suc i) le below above = (
  below 0 x (omega arith),
  gap_for xs a i (omega arith) (λ k d lt. below (suc k) d (omega arith))
      (λ k d from lt. above (suc k) d (omega arith) (omega arith)),
)

-- a place is the gap where what stands on both sides says so
pub gap_between : (xs : List ℕ) (a i : ℕ) → AreRising xs → i ≤ length xs
    → ((k d : ℕ) → suc k ≡ i → get_or xs k d < a)
    → ((d : ℕ) → i < length xs → a < get_or xs i d) → IsGapFor xs a i
gap_between [] a zero h le below above = tt
gap_between [] a (suc i) h le below above = absurd (omega arith)
gap_between (x ∷ xs) a zero h le below above = above x (omega arith)
gap_between (x ∷ xs) a (suc zero) h le below above = (
  below zero x refl,
  gap_between xs a zero h.1 (omega arith) (λ k d e. absurd (omega (arith, e)))
      (λ d lt. above d (omega arith)),
)
gap_between (x ∷ xs) a (suc (suc i)) h le below above = (
  (let lt : get_or xs i x < a = below (suc i) x refl
      in omega (arith, below_each x xs i x h.0 (omega arith))),
  gap_between xs a (suc i) h.1 (omega arith) (λ k d e. below (suc k) d (ap suc e))
      (λ d lt. above d (omega arith)),
)

-- the places from a place on
pub above_from : (xs : List ℕ) (a i n s : ℕ) → AreRising xs
    → i < length xs
    → s ≡ get_or xs i s → a < s → i ≤ n → AreAbove xs a n
above_from xs a i n s h lt is more le = λ k d from within.
    omega (
      arith,
      more,
      rises xs i k d h (omega arith) within,
      get_or_default xs i d s lt ∙ sym is,
    )

pub above_later : (xs : List ℕ) (a m n : ℕ) → m ≤ n → AreAbove xs a m → AreAbove xs a n
above_later xs a m n le above = λ k d from within. above k d (omega arith) within

-- the gap behind the last one that comes before an address
pub gap_behind : (xs : List ℕ) (a i s : ℕ) → AreRising xs
    → i < length xs
    → s ≡ get_or xs i s → s < a → AreAbove xs a (i + 1) → IsGapFor xs a (i + 1)
gap_behind xs a i s h lt is less above = gap_between xs a (i + 1) h (omega arith)
    (λ k d e. let here : k ≡ i = omega (arith, e) in
    omega (
      arith,
      less,
      ap (λ n. get_or xs n d) here,
      get_or_default xs i d s lt ∙ sym is,
    ))
    (λ d within. above (i + 1) d (omega arith) within)

-- a binary search ends at the address, or at the gap for it
pub searched : (xs : List ℕ) (a : ℕ) (r : Result ℕ ℕ) → AreRising xs
    → IsSearchInRange r (length xs)
    → IsBinarySearchResult (λ n. nat_cmp n a) xs r
    → IfOk r (λ i. IsFoundAt xs a i × (i < length xs))
    × IfErr r (λ i. IsGapFor xs a i × (i ≤ length xs))
searched xs a (Ok i) rising within equal =
    ((found_at xs a i within (λ d. ranked _ a _ (sym (equal d))), within), tt)
searched xs a (Err i) rising within parted =
    let parts = parted (comparisons_rise xs a rising) in (
      tt,
      (
        gap_for xs a i within (λ k d lt. ranked _ a _ (sym (parts.0 k d (omega arith) lt)))
            (λ k d from lt. ranked _ a _ (sym (parts.1 k d from lt))),
        within,
      ),
    )

-- ---- where those above an address begin
pub above_more : (after : Option ℕ) (m n : ℕ) → m < n → is_above after m ≡ true → is_above after n
    ≡ true
above_more None m n lt h = refl
above_more (Some low) m n lt h = (let l : low < m = ltb-true low m h in lt-ltb low n (omega arith))

pub start-none : (xs : List ℕ) → IsStartAbove xs None 0
start-none [] = tt
start-none (x ∷ xs) = refl

next_start : (a : ℕ) (xs : List ℕ) → IsBelowEach a xs → IsStartAbove xs (Some a) 0
next_start a [] h = tt
next_start a (x ∷ xs) h = lt-ltb a x h.0

found_above : (n : ℕ) (xs : List ℕ) (a i : ℕ) → IsBelowEach n xs → IsFoundAt xs a i → n < a
found_above n [] a i h f = absurd f
found_above n (x ∷ xs) a zero h f = (let lt : n < x = h.0 in omega (arith, f))
found_above n (x ∷ xs) a (suc i) h f = found_above n xs a i h.1 f

pub start-found : (xs : List ℕ) (a i : ℕ) → AreRising xs → IsFoundAt xs a i
    → IsStartAbove xs (Some a) (suc i)
start-found [] a i h f = absurd f
start-found (x ∷ xs) a zero h f = (
  le-ltb a x (let e : x ≡ a = f in omega (arith, e)),
  next_start a xs
      (subst (λ n. IsBelowEach n xs) f h.0),
)
start-found (x ∷ xs) a (suc i) h f = (
  le-ltb a x (let lt : x < a = found_above x xs a i h.0 f in omega arith),
  start-found xs a i h.1 f,
)

pub start-gap : (xs : List ℕ) (a i : ℕ) → IsGapFor xs a i → IsStartAbove xs (Some a) i
start-gap [] a zero g = tt
start-gap [] a (suc i) g = absurd g
start-gap (x ∷ xs) a zero g = lt-ltb a x g
start-gap (x ∷ xs) a (suc i) g =
    (le-ltb a x (let lt : x < a = g.0 in omega arith), start-gap xs a i g.1)

-- Facts on lists alone.
use Rattle.std.proofs.Common.{◌≡◌, ◌≢◌, ◌⊎◌, ℕ, zero, suc, ◌<◌, List, [], ◌∷◌, ◌++◌, length, set}
use Rattle.std.proofs.Common.{Some, refl, ap, inl, inr, arith}
use Rattle.std.specs.Prelude.{slice_get}
use Rattle.its_model.specs.World.{with_one_more}

-- what is in a list is there in a longer one
pub get_front : {X : Type 0} (xs ys : List X) (k : ℕ) (x : X) → slice_get xs k ≡ Some x
    → slice_get (xs ++ ys) k ≡ Some x
get_front [] ys k x h = cc
get_front (a ∷ xs) ys zero x h = h
get_front (a ∷ xs) ys (suc k) x h = get_front xs ys k x h

-- the last one is at the length of the others
pub get_last : {X : Type 0} (xs : List X) (x : X) → slice_get (xs ++ x ∷ []) (length xs) ≡ Some x
get_last [] x = refl
get_last (a ∷ xs) x = get_last xs x

-- what is in a list with one more was there, or is that one
pub get_snoc : {X : Type 0} (xs : List X) (y : X) (k : ℕ) (x : X)
    → slice_get (xs ++ y ∷ []) k ≡ Some x → (slice_get xs k ≡ Some x) ⊎ ((k ≡ length xs) × (y ≡ x))
get_snoc [] y zero x h = inr (refl, cc)
get_snoc [] y (suc k) x h = cc
get_snoc (a ∷ xs) y zero x h = inl h
get_snoc (a ∷ xs) y (suc k) x h =
    elim (get_snoc xs y k x h) [ inl g ↦ inl g | inr g ↦ inr (ap suc g.0, g.1) ]

-- the length with one more
pub length_more : {X : Type 0} (xs : List X) (y : X) → length (xs ++ y ∷ []) ≡ suc (length xs)
length_more [] y = refl
length_more (a ∷ xs) y = ap suc (length_more xs y)

-- what is there is within the length
pub get_within : {X : Type 0} (xs : List X) (k : ℕ) (x : X) → slice_get xs k ≡ Some x
    → k < length xs
get_within [] k x h = cc
get_within (a ∷ xs) zero x h = omega arith
get_within (a ∷ xs) (suc k) x h = omega (arith, get_within xs k x h)

-- within the length there is something
pub get_at : {X : Type 0} (xs : List X) (k : ℕ) → k < length xs
    → (x : X) × (slice_get xs k ≡ Some x)
get_at [] k h = absurd (omega arith)
get_at (a ∷ xs) zero h = (a, refl)
get_at (a ∷ xs) (suc k) h = get_at xs k (omega arith)

-- an element that was there is still there, and is the only one of its number
pub front_is : {X : Type 0} (xs ys : List X) (k : ℕ) (x : X) → slice_get (xs ++ ys) k ≡ Some x
    → k < length xs → slice_get xs k ≡ Some x
front_is [] ys k x h lt = absurd (omega arith)
front_is (a ∷ xs) ys zero x h lt = h
front_is (a ∷ xs) ys (suc k) x h lt = front_is xs ys k x h (omega arith)

-- a write keeps the length
pub length_set : {X : Type 0} (xs : List X) (i : ℕ) (y : X) → length (set xs i y) ≡ length xs
length_set [] i y = refl
length_set (a ∷ xs) zero y = refl
length_set (a ∷ xs) (suc i) y = ap suc (length_set xs i y)

-- what is there after a write is what was written, or what was there elsewhere
pub get_set : {X : Type 0} (xs : List X) (i : ℕ) (y : X) (j : ℕ) (x : X)
    → slice_get (set xs i y) j ≡ Some x
    → ((j ≡ i) × (y ≡ x)) ⊎ ((j ≢ i) × (slice_get xs j ≡ Some x))
get_set [] i y j x h = cc
get_set (a ∷ xs) zero y zero x h = inl (refl, cc)
get_set (a ∷ xs) zero y (suc j) x h = inr (omega arith, h)
get_set (a ∷ xs) (suc i) y zero x h = inr (omega arith, h)
get_set (a ∷ xs) (suc i) y (suc j) x h =
    elim (get_set xs i y j x h) [
      | inl g ↦ inl (
        ap suc g.0,
        g.1,
      )
      | inr g ↦ inr ((λ e. g.0 (omega arith)), g.1)
    ]

-- the length with one more that there is
pub length_with_one_more : {X : Type 0} (xs : List X) (y : X)
    → length (with_one_more xs (Some y)) ≡ suc (length xs)
length_with_one_more xs y = length_more xs y

-- Tests of numbers, and counts of a list.
use Rattle.std.proofs.Common.{◌≡◌, ◌≢◌, ◌⊎◌, ℕ, ◌+◌, ◌<◌, ◌≤◌, List, [], ◌∷◌, ◌++◌, Bool, true}
use Rattle.std.proofs.Common.{false, cond, eqb, ◌&&◌, ◌||◌, refl, ap, ◌∙◌, zero-add, inl, inr}
use Rattle.std.proofs.Common.{arith}
use Rattle.std.specs.Prelude.{nat_lt}
use Rattle.std.specs.List.{count_by}
use Rattle.std.proofs.lemmas.Bool.Decides.{nat_tests}
use Rattle.std.proofs.lemmas.List.Sums.{sum_by-cons}

-- a test of less, and what it says
pub lt_test : (a b : ℕ) → ((nat_lt a b ≡ true) × (a < b)) ⊎ ((nat_lt a b ≡ false) × (b ≤ a))
lt_test a b = grind (arith, nat_tests)

-- a test of equal, and what it says
pub eq_test : (a b : ℕ) → ((eqb a b ≡ true) × (a ≡ b)) ⊎ ((eqb a b ≡ false) × (a ≢ b))
eq_test a b = grind (arith, nat_tests)

-- a number is equal to itself
pub eqb_same : (n : ℕ) → eqb n n ≡ true
eqb_same n = grind (arith, nat_tests)

-- numbers that differ
pub eqb_other : (m n : ℕ) → m ≢ n → eqb n m ≡ false
eqb_other m n h = grind (arith, nat_tests)

-- a truth value is one or the other
pub false_or_true : (b : Bool) → (b ≡ false) ⊎ (b ≡ true)
false_or_true true = inr refl
false_or_true false = inl refl

-- where one of two isn't so, neither is
pub or_false : (a b : Bool) → (a || b) ≡ false → (a ≡ false) × (b ≡ false)
or_false true b h = cc
or_false false b h = (refl, h)

-- both are never so where one isn't
pub and_false : (b : Bool) → (b && false) ≡ false
and_false true = refl
and_false false = refl

-- whichever of two that are the same
pub same_either : {A : Type 0} (b : Bool) (x : A) → x ≡ cond b x x
same_either true x = refl
same_either false x = refl

-- std's sum is a fold from the left
pub count_cons : {X : Type 0} (p : X → Bool) (x : X) (xs : List X)
    → count_by p (x ∷ xs) ≡ cond (p x) 1 0 + count_by p xs
count_cons p x xs = sum_by-cons (λ y. cond (p y) 1 0) x xs

-- one more that doesn't count
pub count_no : {X : Type 0} (p : X → Bool) (x : X) (xs : List X) → p x ≡ false
    → count_by p (x ∷ xs) ≡ count_by p xs
count_no p x xs h =
    count_cons p x xs ∙ ap (λ b. cond b 1 0 + count_by p xs) h ∙ zero-add (count_by p xs)

-- one more at the end
pub count_snoc : {X : Type 0} (p : X → Bool) (xs : List X) (x : X)
    → count_by p (xs ++ x ∷ []) ≡ cond (p x) 1 0 + count_by p xs
count_snoc p [] x = count_cons p x []
count_snoc p (y ∷ xs) x =
    count_cons p y (xs ++ x ∷ []) ∙ omega (arith, count_snoc p xs x, count_cons p y xs)

-- What remains of a list from a place on, and which of its items have expired.
use Rattle.std.proofs.Common.{◌≡◌, ℕ, suc, zero, ◌+◌, ◌<◌, ◌≤◌, Bool, true, false, List, [], ◌∷◌}
use Rattle.std.proofs.Common.{Some, refl, sym, ap, ◌∙◌, cond, ◌||◌, ltb, leb, count_by, true≢false}
use Rattle.std.proofs.Common.{drop, find, get_or, length, drop-cons, add-one, arith}
use Rattle.std.specs.List.{list_any}
use Rattle.std.proofs.lemmas.List.Sums.{sum_by-cons, count_by-le-length}
use Rattle.std.proofs.lemmas.Bool.{cond-true, cond-false, ltb-true, ltb-false, lt-ltb, le-ltb}
use Rattle.std.proofs.lemmas.Bool.{leb-true, leb-false}
use Rattle.its_loctable.proofs.ContentLemmas.{or_first, or_second}

pub drop_here : {X : Type 0} (ys : List X) (i : ℕ) (y : X) → i < length ys → y ≡ get_or ys i y
    → drop i ys ≡ y ∷ drop (i + 1) ys
drop_here ys i y lt is = rw add-one (drop-cons ys i y lt ∙ ap (λ z. z ∷ drop (suc i) ys) (sym is))

pub drop_past : {X : Type 0} (ys : List X) (i : ℕ) → length ys ≤ i → drop i ys ≡ []
drop_past [] zero le = refl
drop_past [] (suc i) le = refl
drop_past (y ∷ ys) zero le = absurd (omega arith)
drop_past (y ∷ ys) (suc i) le = drop_past ys i (omega arith)

-- the first that passes from a place on stands there, or else comes after it
pub find_here : {X : Type 0} (p : X → Bool) (ys : List X) (i : ℕ) (y : X) → i < length ys → y
    ≡ get_or ys i y → p y ≡ true → find p (drop i ys) ≡ Some y
find_here p ys i y lt is passes = ap (find p) (drop_here ys i y lt is)
    ∙ cond-true (p y) (Some y) _ passes

pub find_after : {X : Type 0} (p : X → Bool) (ys : List X) (i : ℕ) (y : X) → i < length ys → y
    ≡ get_or ys i y → p y ≡ false → find p (drop i ys) ≡ find p (drop (i + 1) ys)
find_after p ys i y lt is fails = ap (find p) (drop_here ys i y lt is)
    ∙ cond-false (p y) (Some y) _ fails

-- one that fails is passed over, whatever it is
pub find_past : {X : Type 0} (p : X → Bool) (ys : List X) (i : ℕ)
    → ((d : X) → p (get_or ys i d) ≡ false) → find p (drop i ys) ≡ find p (drop (suc i) ys)
find_past p [] zero fails = refl
find_past p [] (suc i) fails = refl
find_past p (y ∷ ys) zero fails = cond-false (p y) (Some y) (find p ys) (fails y)
find_past p (y ∷ ys) (suc i) fails = find_past p ys i fails

-- so are the first ones, if none of them passes
pub find_skip : {X : Type 0} (p : X → Bool) (ys : List X) (n : ℕ)
    → ((k : ℕ) (d : X) → k < n → k < length ys → p (get_or ys k d) ≡ false)
    → find p (drop n ys) ≡ find p ys
find_skip p [] zero fails = refl
find_skip p [] (suc n) fails = refl
find_skip p (y ∷ ys) zero fails = refl
find_skip p (y ∷ ys) (suc n) fails =
    find_skip p ys n (λ k d lt within. fails (suc k) d (omega arith) (omega arith))
    ∙ sym (cond-false (p y) (Some y) (find p ys) (fails 0 y (omega arith) (omega arith)))

-- ---- fewer are live than there is room for, where fewer stand there or one has expired
module _ {X : Type 0} (end : X → ℕ) (now : ℕ) where
  counted : X → ℕ
  counted x = cond (ltb now (end x)) 1 0

  live_one : (x : X) → leb (end x) now ≡ false → counted x ≡ 1
  unfolding counted
  live_one x e = let lt : now < end x = leb-false _ _ e in let b : ltb now (end x)
      ≡ true = lt-ltb now (end x) lt in cond-true (ltb now (end x)) 1 0 b

  expired_one : (x : X) → leb (end x) now ≡ true → counted x ≡ 0
  unfolding counted
  expired_one x e = let le : end x ≤ now = leb-true _ _ e in let b : ltb now (end x)
      ≡ false = le-ltb now (end x) le in cond-false (ltb now (end x)) 1 0 b

  none_expired : (xs : List X) → list_any (λ x. leb (end x) now) xs ≡ false
      → count_by (λ x. ltb now (end x)) xs ≡ length xs
  unfolding counted
  none_expired [] h = refl
  none_expired (x ∷ xs) h =
      let rest = none_expired xs
      (or_second (leb (end x) now) (list_any (λ y. leb (end y) now) xs) h) in
      omega (
        arith,
        sum_by-cons (λ y. cond (ltb now (end y)) 1 0) x xs,
        live_one x
            (or_first (leb (end x) now) (list_any (λ y. leb (end y) now) xs) h),
        rest,
      )

  some_expired : (xs : List X) → list_any (λ x. leb (end x) now) xs ≡ true
      → count_by (λ x. ltb now (end x)) xs < length xs
  unfolding counted
  some_expired [] h = absurd (true≢false (sym h))
  some_expired (x ∷ xs) h = by (leb (end x) now) refl h (some_expired xs)
    where
      by : (b : Bool) → leb (end x) now ≡ b → (b || list_any (λ y. leb (end y) now) xs) ≡ true
          → (list_any (λ y. leb (end y) now) xs ≡ true → count_by (λ y. ltb now (end y)) xs < length
          xs) → count_by (λ y. ltb now (end y)) (x ∷ xs) < length (x ∷ xs)
      by true e _ rest =
          let few = count_by-le-length (λ y. ltb now (end y)) xs in
          omega (arith, sum_by-cons (λ y. cond (ltb now (end y)) 1 0) x xs, expired_one x e, few)
      by false e any rest =
          let less = rest any in
          omega (arith, sum_by-cons (λ y. cond (ltb now (end y)) 1 0) x xs, live_one x e, less)

  pub has_place : (xs : List X) (capacity : ℕ) → length xs ≤ capacity
      → (ltb (length xs) capacity || list_any (λ x. leb (end x) now) xs)
      ≡ ltb (count_by (λ x. ltb now (end x)) xs) capacity
  has_place xs capacity few = by (ltb (length xs) capacity) (list_any (λ x. leb (end x) now) xs)
      refl refl
    where
      by : (a b : Bool) → ltb (length xs) capacity ≡ a → list_any (λ x. leb (end x) now) xs ≡ b
          → (a || b) ≡ ltb (count_by (λ x. ltb now (end x)) xs) capacity
      by true b p q =
          (let lt : length xs < capacity = ltb-true _ _ p
          in sym (lt-ltb _ _ (omega (arith, count_by-le-length (λ y. ltb now (end y)) xs))))
      by false true p q = sym (lt-ltb _ _ (omega (arith, some_expired xs q)))
      by false false p q =
          (let le : capacity ≤ length xs = ltb-false _ _ p
          in sym (le-ltb _ _ (omega (arith, none_expired xs q))))

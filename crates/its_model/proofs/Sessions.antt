-- Sessions and numbers: facts on lists of receptions of one source, the newest first.
use Rattle.std.proofs.Common.{◌≡◌, ◌⊎◌, ℕ, zero, suc, ◌+◌, ◌<◌, ◌≤◌, List, [], ◌∷◌, ◌++◌, length}
use Rattle.std.proofs.Common.{take, Option, Some, None, Bool, true, false, cond, eqb, not}
use Rattle.std.proofs.Common.{◌&&◌, refl, ap, subst, ◌∙◌, inl, inr, arith}
use Rattle.std.specs.Prelude.{filter}
use Rattle.its_model.specs.History.{Reception, entry_life, is_among, numbers_of, unbroken}
use Rattle.its_model.specs.History.{with_number}
use Rattle.its_model.specs.Log.{HasOthers, IsBroken, distinct}
use Rattle.its_model.proofs.NumberTests.{lt_test, eq_test, or_false}

-- what isn't among the first of a list, which has n behind its front
absent_front : (xs ys : List ℕ) (k m : ℕ) → is_among m (take k (xs ++ ys)) ≡ false
    → is_among m (take k xs) ≡ false
absent_front xs ys zero m h = refl
absent_front [] ys (suc k) m h = refl
absent_front (x ∷ xs) ys (suc k) m h =
    let s = or_false (eqb x m) (is_among m (take k (xs ++ ys))) h in
    rw s.0 (absent_front xs ys k m s.1)

-- what isn't among the first so many stands behind them
far_behind : (xs ys : List ℕ) (k n : ℕ) → is_among n (take k (xs ++ n ∷ ys)) ≡ false → k ≤ length xs
far_behind xs ys zero n h = omega arith
far_behind [] ys (suc k) n h = elim (eq_test n n) [ inl e ↦ cc | inr e ↦ absurd (e.1 refl) ]
far_behind (x ∷ xs) ys (suc k) n h =
    let s = or_false (eqb x n) (is_among n (take k (xs ++ n ∷ ys))) h in
    omega (arith, far_behind xs ys k n s.1)

-- what isn't among more isn't among fewer
absent_shorter : (xs : List ℕ) (k l m : ℕ) → k ≤ l → is_among m (take l xs) ≡ false
    → is_among m (take k xs) ≡ false
absent_shorter xs zero l m le h = refl
absent_shorter xs (suc k) zero m le h = absurd (omega arith)
absent_shorter [] (suc k) (suc l) m le h = refl
absent_shorter (x ∷ xs) (suc k) (suc l) m le h =
    let s = or_false (eqb x m) (is_among m (take l xs)) h in
    rw s.0 (absent_shorter xs k l m (omega arith) s.1)

-- each number is not among as many next ones
abbrev EachNew : ℕ → List ℕ → Type 0
EachNew count [] = Unit {0}
EachNew count (m ∷ ms) = (is_among m (take count ms) ≡ false) × EachNew count ms

-- the first k of a list pass a test
abbrev FrontPasses : (ℕ → Bool) → ℕ → List ℕ → Type 0
FrontPasses p zero xs = Unit {0}
FrontPasses p (suc k) [] = Unit {0}
FrontPasses p (suc k) (x ∷ xs) = (p x ≡ true) × FrontPasses p k xs

-- the first so many differ from what isn't among them
front_differs : (xs : List ℕ) (k m : ℕ) → is_among m (take k xs) ≡ false
    → FrontPasses (λ x. not (eqb x m)) k xs
front_differs xs zero m h = tt
front_differs [] (suc k) m h = tt
front_differs (x ∷ xs) (suc k) m h =
    let s = or_false (eqb x m) (is_among m (take k xs)) h in
    (ap not s.0, front_differs xs k m s.1)

-- what passes two tests passes both
both_pass : (p q : ℕ → Bool) (xs : List ℕ) (k : ℕ) → FrontPasses p k xs → FrontPasses q k xs
    → FrontPasses (λ x. p x && q x) k xs
both_pass p q xs zero h g = tt
both_pass p q [] (suc k) h g = tt
both_pass p q (x ∷ xs) (suc k) h g = (rw h.0 g.0, both_pass p q xs k h.1 g.1)

-- two filters are one
filter_twice : (p q : ℕ → Bool) (xs : List ℕ) → filter p (filter q xs) ≡ filter (λ x. p x && q x) xs
filter_twice p q [] = refl
filter_twice p q (x ∷ xs) = one (p x) (q x) refl (filter_twice p q xs)
  where
    one : (a b : Bool) → a ≡ p x → filter p (filter q xs) ≡ filter (λ y. p y && q y) xs
        → filter p (cond b (x ∷ filter q xs) (filter q xs))
        ≡ cond (a && b) (x ∷ filter (λ y. p y && q y) xs) (filter (λ y. p y && q y) xs)
    one true true e h = rw (← e) (ap (λ ys. x ∷ ys) h)
    one false true e h = rw (← e) h
    one true false e h = h
    one false false e h = h

-- the first k of a list of which each is new are different, and pass a test that they pass
different : (N : List ℕ) (p : ℕ → Bool) (count k : ℕ) → k ≤ count → k ≤ length N → EachNew count N
    → FrontPasses p k N → k ≤ length (filter p (distinct N))
different N p count zero small long new pass = omega arith
different [] p count (suc k) small long new pass = absurd (omega arith)
different (m ∷ N) p count (suc k) small long new pass =
    let others = front_differs N k m (absent_shorter N k count m (omega arith) new.0) in
    let rest = different N (λ x. p x && not (eqb x m)) count k (omega arith) (omega arith) new.1
    (both_pass p (λ x. not (eqb x m)) N k pass.1 others) in
    rw pass.0 (omega (arith, rest, ap length (filter_twice p (λ x. not (eqb x m)) (distinct N))))

-- Each geobroadcast among these was new when it came.
abbrev pub IsNewIn : ℕ → Option ℕ → ℕ → List Reception → Type 0
IsNewIn count None moment older = Unit {0}
IsNewIn count (Some n) moment older =
    is_among n (take count (numbers_of (unbroken moment older))) ≡ false

-- all of these were new when they came
abbrev pub EachWasNew : ℕ → List Reception → Type 0
EachWasNew count [] = Unit {0}
EachWasNew count (r ∷ older) = IsNewIn count r.number r.moment older × EachWasNew count older

-- the numbers of two lists
numbers_append : (B C : List Reception) → numbers_of (B ++ C) ≡ numbers_of B ++ numbers_of C
numbers_append [] C = refl
numbers_append (x ∷ B) C = one x.number (numbers_append B C)
  where
    one : (o : Option ℕ) → numbers_of (B ++ C) ≡ numbers_of B ++ numbers_of C
        → with_number o (numbers_of (B ++ C)) ≡ with_number o (numbers_of B) ++ numbers_of C
    one None h = h
    one (Some n) h = ap (λ ns. n ∷ ns) h

-- one more packet that was new
each_new_more : (count : ℕ) (o : Option ℕ) (moment : ℕ) (B L C : List Reception)
    → unbroken moment L ≡ B ++ C → IsNewIn count o moment L → EachNew count (numbers_of B)
    → EachNew count (with_number o (numbers_of B))
each_new_more count None moment B L C e n h = h
each_new_more count (Some m) moment B L C e n h =
    let all : is_among m (take count (numbers_of B ++ numbers_of C)) ≡ false =
    subst (λ (xs : List ℕ). is_among m (take count xs) ≡ false) (ap numbers_of e
    ∙ numbers_append B C) n in
    (absent_front (numbers_of B) (numbers_of C) count m all, h)

-- a session breaks behind a front of what came, or goes on behind it
session_over : (count : ℕ) (B : List Reception) (now : ℕ) (r : Reception) (O : List Reception)
    → EachWasNew count (B ++ r ∷ O)
    → IsBroken now B r.moment ⊎ ((unbroken now (B ++ r ∷ O) ≡ B ++ r ∷ unbroken r.moment O)
    × EachNew count (numbers_of B))
session_over count [] now r O new =
    elim (lt_test now (r.moment + entry_life)) [ inl e ↦ inr (rw e.0 refl, tt) | inr e ↦ inl e.1 ]
session_over count (x ∷ B) now r O new =
    elim (lt_test now (x.moment + entry_life)) [
      | inl e ↦ elim (session_over count B x.moment r O new.1) [
        | inl b ↦ inl (inr b)
        | inr g ↦ inr (
          rw e.0 (ap (λ ys. x ∷ ys) g.0),
          each_new_more count x.number x.moment B (B ++ r ∷ O) (r
              ∷ unbroken r.moment O) g.0 new.0 g.1,
        )
      ]
      | inr e ↦ inl (inl e.1)
    ]

-- What is new, and was accepted before, was forgotten.
pub forgotten : (count : ℕ) (B : List Reception) (now n : ℕ) (r : Reception) (O : List Reception)
    → EachWasNew count (B ++ r ∷ O) → r.number ≡ Some n
    → is_among n (take count (numbers_of (unbroken now (B ++ r ∷ O)))) ≡ false
    → IsBroken now B r.moment ⊎ HasOthers count n B
forgotten count B now n r O new number absent =
    elim (session_over count B now r O new) [
      | inl b ↦ inl b
      | inr g ↦ inr
          (others (unbroken r.moment O) g.1
          (subst (λ (xs : List Reception). is_among n (take count (numbers_of xs))
          ≡ false) g.0 absent))
    ]
  where
    others : (U : List Reception) → EachNew count (numbers_of B)
        → is_among n (take count (numbers_of (B ++ r ∷ U))) ≡ false → HasOthers count n B
    others U each absent =
        let same : numbers_of (B ++ r ∷ U) ≡ numbers_of B ++ n ∷ numbers_of U =
        numbers_append B (r ∷ U)
        ∙ ap (λ o. numbers_of B ++ with_number o (numbers_of U)) number in
        let h : is_among n (take count (numbers_of B ++ n ∷ numbers_of U)) ≡ false =
        subst (λ (xs : List ℕ). is_among n (take count xs) ≡ false) same absent in
        different (numbers_of B) (λ m. not (eqb m n)) count count (omega arith)
        (far_behind (numbers_of B) (numbers_of U) count n h) each
        (front_differs (numbers_of B) count n
        (absent_front (numbers_of B) (n ∷ numbers_of U) count n h))

-- too few are not as many others
length_filter_le : (p : ℕ → Bool) (xs : List ℕ) → length (filter p xs) ≤ length xs
length_filter_le p [] = omega arith
length_filter_le p (x ∷ xs) = one (p x) (length_filter_le p xs)
  where
    one : (b : Bool) → length (filter p xs) ≤ length xs
        → length (cond b (x ∷ filter p xs) (filter p xs)) ≤ suc (length xs)
    one true h = omega arith
    one false h = omega arith

-- each once is no more than all
length_distinct : (xs : List ℕ) → length (distinct xs) ≤ length xs
length_distinct [] = omega arith
length_distinct (x ∷ xs) =
    omega (arith, length_filter_le (λ m. not (eqb m x)) (distinct xs), length_distinct xs)

-- fewer numbers are not so many others
pub too_few : (count n : ℕ) (B : List Reception) → length (numbers_of B) < count
    → HasOthers count n B → ⊥
too_few count n B few h =
    omega (
      arith,
      length_filter_le (λ m. not (eqb m n)) (distinct (numbers_of B)),
      length_distinct (numbers_of B),
    )

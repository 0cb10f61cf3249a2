-- Counts of records: those that pass one test are no more than those that pass another, if each of
-- them has one of these that no other one has.
use Rattle.std.proofs.Common.{◌≡◌, ℕ, zero, suc, ◌+◌, ◌≤◌, Bool, true, false, cond, ◌||◌, List, []}
use Rattle.std.proofs.Common.{◌∷◌, length, map, Some, eqb, refl, sym, ap, subst, ◌∙◌, true≢false}
use Rattle.std.proofs.Common.{arith}
use Rattle.std.specs.Prelude.{slice_get}
use Rattle.std.specs.List.{count_by}
use Rattle.std.proofs.lemmas.Bool.{eqb-true, eq-eqb}
use Rattle.its_model.specs.History.{is_among}
use Rattle.its_model.specs.Stations.{AreDistinct}
use Rattle.its_model.proofs.Distinct.{subset_le}
use Rattle.its_model.proofs.NumberTests.{count_cons}
use Rattle.its_duties.specs.Seen.{Seen}

-- the places of the records that pass, counted from a number
abbrev places : ℕ → (Seen → Bool) → List Seen → List ℕ
places from p [] = []
places from p (r ∷ tap) =
    cond (p r) (from ∷ places (suc from) p tap) (places (suc from) p tap)

count_places : (from : ℕ) (p : Seen → Bool) (tap : List Seen)
    → count_by p tap ≡ length (places from p tap)
count_places from p [] = refl
count_places from p (r ∷ tap) =
    count_cons p r tap ∙ by (p r) (count_places (suc from) p tap)
  where
    by : (b : Bool) → count_by p tap ≡ length (places (suc from) p tap)
        → cond b 1 0 + count_by p tap
        ≡ length (cond b (from ∷ places (suc from) p tap) (places (suc from) p tap))
    by true h = omega (arith, h)
    by false h = omega (arith, h)

length_mapped : (g : ℕ → ℕ) (xs : List ℕ) → length (map g xs) ≡ length xs
length_mapped g [] = refl
length_mapped g (x ∷ xs) = ap suc (length_mapped g xs)

-- a record that passes
pub record Passes (p : Seen → Bool) (tap : List Seen) (i : ℕ) : Type 0 where
  pub seen : Seen
  pub at : slice_get tap i ≡ Some seen
  pub passes : p seen ≡ true

-- the record of a place
record Placed (p : Seen → Bool) (tap : List Seen) (from : ℕ) (g : ℕ → ℕ) (y : ℕ) : Type 0 where
  pub i : ℕ
  pub record_there : Passes p tap i
  pub is : y ≡ g (from + i)

placed_later : (p : Seen → Bool) (r : Seen) (tap : List Seen) (from : ℕ) (g : ℕ → ℕ) (y : ℕ)
    → Placed p tap (suc from) g y → Placed p (r ∷ tap) from g y
placed_later p r tap from g y h = record {
  i = suc h.i;
  record_there = record {
    seen = h.record_there.seen;
    at = h.record_there.at;
    passes = h.record_there.passes;
  };
  is = h.is ∙ ap g (omega arith);
}

placed : (p : Seen → Bool) (tap : List Seen) (from : ℕ) (g : ℕ → ℕ) (y : ℕ)
    → is_among y (map g (places from p tap)) ≡ true → Placed p tap from g y
placed p [] from g y e = absurd (true≢false (sym e))
placed p (r ∷ tap) from g y e = by (p r) refl (placed p tap (suc from) g y) e
  where
    here : (b : Bool) → p r ≡ true → eqb (g from) y ≡ b
        → (is_among y (map g (places (suc from) p tap)) ≡ true → Placed p tap (suc from) g y)
        → (b || is_among y (map g (places (suc from) p tap))) ≡ true → Placed p (r ∷ tap) from g y
    here true passes same rest e = record {
      i = 0;
      record_there = record { seen = r; at = refl; passes = passes };
      is = sym (eqb-true (g from) y same) ∙ ap g (omega arith);
    }
    here false passes other rest e = placed_later p r tap from g y (rest e)

    by : (b : Bool) → p r ≡ b
        → (is_among y (map g (places (suc from) p tap)) ≡ true → Placed p tap (suc from) g y)
        → is_among y (map g (cond b (from ∷ places (suc from) p tap) (places (suc from) p tap)))
        ≡ true → Placed p (r ∷ tap) from g y
    by true passes rest e = here (eqb (g from) y) passes refl rest e
    by false fails rest e = placed_later p r tap from g y (rest e)

either_true : (a b : Bool) → b ≡ true → (a || b) ≡ true
either_true true b e = refl
either_true false b e = e

none_there : (i : ℕ) (r : Seen) → slice_get [] i ≡ Some r → ⊥
none_there i r e = cc

-- a record that passes has its place
place_there : (p : Seen → Bool) (tap : List Seen) (from i : ℕ) → Passes p tap i
    → is_among (from + i) (places from p tap) ≡ true
place_there p [] from i h = absurd (none_there i h.seen h.at)
place_there p (r ∷ tap) from zero h =
    subst (λ (b : Bool). is_among (from + 0)
    (cond b (from ∷ places (suc from) p tap) (places (suc from) p tap)) ≡ true)
    (sym (ap p (same r h.seen h.at) ∙ h.passes))
    (ap (λ (b : Bool). b || is_among (from + 0) (places (suc from) p tap))
    (eq-eqb from (from + 0) (omega arith)))
  where
    same : (r s : Seen) → Some r ≡ Some s → r ≡ s
    same r s e = cc
place_there p (r ∷ tap) from (suc i) h =
    by (p r)
    (place_there p tap (suc from) i (record { seen = h.seen; at = h.at; passes = h.passes }))
  where
    next : suc from + i ≡ from + suc i
    next = omega arith

    by : (b : Bool) → is_among (suc from + i) (places (suc from) p tap) ≡ true
        → is_among (from + suc i)
        (cond b (from ∷ places (suc from) p tap) (places (suc from) p tap)) ≡ true
    by true rest = either_true (eqb from (from + suc i)) _
        (subst (λ (n : ℕ). is_among n (places (suc from) p tap) ≡ true) next rest)
    by false rest = subst (λ (n : ℕ). is_among n (places (suc from) p tap) ≡ true) next rest

-- no two records that pass have the same
abbrev pub IsInjective : (Seen → Bool) → List Seen → ℕ → (ℕ → ℕ) → Type 0
IsInjective p tap from g =
    (i j : ℕ) → Passes p tap i → Passes p tap j → g (from + i) ≡ g (from + j) → i ≡ j

injective_later : (p : Seen → Bool) (r : Seen) (tap : List Seen) (from : ℕ) (g : ℕ → ℕ)
    → IsInjective p (r ∷ tap) from g → IsInjective p tap (suc from) g
injective_later p r tap from g once i j h l e =
    let more : suc i ≡ suc j =
    once (suc i) (suc j) (record { seen = h.seen; at = h.at; passes = h.passes })
    (record { seen = l.seen; at = l.at; passes = l.passes })
    (ap g (omega arith) ∙ e ∙ ap g (omega arith)) in
    omega (arith, more)

distinct_mapped : (p : Seen → Bool) (tap : List Seen) (from : ℕ) (g : ℕ → ℕ)
    → IsInjective p tap from g → AreDistinct (map g (places from p tap))
distinct_mapped p [] from g once = tt
distinct_mapped p (r ∷ tap) from g once =
    by (p r) refl (distinct_mapped p tap (suc from) g (injective_later p r tap from g once))
  where
    absent : (b : Bool) → p r ≡ true → is_among (g from) (map g (places (suc from) p tap)) ≡ b
        → b ≡ false
    absent false passes e = refl
    absent true passes e =
        let h = placed p tap (suc from) g (g from) e in
        let wrong : 0 ≡ suc h.i =
        once 0 (suc h.i) (record { seen = r; at = refl; passes = passes })
        (record { seen = h.record_there.seen; at = h.record_there.at; passes = h.record_there.passes })
        (ap g (omega arith) ∙ h.is ∙ ap g (omega arith)) in
        absurd (omega (arith, wrong))

    by : (b : Bool) → p r ≡ b → AreDistinct (map g (places (suc from) p tap))
        → AreDistinct (map g (cond b (from ∷ places (suc from) p tap) (places (suc from) p tap)))
    by true passes rest =
        (refl ∙ absent (is_among (g from) (map g (places (suc from) p tap))) passes refl, rest)
    by false fails rest = rest

-- each has one that passes the other test
pub count_injected : (p q : Seen → Bool) (tap : List Seen) (g : ℕ → ℕ)
    → ((i : ℕ) → Passes p tap i → Passes q tap (g i)) → IsInjective p tap 0 g
    → count_by p tap ≤ count_by q tap
count_injected p q tap g maps once =
    let few = subset_le (map g (places 0 p tap)) (places 0 q tap) (distinct_mapped p tap 0 g once)
    (λ y e.
    (let h = placed p tap 0 g y e in
    let first : 0 + g h.i ≡ g h.i = omega arith in
    let counted : h.i ≡ 0 + h.i = omega arith in
    subst (λ (n : ℕ). is_among n (places 0 q tap) ≡ true)
    (first ∙ ap g counted ∙ sym h.is)
    (place_there q tap 0 (g h.i) (maps h.i h.record_there)))) in
    omega (
      arith,
      few,
      count_places 0 p tap,
      count_places 0 q tap,
      length_mapped g (places 0 p tap),
    )

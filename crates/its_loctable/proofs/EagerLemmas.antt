-- A store that keeps its entries in ascending order of their addresses, and sweeps the dead ones at
-- each accept.
use Rattle.std.proofs.Common.{◌≡◌, ℕ, ◌+◌, ◌≤◌, ◌<◌, Bool, true, false, cond, ◌≢◌, List, [], ◌∷◌}
use Rattle.std.proofs.Common.{Option, Some, None, refl, sym, ap, ◌∙◌, eqb, ltb, length, arith, inl}
use Rattle.std.proofs.Common.{inr, ◌⊎◌, ⊎_elim, count_by}
use Rattle.std.specs.List.{list_any, list_all}
use Rattle.std.proofs.lemmas.Bool.{cases_order, cases_eq, eqb-true, eqb-false, eq-eqb, ne_eqb}
use Rattle.std.proofs.lemmas.Bool.{ltb-true, ltb-false, le-ltb, cond-true, cond-false, or_from}
use Rattle.std.proofs.lemmas.Bool.{and_parts, and_from, lt-ltb}
use Rattle.std.proofs.lemmas.List.Sums.{sum_by-cons}
use Rattle.its_model.specs.History.{Reception, Known, entry_life, renewed}
use Rattle.its_loctable.specs.Content.{Entry, live_part, entry_at, Hears}
use Rattle.its_loctable.specs.Eager.{swept, upsert, is_rising}
use Rattle.its_loctable.proofs.ContentLemmas.{AreApart, entry_at-absent}

abbrev pub IsBelowAll : ℕ → List Entry → Type 0
IsBelowAll n [] = Unit {0}
IsBelowAll n (e ∷ es) = (n < e.address) × IsBelowAll n es

abbrev pub IsRising : List Entry → Type 0
IsRising [] = Unit {0}
IsRising (e ∷ es) = IsBelowAll e.address es × IsRising es

-- ---- what each source finds
pub entry_at-swept : (es : List Entry) (now t s : ℕ) → now ≤ t → AreApart es
    → entry_at (swept now es) s t ≡ entry_at es s t
entry_at-swept [] now t s from apart = refl
entry_at-swept (e ∷ es) now t s from apart = by (ltb now e.until) (eqb s e.address) refl refl
    (entry_at-swept es now t s from apart.1)
  where
    by : (a b : Bool) → ltb now e.until ≡ a → eqb s e.address ≡ b → entry_at (swept now es) s t
        ≡ entry_at es s t
        → entry_at (cond a (e ∷ swept now es) (swept now es)) s t
        ≡ cond b (live_part t e) (entry_at es s t)
    by true b p q rest = ap (cond (eqb s e.address) (live_part t e)) rest
        ∙ ap (λ d. cond d (live_part t e) (entry_at es s t)) q
    by false false p q rest = rest
    by false true p q rest =
        let dead : e.until ≤ now = ltb-false now e.until p in
        rest ∙ ap (λ n. entry_at es n t) (eqb-true s e.address q)
        ∙ entry_at-absent es e.address t apart.0
        ∙ sym (cond-false (ltb t e.until) (Some e.known) None (le-ltb t e.until (omega arith)))

pub entry_at-upsert : (es : List Entry) (e : Entry) (s t : ℕ) → entry_at (upsert es e) s t
    ≡ cond (eqb s e.address) (live_part t e) (entry_at es s t)
entry_at-upsert [] e s t = refl
entry_at-upsert (x ∷ xs) e s t = by (ltb e.address x.address) (eqb e.address x.address) refl
    (entry_at-upsert xs e s t)
  where
    twice : (b : Bool) (p q r : Option Known) → cond b p r ≡ cond b p (cond b q r)
    twice true p q r = refl
    twice false p q r = refl

    swap : e.address ≢ x.address → (b d : Bool) → eqb s x.address ≡ b → eqb s e.address ≡ d
        → cond b (live_part t x) (cond d (live_part t e) (entry_at xs s t))
        ≡ cond d (live_part t e) (cond b (live_part t x) (entry_at xs s t))
    swap ne true true p q = absurd (ne (sym (eqb-true _ _ q) ∙ eqb-true _ _ p))
    swap ne true false p q = refl
    swap ne false d p q = refl

    by : (a b : Bool) → eqb e.address x.address ≡ b → entry_at (upsert xs e) s t
        ≡ cond (eqb s e.address) (live_part t e) (entry_at xs s t)
        → entry_at (cond a (e ∷ x ∷ xs) (cond b (e ∷ xs) (x ∷ upsert xs e))) s t
        ≡ cond (eqb s e.address) (live_part t e)
        (cond (eqb s x.address) (live_part t x) (entry_at xs s t))
    by true b q rest = refl
    by false true q rest = twice (eqb s e.address) (live_part t e) (live_part t x) (entry_at xs s t)
        ∙ ap (λ n. cond (eqb s e.address) (live_part t e)
        (cond (eqb s n) (live_part t x) (entry_at xs s t))) (eqb-true _ _ q)
    by false false q rest = ap (cond (eqb s x.address) (live_part t x)) rest
        ∙ swap (eqb-false _ _ q) (eqb s x.address) (eqb s e.address) refl refl

-- an accept: sweep, and put the new entry into its place
pub Hears-eager : (remember : ℕ) (old : List Entry) (r : Reception) (e : Entry) → AreApart old
    → e.address ≡ r.vector.address
    → e.known ≡ renewed remember (entry_at old r.vector.address r.moment) r → e.until
    ≡ r.moment + entry_life → Hears remember old (upsert (swept r.moment old) e) r
Hears-eager remember old r e apart own is until = record {
  live = λ t s from.
      entry_at-upsert (swept r.moment old) e s t
      ∙ ap (cond (eqb s e.address) (live_part t e)) (entry_at-swept old r.moment t s from apart)
      ∙ by t s (cases_eq r.vector.address s);
}
  where
    by : (t s : ℕ) → (r.vector.address ≡ s) ⊎ (r.vector.address ≡ s → ⊥)
        → cond (eqb s e.address) (live_part t e) (entry_at old s t)
        ≡ cond (eqb r.vector.address s)
        (cond (ltb t (r.moment + entry_life))
        (Some (renewed remember (entry_at old s r.moment) r)) None) (entry_at old s t)
    by t s (inl same) =
        cond-true (eqb s e.address) (live_part t e) (entry_at old s t)
        (eq-eqb s e.address (sym same ∙ sym own))
        ∙ (λ i. cond (ltb t (until i)) (Some (is i)) None)
        ∙ ap (λ n. cond (ltb t (r.moment + entry_life))
        (Some (renewed remember (entry_at old n r.moment) r)) None) same
        ∙ sym (cond-true (eqb r.vector.address s) _ (entry_at old s t) (eq-eqb _ _ same))
    by t s (inr other) =
        cond-false (eqb s e.address) (live_part t e) (entry_at old s t)
        (ne_eqb s e.address (λ q. other (sym own ∙ sym q)))
        ∙ sym (cond-false (eqb r.vector.address s) _ (entry_at old s t) (ne_eqb _ _ other))

-- ---- the order is kept
IsBelowAll-weaker : (m n : ℕ) (es : List Entry) → m ≤ n → IsBelowAll n es → IsBelowAll m es
IsBelowAll-weaker m n [] le h = tt
IsBelowAll-weaker m n (e ∷ es) le h = let lt : n < e.address = h.0
    in (omega arith, IsBelowAll-weaker m n es le h.1)

pub IsBelowAll-swept : (n now : ℕ) (es : List Entry) → IsBelowAll n es → IsBelowAll n (swept now es)
IsBelowAll-swept n now [] h = tt
IsBelowAll-swept n now (e ∷ es) h =
    elim (ltb now e.until) as (λ b. IsBelowAll n (cond b (e ∷ swept now es) (swept now es)))
    [ true ↦ (h.0, IsBelowAll-swept n now es h.1) | false ↦ IsBelowAll-swept n now es h.1 ]

pub IsRising-swept : (now : ℕ) (es : List Entry) → IsRising es → IsRising (swept now es)
IsRising-swept now [] h = tt
IsRising-swept now (e ∷ es) h =
    elim (ltb now e.until) as (λ b. IsRising (cond b (e ∷ swept now es) (swept now es))) [
      | true ↦ (IsBelowAll-swept e.address now es h.0, IsRising-swept now es h.1)
      | false ↦
          IsRising-swept now es h.1
    ]

IsBelowAll-upsert : (n : ℕ) (es : List Entry) (e : Entry) → n < e.address → IsBelowAll n es
    → IsBelowAll n (upsert es e)
IsBelowAll-upsert n [] e lt h = (lt, tt)
IsBelowAll-upsert n (x ∷ xs) e lt h =
    elim (ltb e.address x.address) as (λ b. IsBelowAll n
    (cond b (e ∷ x ∷ xs) (cond (eqb e.address x.address) (e ∷ xs) (x ∷ upsert xs e)))) [
      | true ↦ (lt, h)
      | false ↦ elim (eqb e.address x.address) as (λ b. IsBelowAll n
          (cond b (e ∷ xs) (x ∷ upsert xs e)))
          [ true ↦ (lt, h.1) | false ↦ (h.0, IsBelowAll-upsert n xs e lt h.1) ]
    ]

pub IsRising-upsert : (es : List Entry) (e : Entry) → IsRising es → IsRising (upsert es e)
IsRising-upsert [] e h = (tt, tt)
IsRising-upsert (x ∷ xs) e h = by (ltb e.address x.address) (eqb e.address x.address) refl refl
    (IsRising-upsert xs e h.1)
  where
    by : (a b : Bool) → ltb e.address x.address ≡ a → eqb e.address x.address ≡ b
        → IsRising (upsert xs e)
        → IsRising (cond a (e ∷ x ∷ xs) (cond b (e ∷ xs) (x ∷ upsert xs e)))
    by true b p q rest = let lt : e.address < x.address = ltb-true _ _ p
        in ((lt, IsBelowAll-weaker e.address x.address xs (omega arith) h.0), h)
    by false true p q rest = let same : e.address ≡ x.address = eqb-true _ _ q
        in (IsBelowAll-weaker e.address x.address xs (omega arith) h.0, h.1)
    by false false p q rest =
        let le : x.address ≤ e.address = ltb-false _ _ p in
        let ne : e.address ≢ x.address = eqb-false _ _ q in
        let lt : x.address < e.address = ⊎_elim (λ s. absurd (ne s))
        (λ d'. ⊎_elim (λ (l : e.address < x.address). omega arith)
        (λ (l : x.address < e.address). l) d') (cases_order e.address x.address) in
        (IsBelowAll-upsert x.address xs e lt h.0, rest)

none_below : (n : ℕ) (es : List Entry) → IsBelowAll n es → list_any (λ (d : Entry). eqb n d.address)
    es ≡ false
none_below n [] h = refl
none_below n (e ∷ es) h = let lt : n < e.address = h.0
    in or_from _ _ (ne_eqb n e.address (λ q. let same : n ≡ e.address = q in absurd (omega arith)))
    (none_below n es h.1)

pub apart-rising : (es : List Entry) → IsRising es → AreApart es
apart-rising [] h = tt
apart-rising (e ∷ es) h = (none_below e.address es h.0, apart-rising es h.1)

-- ---- and the room suffices
pub length-swept : (now : ℕ) (es : List Entry) → length (swept now es)
    ≡ count_by (λ (e : Entry). ltb now e.until) es
length-swept now [] = refl
length-swept now (e ∷ es) = by (ltb now e.until) (length-swept now es)
    ∙ sym (sum_by-cons (λ (d : Entry). cond (ltb now d.until) 1 0) e es)
  where
    by : (b : Bool) → length (swept now es) ≡ count_by (λ (d : Entry). ltb now d.until) es
        → length (cond b (e ∷ swept now es) (swept now es))
        ≡ cond b 1 0 + count_by (λ (d : Entry). ltb now d.until) es
    by true rest = omega (arith, rest)
    by false rest = omega (arith, rest)

below_all-true : (n : ℕ) (es : List Entry) → list_all (λ (d : Entry). ltb n d.address) es ≡ true
    → IsBelowAll n es
below_all-true n [] h = tt
below_all-true n (e ∷ es) h = let p = and_parts (ltb n e.address)
    (list_all (λ (d : Entry). ltb n d.address) es) h in (ltb-true _ _ p.0, below_all-true n es p.1)

true-below_all : (n : ℕ) (es : List Entry) → IsBelowAll n es
    → list_all (λ (d : Entry). ltb n d.address) es ≡ true
true-below_all n [] h = refl
true-below_all n (e ∷ es) h = and_from (ltb n e.address)
    (list_all (λ (d : Entry). ltb n d.address) es) (lt-ltb _ _ h.0) (true-below_all n es h.1)

pub rising-true : (es : List Entry) → is_rising es ≡ true → IsRising es
rising-true [] h = tt
rising-true (e ∷ es) h = let p = and_parts (list_all (λ (d : Entry). ltb e.address d.address) es)
    (is_rising es) h in (below_all-true e.address es p.0, rising-true es p.1)

pub true-rising : (es : List Entry) → IsRising es → is_rising es ≡ true
true-rising [] h = refl
true-rising (e ∷ es) h = and_from (list_all (λ (d : Entry). ltb e.address d.address) es)
    (is_rising es) (true-below_all e.address es h.0) (true-rising es h.1)

-- ---- an entry that is live may go to its place before or after the sweep
pub upsert-first : (es : List Entry) (e : Entry) → IsBelowAll e.address es → upsert es e ≡ e ∷ es
upsert-first [] e h = refl
upsert-first (x ∷ xs) e h = cond-true (ltb e.address x.address) _ _ (lt-ltb _ _ h.0)

pub swept-upsert : (now : ℕ) (es : List Entry) (e : Entry) → now < e.until → IsRising es
    → swept now (upsert es e) ≡ upsert (swept now es) e
swept-upsert now [] e live h = cond-true (ltb now e.until) _ _ (lt-ltb _ _ live)
swept-upsert now (x ∷ xs) e live h = by (ltb e.address x.address) (eqb e.address x.address)
    (ltb now x.until) refl refl refl (swept-upsert now xs e live h.1)
  where
    stays : (l : List Entry) → cond (ltb now e.until) (e ∷ l) l ≡ e ∷ l
    stays l = cond-true (ltb now e.until) _ _ (lt-ltb _ _ live)

    by : (a b d : Bool) → ltb e.address x.address ≡ a → eqb e.address x.address ≡ b
        → ltb now x.until ≡ d → swept now (upsert xs e) ≡ upsert (swept now xs) e
        → swept now (cond a (e ∷ x ∷ xs) (cond b (e ∷ xs) (x ∷ upsert xs e)))
        ≡ upsert (cond d (x ∷ swept now xs) (swept now xs)) e
    by true b d p q r rest =
        let lt : e.address < x.address = ltb-true _ _ p in
        stays (cond (ltb now x.until) (x ∷ swept now xs) (swept now xs))
        ∙ sym (upsert-first (swept now (x ∷ xs)) e
        (IsBelowAll-swept e.address now (x ∷ xs)
        (lt, IsBelowAll-weaker e.address x.address xs (omega arith) h.0)))
        ∙ ap (λ f. upsert (cond f (x ∷ swept now xs) (swept now xs)) e) r
    by false true true p q r rest = stays (swept now xs)
        ∙ sym (cond-false (ltb e.address x.address) _ _ p ∙ cond-true (eqb e.address x.address) _ _
        q)
    by false true false p q r rest =
        let same : e.address ≡ x.address = eqb-true _ _ q in
        stays (swept now xs)
        ∙ sym (upsert-first (swept now xs) e
        (IsBelowAll-swept e.address now xs
        (IsBelowAll-weaker e.address x.address xs (omega arith) h.0)))
    by false false true p q r rest =
        cond-true (ltb now x.until) _ _ r ∙ ap (λ l. x ∷ l) rest
        ∙ sym (cond-false (ltb e.address x.address) _ _ p
        ∙ cond-false (eqb e.address x.address) _ _ q)
    by false false false p q r rest = cond-false (ltb now x.until) _ _ r ∙ rest

-- ---- the order is kept by an accept
pub rising-accept : (now : ℕ) (es new : List Entry) (e : Entry) → is_rising es ≡ true → new
    ≡ upsert (swept now es) e → is_rising new ≡ true
rising-accept now es new e rising is = ap is_rising is ∙ true-rising (upsert (swept now es) e)
    (IsRising-upsert (swept now es) e (IsRising-swept now es (rising-true es rising)))

-- The live entries of a content, in ascending order of their addresses, are the stations of the
-- history that it represents.
use Rattle.std.proofs.Common.{◌≡◌, ℕ, suc, ◌+◌, ◌^◌, ◌≤◌, ◌<◌, Bool, true, false, not, cond, ◌||◌}
use Rattle.std.proofs.Common.{◌&&◌, ◌≢◌, List, [], ◌∷◌, Option, Some, None, refl, sym, ap, ◌∙◌, eqb}
use Rattle.std.proofs.Common.{ltb, leb, length, arith, ⊎_elim, true≢false, is_some, count_by}
use Rattle.std.specs.List.{list_any}
use Rattle.std.proofs.lemmas.Bool.{cases_order, cases_eq, eqb-true, eqb-false, eq-eqb, ne_eqb}
use Rattle.std.proofs.lemmas.Bool.{ltb-true, ltb-false, leb-true, leb-false, lt-ltb, le-ltb}
use Rattle.std.proofs.lemmas.Bool.{cond-true, cond-false}
use Rattle.std.proofs.lemmas.List.Sums.{sum_by-cons}
use Rattle.its_model.specs.History.{Reception, Known}
use Rattle.its_model.specs.Stations.{stations_at, by_address, is_full, AllAbove, Rises}
use Rattle.its_loctable.specs.Content.{Entry, live_part, entry_at, Represents}
use Rattle.its_model.proofs.StationLemmas.{addr, AllAbove-weaker, address-known}
use Rattle.its_model.proofs.StationLemmas.{by_address-stations_at, stations_at-is}
use Rattle.its_model.proofs.Renewal.{known_nothing}

-- no two entries have one address
abbrev pub AreApart : List Entry → Type 0
AreApart [] = Unit {0}
AreApart (e ∷ es) = (list_any (λ (d : Entry). eqb e.address d.address) es ≡ false) × AreApart es

-- what is known of a source, put into its place by address
abbrev pub place : Known → List Known → List Known
place k [] = k ∷ []
place k (x ∷ xs) = cond (ltb (addr k) (addr x)) (k ∷ x ∷ xs) (x ∷ place k xs)

abbrev pub ordered : ℕ → List Entry → List Known
ordered t [] = []
ordered t (e ∷ es) = cond (ltb t e.until) (place e.known (ordered t es)) (ordered t es)

abbrev Own : ℕ → List Entry → Type 0
Own t [] = Unit {0}
Own t (e ∷ es) = (ltb t e.until ≡ true → addr e.known ≡ e.address) × Own t es

pub or_first : (a b : Bool) → (a || b) ≡ false → a ≡ false
or_first true b e = absurd (true≢false e)
or_first false b e = refl

pub or_second : (a b : Bool) → (a || b) ≡ false → b ≡ false
or_second true b e = absurd (true≢false e)
or_second false b e = e

pub entry_at-absent : (es : List Entry) (s t : ℕ) → list_any (λ (d : Entry). eqb s d.address) es
    ≡ false → entry_at es s t ≡ None
entry_at-absent [] s t h = refl
entry_at-absent (e ∷ es) s t h = cond-false (eqb s e.address) (live_part t e) (entry_at es s t)
    (or_first _ _ h) ∙ entry_at-absent es s t (or_second _ _ h)

-- each live entry has a standing of its own address
own_entries : (es : List Entry) (t : ℕ) → AreApart es
    → ((s : ℕ) (k : Known) → entry_at es s t ≡ Some k → addr k ≡ s) → Own t es
own_entries [] t apart own = tt
own_entries (e ∷ es) t apart own = (
  λ live. own e.address e.known
      (cond-true (eqb e.address e.address) (live_part t e) (entry_at es e.address t)
      (eq-eqb e.address e.address refl) ∙ cond-true (ltb t e.until) (Some e.known) None live),
  own_entries es t apart.1 (λ s k found. ⊎_elim
      (λ (same : s ≡ e.address). absurd
      (true≢false (ap is_some
      (sym found ∙ ap (λ n. entry_at es n t) same ∙ entry_at-absent es e.address t apart.0))))
      (λ ne. own s k
      (cond-false (eqb s e.address) (live_part t e) (entry_at es s t) (ne_eqb s e.address ne)
      ∙ found))
      (cases_eq s e.address)),
)

by_address-place : (s : ℕ) (k : Known) (xs : List Known) → by_address (addr k) xs ≡ None
    → by_address s (place k xs) ≡ cond (eqb s (addr k)) (Some k) (by_address s xs)
by_address-place s k [] none = refl
by_address-place s k (x ∷ xs) none = by (ltb (addr k) (addr x)) (eqb (addr k) (addr x)) refl none
    (by_address-place s k xs)
  where
    swap : eqb (addr k) (addr x) ≡ false → (b d : Bool) → eqb s (addr x) ≡ b → eqb s (addr k) ≡ d
        → cond b (Some x) (cond d (Some k) (by_address s xs))
        ≡ cond d (Some k) (cond b (Some x) (by_address s xs))
    swap apart true true p q = absurd (eqb-false _ _ apart (sym (eqb-true _ _ q) ∙ eqb-true _ _ p))
    swap apart true false p q = refl
    swap apart false d p q = refl

    by : (b d : Bool) → eqb (addr k) (addr x) ≡ d → cond d (Some x) (by_address (addr k) xs) ≡ None
        → (by_address (addr k) xs ≡ None → by_address s (place k xs)
        ≡ cond (eqb s (addr k)) (Some k) (by_address s xs))
        → by_address s (cond b (k ∷ x ∷ xs) (x ∷ place k xs)) ≡ cond (eqb s (addr k)) (Some k)
        (cond (eqb s (addr x)) (Some x) (by_address s xs))
    by true d e n rest = refl
    by false true e n rest = absurd (true≢false (ap is_some n))
    by false false e n rest = ap (cond (eqb s (addr x)) (Some x)) (rest n)
        ∙ swap e (eqb s (addr x)) (eqb s (addr k)) refl refl

AllAbove-place : (n : ℕ) (k : Known) (xs : List Known) → n < addr k → AllAbove n xs
    → AllAbove n (place k xs)
AllAbove-place n k [] lt h = (lt, tt)
AllAbove-place n k (x ∷ xs) lt h =
    elim (ltb (addr k) (addr x)) as (λ b. AllAbove n (cond b (k ∷ x ∷ xs) (x ∷ place k xs)))
    [ true ↦ (lt, h) | false ↦ (h.0, AllAbove-place n k xs lt h.1) ]

Rises-place : (k : Known) (xs : List Known) → by_address (addr k) xs ≡ None → Rises xs
    → Rises (place k xs)
Rises-place k [] none h = (tt, tt)
Rises-place k (x ∷ xs) none h = by (ltb (addr k) (addr x)) (eqb (addr k) (addr x)) refl refl none
    (λ n. Rises-place k xs n h.1)
  where
    by : (b d : Bool) → ltb (addr k) (addr x) ≡ b → eqb (addr k) (addr x) ≡ d
        → cond d (Some x) (by_address (addr k) xs) ≡ None
        → (by_address (addr k) xs ≡ None → Rises (place k xs))
        → Rises (cond b (k ∷ x ∷ xs) (x ∷ place k xs))
    by b true l e n rest = absurd (true≢false (ap is_some n))
    by true false l e n rest = let lt : addr k < addr x = ltb-true _ _ l
        in ((lt, AllAbove-weaker (addr k) (addr x) xs (omega arith) h.0), h)
    by false false l e n rest =
        let le : addr x ≤ addr k = ltb-false _ _ l in
        let ne : addr k ≢ addr x = eqb-false _ _ e in
        let lt : addr x < addr k = ⊎_elim (λ q. absurd (ne q))
        (λ d'. ⊎_elim (λ (l : addr k < addr x). omega arith) (λ (l : addr x < addr k). l) d')
        (cases_order (addr k) (addr x)) in
        (AllAbove-place (addr x) k xs lt h.0, rest n)

length-place : (k : Known) (xs : List Known) → length (place k xs) ≡ suc (length xs)
length-place k [] = refl
length-place k (x ∷ xs) =
    elim (ltb (addr k) (addr x)) as (λ b. length (cond b (k ∷ x ∷ xs) (x ∷ place k xs))
    ≡ suc (suc (length xs))) [ true ↦ refl | false ↦ ap suc (length-place k xs) ]

pub length-ordered : (t : ℕ) (es : List Entry) → length (ordered t es)
    ≡ count_by (λ (e : Entry). ltb t e.until) es
length-ordered t [] = refl
length-ordered t (e ∷ es) = by (ltb t e.until) (length-ordered t es)
    ∙ sym (sum_by-cons (λ (d : Entry). cond (ltb t d.until) 1 0) e es)
  where
    by : (b : Bool) → length (ordered t es) ≡ count_by (λ (d : Entry). ltb t d.until) es
        → length (cond b (place e.known (ordered t es)) (ordered t es))
        ≡ cond b 1 0 + count_by (λ (d : Entry). ltb t d.until) es
    by true rest = length-place e.known (ordered t es) ∙ omega (arith, rest)
    by false rest = omega (arith, rest)

record Orders (t : ℕ) (es : List Entry) : Type 0 where
  rises : Rises (ordered t es)
  looks : (s : ℕ) → by_address s (ordered t es) ≡ entry_at es s t

orders : (t : ℕ) (es : List Entry) → AreApart es → Own t es → Orders t es
orders t [] apart own = record { rises = tt; looks = λ s. refl }
orders t (e ∷ es) apart own = let both = by (orders t es apart.1 own.1) (ltb t e.until) refl
    in record { rises = both.0; looks = both.1 }
  where
    absent : (n : ℕ) → n ≡ e.address → entry_at es n t ≡ None
    absent n q = ap (λ m. entry_at es m t) q ∙ entry_at-absent es e.address t apart.0

    dead : (s : ℕ) (b : Bool) → eqb s e.address ≡ b → entry_at es s t
        ≡ cond b None (entry_at es s t)
    dead s true q = absent s (eqb-true _ _ q)
    dead s false q = refl

    by : Orders t es → (b : Bool) → ltb t e.until ≡ b
        → Rises (cond b (place e.known (ordered t es)) (ordered t es))
        × ((s : ℕ) → by_address s (cond b (place e.known (ordered t es)) (ordered t es))
        ≡ cond (eqb s e.address) (cond b (Some e.known) None) (entry_at es s t))
    by rest true live =
        let same : addr e.known ≡ e.address = own.0 live in
        let none : by_address (addr e.known) (ordered t es) ≡ None = rest.looks (addr e.known)
        ∙ absent (addr e.known) same in (
          Rises-place e.known (ordered t es) none rest.rises,
          λ s. by_address-place s e.known
              (ordered t es) none ∙ (λ i. cond (eqb s (same i)) (Some e.known) (rest.looks s i)),
        )
    by rest false live = (rest.rises, λ s. rest.looks s ∙ dead s (eqb s e.address) refl)

-- each live entry has an address that no later live entry has, and what comes after it rises
abbrev pub Placed : ℕ → List Entry → Type 0
Placed t [] = Unit {0}
Placed t (e ∷ es) = (ltb t e.until ≡ true → by_address (addr e.known) (ordered t es) ≡ None)
    × Rises (ordered t es) × Placed t es

placed_own : (t : ℕ) (es : List Entry) → AreApart es → Own t es → Placed t es
placed_own t [] apart own = tt
placed_own t (e ∷ es) apart own =
    let o = orders t es apart.1 own.1 in (
      λ live. o.looks (addr e.known) ∙ ap (λ m. entry_at es m t) (own.0 live)
          ∙ entry_at-absent es e.address t apart.0,
      o.rises,
      placed_own t es apart.1 own.1,
    )

own_represented : (remember : ℕ) (es : List Entry) (history : List Reception) (t : ℕ) → t ≤ 2 ^ 62
    → AreApart es → Represents remember es history t → Own t es
own_represented remember es history t small apart rep = own_entries es t apart
    (λ s k found. address-known remember s t history k
    (sym (rep.live t s (omega arith) small) ∙ found))

pub placed : (remember : ℕ) (es : List Entry) (history : List Reception) (t : ℕ) → t ≤ 2 ^ 62
    → AreApart es → Represents remember es history t → Placed t es
placed remember es history t small apart rep = placed_own t es apart
    (own_represented remember es history t small apart rep)

pub ordered-stations_at : (remember : ℕ) (es : List Entry) (history : List Reception) (t : ℕ)
    → t ≤ 2 ^ 62 → AreApart es → Represents remember es history t
    → ordered t es ≡ stations_at remember t history
ordered-stations_at remember es history t small apart rep =
    let o = orders t es apart (own_represented remember es history t small apart rep) in
    stations_at-is remember t history (ordered t es) o.rises
    (λ s. o.looks s ∙ rep.live t s (omega arith) small)

-- how many are live
count-stations_at : (remember : ℕ) (es : List Entry) (history : List Reception) (t : ℕ) → t ≤ 2 ^ 62
    → AreApart es → Represents remember es history t
    → count_by (λ (e : Entry). ltb t e.until) es ≡ length (stations_at remember t history)
count-stations_at remember es history t small apart rep = sym (length-ordered t es)
    ∙ ap length (ordered-stations_at remember es history t small apart rep)

not_below : (a b : ℕ) → not (leb a b) ≡ ltb b a
not_below a b = by (leb a b) refl
  where
    by : (d : Bool) → leb a b ≡ d → not d ≡ ltb b a
    by true e = let le : a ≤ b = leb-true a b e in sym (le-ltb b a le)
    by false e = let lt : b < a = leb-false a b e in sym (lt-ltb b a lt)

-- what the stations have of a source is what the store finds of it
pub found-stations_at : (remember : ℕ) (es : List Entry) (history : List Reception) (t source : ℕ)
    → t ≤ 2 ^ 62 → Represents remember es history t
    → by_address source (stations_at remember t history) ≡ entry_at es source t
found-stations_at remember es history t source small rep = by_address-stations_at remember t history
    source ∙ sym (rep.live t source (omega arith) small)

-- the answer of `has_room` for a source that isn't live
pub room-is_full : (remember : ℕ) (es : List Entry) (history : List Reception)
    (t source capacity : ℕ) → t ≤ 2 ^ 62 → AreApart es → Represents remember es history t
    → entry_at es source t ≡ None
    → ltb (count_by (λ (e : Entry). ltb t e.until) es) capacity
    ≡ not (is_full capacity source (stations_at remember t history))
room-is_full remember es history t source capacity small apart rep none =
    ap (λ n. ltb n capacity) (count-stations_at remember es history t small apart rep)
    ∙ sym (not_below capacity (length (stations_at remember t history)))
    ∙ ap (λ o. not (not (is_some o) && leb capacity (length (stations_at remember t history))))
    (sym none ∙ sym (found-stations_at remember es history t source small rep))

-- the answer of `has_room` for a live source
pub live-is_full : (remember : ℕ) (es : List Entry) (history : List Reception)
    (t source capacity : ℕ) → t ≤ 2 ^ 62 → Represents remember es history t
    → is_some (entry_at es source t) ≡ true
    → is_full capacity source (stations_at remember t history) ≡ false
live-is_full remember es history t source capacity small rep live =
    ap (λ o. not (is_some o) && leb capacity (length (stations_at remember t history)))
    (found-stations_at remember es history t source small rep)
    ∙ ap (λ b. not b && leb capacity (length (stations_at remember t history))) live

pub none_from : (o : Option Known) → is_some o ≡ false → o ≡ None
none_from None e = refl
none_from (Some k) e = absurd (true≢false e)

pub Represents-empty : (remember : ℕ) → Represents remember [] [] 0
Represents-empty remember =
    record { live = λ t source from to. sym (known_nothing remember source t) }

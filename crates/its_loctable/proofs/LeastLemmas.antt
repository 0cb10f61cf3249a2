-- A walk over the entries in any order finds the first station that passes.
use Rattle.std.proofs.Common.{◌≡◌, ℕ, ◌+◌, ◌^◌, ◌≤◌, ◌<◌, Bool, true, false, cond, ◌&&◌, ◌≢◌, List}
use Rattle.std.proofs.Common.{[], ◌∷◌, Option, Some, None, refl, sym, ap, ◌∙◌, ◌++◌, suc, zero, eqb}
use Rattle.std.proofs.Common.{ltb, find, fold, take, slice_get, arith, true≢false, is_some}
use Rattle.std.proofs.Common.{unwrap_or, count_by, add-one, ⊎_elim}
use Rattle.std.proofs.lemmas.Bool.{cases_order, eqb-false, ltb-true, ltb-false, lt-ltb, le-ltb}
use Rattle.std.proofs.lemmas.Bool.{cond-true, cond-false}
use Rattle.its_model.specs.History.{Reception, Known}
use Rattle.its_model.specs.Stations.{stations_at, by_address, AllAbove, Rises}
use Rattle.its_loctable.specs.Content.{Entry, Represents}
use Rattle.its_loctable.specs.Wanted.{lesser, better}
use Rattle.its_loctable.specs.declared.slot.Slot.{Slot}
use Rattle.its_loctable.specs.declared.heard.Known.{Known as Shown}
use Rattle.its_loctable.specs.Heard.{shown}
use Rattle.std.specs.Option.{option_map}
use Rattle.its_loctable.specs.Ordered.{slot_entry, contained}
use Rattle.std.proofs.lemmas.List.{map-append}
use Rattle.std.proofs.lemmas.List.Sums.{fold-append, sum_by_push}
use Rattle.its_model.proofs.StationLemmas.{addr, AllAbove-weaker}
use Rattle.its_loctable.proofs.ContentLemmas.{AreApart, place, ordered, ordered-stations_at, Placed}
use Rattle.its_loctable.proofs.ContentLemmas.{placed}

abbrev pub passing : (Known → Bool) → Known → Option Known
passing p k = cond (p k) (Some k) None

lesser-none : (x : Option Known) → lesser x None ≡ x
lesser-none None = refl
lesser-none (Some x) = refl

lesser-assoc : (x y z : Option Known) → lesser (lesser x y) z ≡ lesser x (lesser y z)
lesser-assoc None y z = refl
lesser-assoc (Some x) None z = refl
lesser-assoc (Some x) (Some y) None = lesser-none (cond (ltb (addr y) (addr x)) (Some y) (Some x))
lesser-assoc (Some x) (Some y) (Some z) = by (ltb (addr y) (addr x)) (ltb (addr z) (addr y))
    (ltb (addr z) (addr x)) refl refl refl
  where
    by : (a b c : Bool) → ltb (addr y) (addr x) ≡ a → ltb (addr z) (addr y) ≡ b
        → ltb (addr z) (addr x) ≡ c
        → lesser (cond a (Some y) (Some x)) (Some z) ≡ lesser (Some x) (cond b (Some z) (Some y))
    by true true c p q r = let h : addr y < addr x = ltb-true _ _ p in let g : addr z < addr y =
        ltb-true _ _ q in
        cond-true (ltb (addr z) (addr y)) (Some z) (Some y) q
        ∙ sym (cond-true (ltb (addr z) (addr x)) (Some z) (Some x) (lt-ltb _ _ (omega arith)))
    by true false c p q r = cond-false (ltb (addr z) (addr y)) (Some z) (Some y) q
        ∙ sym (cond-true (ltb (addr y) (addr x)) (Some y) (Some x) p)
    by false true c p q r = refl
    by false false c p q r = let h : addr x ≤ addr y = ltb-false _ _ p in let g : addr y ≤ addr z =
        ltb-false _ _ q in
        cond-false (ltb (addr z) (addr x)) (Some z) (Some x) (le-ltb _ _ (omega arith))
        ∙ sym (cond-false (ltb (addr y) (addr x)) (Some y) (Some x) p)

module _ (p : Known → Bool) where
  -- what is found above k is greater
  first_above : (k : Known) (xs : List Known) → AllAbove (addr k) xs → lesser (Some k) (find p xs)
      ≡ Some k
  first_above k [] h = refl
  first_above k (x ∷ xs) h = by (p x) (first_above k xs h.1)
    where
      by : (b : Bool) → lesser (Some k) (find p xs) ≡ Some k
          → lesser (Some k) (cond b (Some x) (find p xs)) ≡ Some k
      by true rest = let lt : addr k < addr x = h.0 in cond-false (ltb (addr x) (addr k)) (Some x)
          (Some k) (le-ltb _ _ (omega arith))
      by false rest = rest

  find-place : (k : Known) (xs : List Known) → by_address (addr k) xs ≡ None → Rises xs
      → find p (place k xs) ≡ lesser (passing p k) (find p xs)
  find-place k [] none h = by (p k)
    where
      by : (b : Bool) → cond b (Some k) None ≡ lesser (cond b (Some k) None) None
      by true = refl
      by false = refl
  find-place k (x ∷ xs) none h = by (ltb (addr k) (addr x)) (eqb (addr k) (addr x)) (p k) refl refl
      none (λ n. find-place k xs n h.1)
    where
      tail : (b d : Bool) → addr x < addr k
          → cond b (Some x) (lesser (cond d (Some k) None) (find p xs))
          ≡ lesser (cond d (Some k) None) (cond b (Some x) (find p xs))
      tail true true lt = sym (cond-true (ltb (addr x) (addr k)) (Some x) (Some k) (lt-ltb _ _ lt))
      tail true false lt = refl
      tail false d lt = refl

      by : (b e d : Bool) → ltb (addr k) (addr x) ≡ b → eqb (addr k) (addr x) ≡ e
          → cond e (Some x) (by_address (addr k) xs) ≡ None
          → (by_address (addr k) xs ≡ None → find p (place k xs) ≡ lesser (passing p k) (find p xs))
          → find p (cond b (k ∷ x ∷ xs) (x ∷ place k xs)) ≡ lesser (passing p k) (find p (x ∷ xs))
      by b true d l e n rest = absurd (true≢false (ap is_some n))
      by true false d l e n rest = let lt : addr k < addr x = ltb-true _ _ l
          in head (p k)
          (first_above k (x ∷ xs) (lt, AllAbove-weaker (addr k) (addr x) xs (omega arith) h.0))
        where
          head : (b : Bool) → lesser (Some k) (find p (x ∷ xs)) ≡ Some k
              → cond b (Some k) (find p (x ∷ xs)) ≡ lesser (cond b (Some k) None) (find p (x ∷ xs))
          head true g = sym g
          head false g = refl
      by false false d l e n rest =
          let le : addr x ≤ addr k = ltb-false _ _ l in
          let ne : addr k ≢ addr x = eqb-false _ _ e in
          let lt : addr x < addr k = ⊎_elim (λ q. absurd (ne q))
          (λ d'. ⊎_elim (λ (l : addr k < addr x). omega arith) (λ (l : addr x < addr k). l) d')
          (cases_order (addr k) (addr x)) in
          ap (cond (p x) (Some x)) (rest n) ∙ tail (p x) (p k) lt

  walk : (t : ℕ) (es : List Entry) (best : Option Known) → Placed t es → fold (better p t) best es
      ≡ lesser best (find p (ordered t es))
  walk t [] best h = sym (lesser-none best)
  walk t (e ∷ es) best h = walk t es (better p t best e) h.2
      ∙ by (ltb t e.until) (p e.known) refl refl
    where
      by : (b d : Bool) → ltb t e.until ≡ b → p e.known ≡ d
          → lesser (cond (b && d) (lesser best (Some e.known)) best) (find p (ordered t es))
          ≡ lesser best (find p (cond b (place e.known (ordered t es)) (ordered t es)))
      by true true l q = lesser-assoc best (Some e.known) (find p (ordered t es))
          ∙ ap (lesser best)
          (sym (find-place e.known (ordered t es) (h.0 l) h.1
          ∙ ap (λ b. lesser (cond b (Some e.known) None) (find p (ordered t es))) q))
      by true false l q = ap (lesser best)
          (sym (find-place e.known (ordered t es) (h.0 l) h.1
          ∙ ap (λ b. lesser (cond b (Some e.known) None) (find p (ordered t es))) q))
      by false d l q = refl

  -- the walk from nothing finds the first station that passes
  pub walked : (remember : ℕ) (es : List Entry) (history : List Reception) (t : ℕ) → t ≤ 2 ^ 62
      → AreApart es → Represents remember es history t → fold (better p t) None es
      ≡ find p (stations_at remember t history)
  walked remember es history t small apart rep = walk t es None
      (placed remember es history t small apart rep)
      ∙ ap (find p) (ordered-stations_at remember es history t small apart rep)

take_next : {X : Type 0} (xs : List X) (i : ℕ) (x : X) → slice_get xs i ≡ Some x → take (i + 1) xs
    ≡ take i xs ++ x ∷ []
take_next xs i x at = rw add-one (by xs i at)
  where
    by : (ys : List _) (j : ℕ) → slice_get ys j ≡ Some x → take (suc j) ys ≡ take j ys ++ x ∷ []
    by [] j e = absurd (true≢false (sym (ap is_some e)))
    by (y ∷ ys) zero e = ap (λ o. unwrap_or o y ∷ []) e
    by (y ∷ ys) (suc j) e = ap (λ l. y ∷ l) (by ys j e)

-- one more slot of a table in the order of insertion
pub walk_more : (p : Known → Bool) (t : ℕ) (es : List (ℕ × Slot)) (i : ℕ) (e : ℕ × Slot)
    → slice_get es i ≡ Some e
    → fold (better p t) None (contained (take (i + 1) es))
    ≡ better p t (fold (better p t) None (contained (take i es))) (slot_entry e)
walk_more p t es i e at = ap (λ l. fold (better p t) None (contained l)) (take_next es i e at)
    ∙ ap (fold (better p t) None) (map-append slot_entry (take i es) (e ∷ []))
    ∙ fold-append (better p t) None (contained (take i es)) (slot_entry e ∷ [])

-- one more that passes
pub count_next : {X : Type 0} (p : X → Bool) (xs : List X) (i : ℕ) (x : X) → slice_get xs i ≡ Some x
    → p x ≡ true → count_by p (take (i + 1) xs) ≡ count_by p (take i xs) + 1
count_next p xs i x at passes = ap (count_by p) (take_next xs i x at)
    ∙ sum_by_push (λ y. cond (p y) 1 0) (take i xs) x
    ∙ ap (λ b. count_by p (take i xs) + cond b 1 0) passes

Passes : (Known → Bool) → Option Known → Type 0
Passes p None = Unit {0}
Passes p (Some k) = p k ≡ true

better-Passes : (p : Known → Bool) (t : ℕ) (best : Option Known) (e : Entry) → Passes p best
    → Passes p (better p t best e)
unfolding Passes
better-Passes p t best e h = by (ltb t e.until) (p e.known) refl best h
  where
    pick : (b : Bool) (x y : Known) → p x ≡ true → p y ≡ true → Passes p (cond b (Some y) (Some x))
    pick true x y hx hy = hy
    pick false x y hx hy = hx

    by : (b d : Bool) → p e.known ≡ d → (best : Option Known) → Passes p best
        → Passes p (cond (b && d) (lesser best (Some e.known)) best)
    by true true q None h = q
    by true true q (Some x) h = pick (ltb (addr e.known) (addr x)) x e.known h q
    by true false q best h = h
    by false d q best h = h

fold-Passes : (p : Known → Bool) (t : ℕ) (best : Option Known) (es : List Entry) → Passes p best
    → Passes p (fold (better p t) best es)
fold-Passes p t best [] h = h
fold-Passes p t best (e ∷ es) h = fold-Passes p t (better p t best e) es
    (better-Passes p t best e h)

-- what the walk finds passes
pub found_passes : (p : Shown → Bool) (t : ℕ) (es : List Entry) (known : Shown) → Some known
    ≡ option_map shown (fold (better (λ s. p (shown s)) t) None es) → p known ≡ true
unfolding Passes
found_passes p t es known e = by (fold (better (λ s. p (shown s)) t) None es) e
    (fold-Passes (λ s. p (shown s)) t None es tt)
  where
    by : (o : Option Known) → Some known ≡ option_map shown o → Passes (λ s. p (shown s)) o
        → p known ≡ true
    by None e h = absurd (true≢false (ap is_some e))
    by (Some k) e h = ap p (ap (λ o. unwrap_or o known) e) ∙ h

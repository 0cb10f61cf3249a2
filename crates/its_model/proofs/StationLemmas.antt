-- Lists of what is known of stations, in ascending order of their addresses; and that the stations
-- of a history are one.
use Rattle.std.proofs.Common.{◌≡◌, ℕ, ◌+◌, ◌≤◌, ◌<◌, Bool, true, false, cond, ◌||◌, ◌≢◌, List, []}
use Rattle.std.proofs.Common.{◌∷◌, Option, Some, None, refl, sym, ap, subst, ◌∙◌, eqb, ltb}
use Rattle.std.proofs.Common.{arith, ⊎_elim, true≢false, unwrap_or, is_some}
use Rattle.std.specs.Option.{option_map}
use Rattle.std.specs.List.{list_any, filter_map, cons_option}
use Rattle.std.proofs.lemmas.Bool.{cases_order, cases_eq, eqb-true, eqb-false, eq-eqb, ne_eqb}
use Rattle.std.proofs.lemmas.Bool.{ltb-true, ltb-false, cond-true, cond-false}
use Rattle.its_gnvalue.specs.Values.{PositionVector, is_newer}
use Rattle.its_model.specs.History.{Reception, Known, entry_life, of_source, unbroken, session}
use Rattle.its_model.specs.History.{fresher, vector_after, known_after, known}
use Rattle.its_model.specs.Stations.{put, sources, stations_at, by_address, AllAbove, Rises}

-- the address
abbrev pub addr : Known → ℕ
addr k = k.vector.address

-- what is above more is above less
pub AllAbove-weaker : (m n : ℕ) (xs : List Known) → m ≤ n → AllAbove n xs → AllAbove m xs
AllAbove-weaker m n [] le h = tt
AllAbove-weaker m n (x ∷ xs) le h = let lt : n < addr x = h.0 in
    (omega arith, AllAbove-weaker m n xs le h.1)

-- nothing is found below all
pub by_address_below : (source n : ℕ) (xs : List Known) → source ≤ n → AllAbove n xs
    → by_address source xs ≡ None
by_address_below source n [] le h = refl
by_address_below source n (x ∷ xs) le h = let lt : n < addr x = h.0 in
    cond-false (eqb source (addr x)) (Some x) (by_address source xs)
    (ne_eqb source (addr x) (λ e. let same : source ≡ addr x = e in absurd (omega arith)))
    ∙ by_address_below source n xs le h.1

-- the first is found by its address
pub by_address_head : (x : Known) (xs : List Known) → by_address (addr x) (x ∷ xs) ≡ Some x
by_address_head x xs =
    cond-true (eqb (addr x) (addr x)) (Some x) (by_address (addr x) xs)
    (eq-eqb (addr x) (addr x) refl)

-- something isn't nothing
not_some : {P : Type 0} (x : Known) → ◌≡◌ {A = Option Known} (Some x) None → P
not_some x e = absurd (true≢false (ap is_some e))

-- what is the same as something
some_same : (x y : Known) → ◌≡◌ {A = Option Known} (Some x) (Some y) → x ≡ y
some_same x y e = ap (λ o. unwrap_or o x) e

-- lists that rise and answer alike at each address are equal
pub same_by_address : (xs ys : List Known) → Rises xs → Rises ys
    → ((s : ℕ) → by_address s xs ≡ by_address s ys) → xs ≡ ys
same_by_address [] [] rx ry same = refl
same_by_address [] (y ∷ ys) rx ry same =
    not_some y (sym (by_address_head y ys) ∙ sym (same (addr y)))
same_by_address (x ∷ xs) [] rx ry same = not_some x (sym (by_address_head x xs) ∙ same (addr x))
same_by_address (x ∷ xs) (y ∷ ys) rx ry same =
    ⊎_elim (equal (same_by_address xs ys rx.1 ry.1)) (λ d. ⊎_elim below above d)
    (cases_order (addr x) (addr y))
  where
    below : addr x < addr y → x ∷ xs ≡ y ∷ ys
    below lt = not_some x (sym (by_address_head x xs) ∙ same (addr x)
        ∙ cond-false (eqb (addr x) (addr y)) (Some y) (by_address (addr x) ys)
        (ne_eqb (addr x) (addr y) (λ e. let e' : addr x ≡ addr y = e in absurd (omega arith)))
        ∙ by_address_below (addr x) (addr y) ys (omega arith) ry.0)

    above : addr y < addr x → x ∷ xs ≡ y ∷ ys
    above lt = not_some y (sym (by_address_head y ys) ∙ sym (same (addr y))
        ∙ cond-false (eqb (addr y) (addr x)) (Some x) (by_address (addr y) xs)
        (ne_eqb (addr y) (addr x) (λ e. let e' : addr y ≡ addr x = e in absurd (omega arith)))
        ∙ by_address_below (addr y) (addr x) xs (omega arith) rx.0)

    equal : (((s : ℕ) → by_address s xs ≡ by_address s ys) → xs ≡ ys) → addr x ≡ addr y
        → x ∷ xs ≡ y ∷ ys
    equal rest e =
        let heads : x ≡ y =
        some_same x y (sym (by_address_head x xs) ∙ same (addr x)
        ∙ cond-true (eqb (addr x) (addr y)) (Some y) (by_address (addr x) ys) (eq-eqb _ _ e)) in
        let tails : xs ≡ ys = rest (λ s. ⊎_elim
        (λ (same_s : s ≡ addr x). by_address_below s (addr x) xs (omega arith) rx.0
        ∙ sym (by_address_below s (addr y) ys (omega (arith, e)) ry.0))
        (λ other. sym (cond-false (eqb s (addr x)) (Some x) (by_address s xs) (ne_eqb _ _ other))
        ∙ same s ∙ cond-false (eqb s (addr y)) (Some y) (by_address s ys)
        (ne_eqb _ _ (λ q. other (q ∙ sym e))))
        (cases_eq s (addr x))) in
        λ i. heads i ∷ tails i

-- ---- what is known of a source has its address
AllOf : ℕ → List Reception → Type 0
AllOf s [] = Unit {0}
AllOf s (r ∷ rs) = (r.vector.address ≡ s) × AllOf s rs

-- the packets of a source are of it
of_source-AllOf : (s : ℕ) (history : List Reception) → AllOf s (of_source s history)
unfolding AllOf
of_source-AllOf s [] = tt
of_source-AllOf s (r ∷ rs) =
    elim (eqb r.vector.address s) as (λ b. eqb r.vector.address s ≡ b
    → AllOf s (cond b (r ∷ of_source s rs) (of_source s rs))) [
      | true ↦ λ e. (eqb-true _ _ e, of_source-AllOf s rs)
      | false ↦ λ e. of_source-AllOf s rs
    ] refl

-- so are those of a session
unbroken-AllOf : (s t : ℕ) (rs : List Reception) → AllOf s rs → AllOf s (unbroken t rs)
unfolding AllOf
unbroken-AllOf s t [] h = tt
unbroken-AllOf s t (r ∷ rs) h =
    elim (ltb t (r.moment + entry_life)) as
    (λ b. AllOf s (cond b (r ∷ unbroken r.moment rs) [])) [
      | true ↦ (
        h.0,
        unbroken-AllOf s r.moment rs h.1,
      )
      | false ↦ tt
    ]

-- the vector, if there is one, is of this address
IsOf : ℕ → Option PositionVector → Type 0
IsOf s None = Unit {0}
IsOf s (Some v) = v.address ≡ s

-- of two vectors of one address either has it
fresher-address : (s : ℕ) (v : PositionVector) (old : Option PositionVector) → v.address ≡ s
    → IsOf s old → (fresher v old).address ≡ s
unfolding IsOf
fresher-address s v None p q = p
fresher-address s v (Some w) p q =
    elim (is_newer v.timestamp w.timestamp) as
    (λ b. (cond b v w).address ≡ s) [ true ↦ p | false ↦ q ]

-- the vector after packets of one source is of it
vector_after-IsOf : (s : ℕ) (rs : List Reception) → AllOf s rs → IsOf s (vector_after rs)
unfolding AllOf IsOf
vector_after-IsOf s [] h = tt
vector_after-IsOf s (r ∷ rs) h =
    fresher-address s r.vector (vector_after rs) h.0 (vector_after-IsOf s rs h.1)

-- what is known, if something is, is of this address
IsAt : ℕ → Option Known → Type 0
IsAt s None = Unit {0}
IsAt s (Some k) = addr k ≡ s

-- what keeps the address of a vector
option_map-IsAt : (s : ℕ) (f : PositionVector → Known) (o : Option PositionVector)
    → ((v : PositionVector) → addr (f v) ≡ v.address) → IsOf s o → IsAt s (option_map f o)
unfolding IsOf IsAt
option_map-IsAt s f None own h = tt
option_map-IsAt s f (Some v) own h = own v ∙ h

-- what is known of a source has its address
known-IsAt : (remember s t : ℕ) (history : List Reception) → IsAt s (known remember s t history)
unfolding known
known-IsAt remember s t history =
    let rs = session s t history in
    option_map-IsAt s _ (vector_after rs) (λ v. refl)
    (vector_after-IsOf s rs
    (unbroken-AllOf s t (of_source s history) (of_source-AllOf s history)))

-- the same where something is known
pub address-known : (remember s t : ℕ) (history : List Reception) (k : Known)
    → known remember s t history ≡ Some k → addr k ≡ s
unfolding IsAt
address-known remember s t history k e = subst (IsAt s) e (known-IsAt remember s t history)

-- ---- the sources rise
abbrev Above : ℕ → List ℕ → Type 0
Above n [] = Unit {0}
Above n (x ∷ xs) = (n < x) × Above n xs

-- the numbers rise
abbrev Up : List ℕ → Type 0
Up [] = Unit {0}
Up (x ∷ xs) = Above x xs × Up xs

-- what is above more is above less
Above-weaker : (m n : ℕ) (xs : List ℕ) → m ≤ n → Above n xs → Above m xs
Above-weaker m n [] le h = tt
Above-weaker m n (x ∷ xs) le h = let lt : n < x = h.0 in (omega arith, Above-weaker m n xs le h.1)

-- one more that is above
Above-put : (m n : ℕ) (xs : List ℕ) → m < n → Above m xs → Above m (put n xs)
Above-put m n [] lt h = (lt, tt)
Above-put m n (x ∷ xs) lt h =
    elim (ltb n x) as
    (λ b. Above m (cond b (n ∷ x ∷ xs) (cond (eqb n x) (x ∷ xs) (x ∷ put n xs)))) [
      | true ↦ (lt, h)
      | false ↦ elim (eqb n x) as
          (λ b. Above m (cond b (x ∷ xs) (x ∷ put n xs))) [
            | true ↦ h
            | false ↦ (
              h.0,
              Above-put m n xs lt h.1,
            )
          ]
    ]

-- what is put into its place leaves them rising
Up-put : (n : ℕ) (xs : List ℕ) → Up xs → Up (put n xs)
Up-put n [] h = (tt, tt)
Up-put n (x ∷ xs) h =
    elim (ltb n x) as (λ b. ltb n x ≡ b
    → Up (cond b (n ∷ x ∷ xs) (cond (eqb n x) (x ∷ xs) (x ∷ put n xs)))) [
      | true ↦ λ e. let lt : n < x = ltb-true n x e in
          ((lt, Above-weaker n x xs (omega arith) h.0), h)
      | false ↦ λ e. elim (eqb n x) as (λ b. eqb n x ≡ b → Up (cond b (x ∷ xs) (x ∷ put n xs))) [
        | true ↦ λ _. h
        | false ↦ λ d. let le : x ≤ n = ltb-false n x e in let ne : n ≡ x → ⊥ = eqb-false n x d in (
          Above-put x n xs
              (⊎_elim (λ q. absurd (ne q))
              (λ d'. ⊎_elim (λ (l : n < x). omega arith) (λ (l : x < n). l) d')
              (cases_order n x)) h.0,
          Up-put n xs h.1,
        )
      ] refl
    ] refl

-- the sources rise
pub sources-Up : (history : List Reception) → Up (sources history)
sources-Up [] = tt
sources-Up (r ∷ rs) = Up-put r.vector.address (sources rs) (sources-Up rs)

-- ---- what a list of sources gives
module _ (f : ℕ → Option Known) (own : (s : ℕ) → IsAt s (f s)) where
  cons-AllAbove : (n x : ℕ) (k : Option Known) (rest : List Known) → n < x → IsAt x k
      → AllAbove n rest → AllAbove n (cons_option k rest)
  unfolding IsAt
  cons-AllAbove n x None rest lt is h = h
  cons-AllAbove n x (Some k) rest lt is h = (omega (arith, is), h)

  filter_map-AllAbove : (n : ℕ) (xs : List ℕ) → Above n xs → AllAbove n (filter_map f xs)
  filter_map-AllAbove n [] h = tt
  filter_map-AllAbove n (x ∷ xs) h =
      cons-AllAbove n x (f x) (filter_map f xs) h.0 (own x) (filter_map-AllAbove n xs h.1)

  cons-Rises : (x : ℕ) (k : Option Known) (rest : List Known) → IsAt x k → AllAbove x rest
      → Rises rest → Rises (cons_option k rest)
  unfolding IsAt
  cons-Rises x None rest is h r = r
  cons-Rises x (Some k) rest is h r = (AllAbove-weaker (addr k) x rest (omega (arith, is)) h, r)

  filter_map-Rises : (xs : List ℕ) → Up xs → Rises (filter_map f xs)
  filter_map-Rises [] h = tt
  filter_map-Rises (x ∷ xs) h =
      cons-Rises x (f x) (filter_map f xs) (own x) (filter_map-AllAbove x xs h.0)
      (filter_map-Rises xs h.1)

  by_address_same : (s : ℕ) (k : Option Known) (rest : List Known) (b : Bool) → IsAt s k
      → by_address s rest ≡ cond b k None → by_address s (cons_option k rest) ≡ k
  unfolding IsAt
  by_address_same s None rest true is e = e
  by_address_same s None rest false is e = e
  by_address_same s (Some k) rest b is e =
      cond-true (eqb s (addr k)) (Some k) (by_address s rest) (eq-eqb s (addr k) (sym is))

  by_address_other : (s x : ℕ) (k : Option Known) (rest : List Known) → s ≢ x → IsAt x k
      → by_address s (cons_option k rest) ≡ by_address s rest
  unfolding IsAt
  by_address_other s x None rest ne is = refl
  by_address_other s x (Some k) rest ne is =
      cond-false (eqb s (addr k)) (Some k) (by_address s rest)
      (ne_eqb s (addr k) (λ e. ne (e ∙ is)))

  by_address-filter_map : (s : ℕ) (xs : List ℕ)
      → by_address s (filter_map f xs) ≡ cond (list_any (eqb s) xs) (f s) None
  by_address-filter_map s [] = refl
  by_address-filter_map s (x ∷ xs) =
      ⊎_elim (same (by_address-filter_map s xs)) (other (by_address-filter_map s xs)) (cases_eq s x)
    where
      same : by_address s (filter_map f xs) ≡ cond (list_any (eqb s) xs) (f s) None → s ≡ x
          → by_address s (cons_option (f x) (filter_map f xs))
          ≡ cond (eqb s x || list_any (eqb s) xs) (f s) None
      same rest e = ap (λ y. by_address s (cons_option (f y) (filter_map f xs))) (sym e)
          ∙ by_address_same s (f s) (filter_map f xs) (list_any (eqb s) xs) (own s) rest
          ∙ sym (ap (λ b. cond (b || list_any (eqb s) xs) (f s) None) (eq-eqb s x e))

      other : by_address s (filter_map f xs) ≡ cond (list_any (eqb s) xs) (f s) None → s ≢ x
          → by_address s (cons_option (f x) (filter_map f xs))
          ≡ cond (eqb s x || list_any (eqb s) xs) (f s) None
      other rest ne =
          by_address_other s x (f x) (filter_map f xs) ne (own x) ∙ rest
          ∙ sym (ap (λ b. cond (b || list_any (eqb s) xs) (f s) None) (ne_eqb s x ne))

-- once is as good as twice
twice : (a b : Bool) → (a || b) ≡ (a || (a || b))
twice true b = refl
twice false b = refl

-- in any order
swapped : (a b c : Bool) → (a || (b || c)) ≡ (b || (a || c))
swapped true true c = refl
swapped true false c = refl
swapped false b c = refl

-- what is there after one more is put in
any-put : (s n : ℕ) (xs : List ℕ) → list_any (eqb s) (put n xs) ≡ (eqb s n || list_any (eqb s) xs)
any-put s n [] = refl
any-put s n (x ∷ xs) = by (ltb n x) (eqb n x) refl (any-put s n xs)
  where
    by : (b d : Bool) → eqb n x ≡ d → list_any (eqb s) (put n xs) ≡ (eqb s n || list_any (eqb s) xs)
        → list_any (eqb s) (cond b (n ∷ x ∷ xs) (cond d (x ∷ xs) (x ∷ put n xs)))
        ≡ (eqb s n || (eqb s x || list_any (eqb s) xs))
    by true d e rest = refl
    by false true e rest =
        twice (eqb s x) (list_any (eqb s) xs)
        ∙ ap (λ y. eqb s y || (eqb s x || list_any (eqb s) xs)) (sym (eqb-true n x e))
    by false false e rest =
        ap (λ b. eqb s x || b) rest ∙ swapped (eqb s x) (eqb s n) (list_any (eqb s) xs)

-- the first of two isn't so
or_first : (a b : Bool) → (a || b) ≡ false → a ≡ false
or_first true b e = absurd (true≢false e)
or_first false b e = refl

-- the second of two isn't so
or_second : (a b : Bool) → (a || b) ≡ false → b ≡ false
or_second true b e = absurd (true≢false e)
or_second false b e = e

-- nothing came of what isn't a source
not_heard : (s : ℕ) (history : List Reception) → list_any (eqb s) (sources history) ≡ false
    → of_source s history ≡ []
not_heard s [] e = refl
not_heard s (r ∷ rs) e =
    let parts : (eqb s r.vector.address || list_any (eqb s) (sources rs)) ≡ false =
    sym (any-put s r.vector.address (sources rs)) ∙ e in
    cond-false (eqb r.vector.address s) (r ∷ of_source s rs) (of_source s rs)
    (ne_eqb _ _ (λ q. eqb-false s r.vector.address (or_first _ _ parts) (sym q)))
    ∙ not_heard s rs (or_second _ _ parts)

-- ---- the stations of a history: they rise, and have at each address what is known of it
pub stations_at-Rises : (remember t : ℕ) (history : List Reception)
    → Rises (stations_at remember t history)
unfolding stations_at
stations_at-Rises remember t history =
    filter_map-Rises (λ s. known remember s t history) (λ s. known-IsAt remember s t history)
    (sources history) (sources-Up history)

-- at each address stands what is known of it
pub by_address-stations_at : (remember t : ℕ) (history : List Reception) (s : ℕ)
    → by_address s (stations_at remember t history) ≡ known remember s t history
unfolding stations_at known
by_address-stations_at remember t history s =
    by_address-filter_map (λ s. known remember s t history) (λ s. known-IsAt remember s t history) s
    (sources history) ∙ by (list_any (eqb s) (sources history)) refl
  where
    by : (b : Bool) → list_any (eqb s) (sources history) ≡ b
        → cond b (known remember s t history) None ≡ known remember s t history
    by true e = refl
    by false e = sym (ap (λ rs. known_after remember (unbroken t rs)) (not_heard s history e))

-- what stands at each address determines the list
pub stations_at-is : (remember t : ℕ) (history : List Reception) (stations : List Known)
    → Rises stations → ((s : ℕ) → by_address s stations ≡ known remember s t history)
    → stations ≡ stations_at remember t history
stations_at-is remember t history stations rises each =
    same_by_address stations (stations_at remember t history) rises
    (stations_at-Rises remember t history) (λ s. each s
    ∙ sym (by_address-stations_at remember t history s))

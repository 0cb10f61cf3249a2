-- The events of a file, put one after the other, stand as those that are due.
use Rattle.std.proofs.Common.{◌≡◌, ℕ, suc, ◌<◌, ◌≤◌, List, [], ◌∷◌, ◌++◌, map, refl, sym, ap}
use Rattle.std.proofs.Common.{◌∙◌, arith, Bool, true, false, cond, subst, ◌⊎◌, inl, inr}
use Rattle.std.proofs.Common.{append_assoc}
use Rattle.std.specs.Prelude.{◌==◌, nat_le}
use Rattle.std.specs.List.{AllByRecursion}
use Rattle.std.specs.List.Sorted.{IsNonDecreasingBy}
use Rattle.std.proofs.lemmas.Bool.{eqb-true, eq-eqb, ne_eqb, le-leb, lt-leb, cases_order, cases_lt}
use Rattle.std.proofs.lemmas.List.{append-nil}
use Rattle.std.proofs.lemmas.List.Elements.{recursion_from_All}
use Rattle.sim_air.specs.Due.{of_moment, AreDue}
use Rattle.sim_air.specs.Beside.{Rises}
use Rattle.sim_air_model.specs.Timetable.{moment_in}
use Rattle.sim_air_model.specs.Timetable.{Pending, Filed, of_file, schedule, schedule_all}

rises_sorted : (xs : List Filed) → IsNonDecreasingBy moment_in xs → Rises xs
rises_sorted [] h = tt
rises_sorted (x ∷ xs) h = (
  recursion_from_All (λ y. moment_in x ≤ moment_in y) xs
      (λ k d in'. h 0 (suc k) d (omega arith) (omega (arith, in'))),
  rises_sorted xs (λ i j d le lt. h (suc i) (suc j) d (omega (arith, le)) (omega (arith, lt))),
)

weaker : (P Q : Filed → Type 0) → ((e : Filed) → P e → Q e) → (xs : List Filed)
    → AllByRecursion P xs → AllByRecursion Q xs
weaker P Q imp [] h = tt
weaker P Q imp (x ∷ xs) h = (imp x h.0, weaker P Q imp xs h.1)

-- where an event goes among events
abbrev enter : Filed → List Filed → List Filed
enter e [] = e ∷ []
enter e (x ∷ xs) = cond (nat_le (moment_in x) (moment_in e)) (x ∷ enter e xs) (e ∷ x ∷ xs)

abbrev enter_all : List Filed → List Filed → List Filed
enter_all [] xs = xs
enter_all (e ∷ more) xs = enter_all more (enter e xs)

schedule_enter : (e : Filed) (xs : List Filed)
    → schedule (of_file e) (map of_file xs) ≡ map of_file (enter e xs)
schedule_enter e [] = refl
schedule_enter e (x ∷ xs) = by (nat_le (moment_in x) (moment_in e)) (schedule_enter e xs)
  where
    by : (b : Bool) → schedule (of_file e) (map of_file xs) ≡ map of_file (enter e xs)
        → cond b (of_file x ∷ schedule (of_file e) (map of_file xs))
        (of_file e ∷ of_file x ∷ map of_file xs)
        ≡ map of_file (cond b (x ∷ enter e xs) (e ∷ x ∷ xs))
    by true more = ap (λ (l : List Pending). of_file x ∷ l) more
    by false more = refl

schedule_all_enter : (es xs : List Filed)
    → schedule_all (map of_file es) (map of_file xs) ≡ map of_file (enter_all es xs)
schedule_all_enter [] xs = refl
schedule_all_enter (e ∷ es) xs =
    ap (schedule_all (map of_file es)) (schedule_enter e xs) ∙ schedule_all_enter es (enter e xs)

-- all are no earlier, with one more that isn't
enter_above : (m : ℕ) (e : Filed) (xs : List Filed) → m ≤ (moment_in e)
    → AllByRecursion (λ y. m ≤ (moment_in y)) xs → AllByRecursion (λ y. m ≤ (moment_in y))
    (enter e xs)
enter_above m e [] le h = (le, tt)
enter_above m e (x ∷ xs) le h = by (nat_le (moment_in x) (moment_in e)) (enter_above m e xs le h.1)
  where
    by : (b : Bool) → AllByRecursion (λ y. m ≤ (moment_in y)) (enter e xs)
        → AllByRecursion (λ y. m ≤ (moment_in y)) (cond b (x ∷ enter e xs) (e ∷ x ∷ xs))
    by true more = (h.0, more)
    by false more = (le, h)

enter_rises : (e : Filed) (xs : List Filed) → Rises xs → Rises (enter e xs)
enter_rises e [] h = (tt, tt)
enter_rises e (x ∷ xs) h = by (cases_lt (moment_in e) (moment_in x)) (enter_rises e xs h.1)
  where
    by : (moment_in e < moment_in x) ⊎ (moment_in x ≤ moment_in e) → Rises (enter e xs)
        → Rises (enter e (x ∷ xs))
    by (inl lt) more =
        subst (λ (b : Bool). Rises (cond b (x ∷ enter e xs) (e ∷ x ∷ xs)))
        (sym (lt-leb (moment_in x) (moment_in e) lt)) (
          (
            omega (arith, lt),
            weaker (λ y. moment_in x ≤ moment_in y) (λ y. moment_in e ≤ moment_in y)
                (λ y le. omega (arith, lt, le)) xs h.0,
          ),
          h,
        )
    by (inr le) more =
        subst (λ (b : Bool). Rises (cond b (x ∷ enter e xs) (e ∷ x ∷ xs)))
        (sym (le-leb (moment_in x) (moment_in e) le)) (enter_above (moment_in x) e xs le h.0, more)

-- of one moment there are none where all are later
none_of : (m : ℕ) (xs : List Filed) → AllByRecursion (λ y. m < (moment_in y)) xs → of_moment m xs
    ≡ []
none_of m [] h = refl
none_of m (x ∷ xs) h =
    let gt : m < (moment_in x) = h.0 in
    ap (λ (b : Bool). cond b (x ∷ of_moment m xs) (of_moment m xs))
    (ne_eqb (moment_in x) m (λ e. let e' : (moment_in x) ≡ m = e in absurd (omega arith)))
    ∙ none_of m xs h.1

-- one of a moment
here_of : (x : Filed) (xs : List Filed) → of_moment (moment_in x) (x ∷ xs)
    ≡ x ∷ of_moment (moment_in x) xs
here_of x xs =
    ap (λ (b : Bool). cond b (x ∷ of_moment (moment_in x) xs) (of_moment (moment_in x) xs))
    (eq-eqb (moment_in x) (moment_in x) refl)

-- it comes behind all others of its moment
enter_of : (m : ℕ) (e : Filed) (xs : List Filed) → Rises xs
    → of_moment m (enter e xs) ≡ of_moment m xs ++ of_moment m (e ∷ [])
enter_of m e [] h = refl
enter_of m e (x ∷ xs) h = by (cases_lt (moment_in e) (moment_in x)) (enter_of m e xs h.1)
  where
    longer : (b : Bool) (us vs ws : List Filed) → us ≡ vs ++ ws
        → cond b (x ∷ us) us ≡ cond b (x ∷ vs) vs ++ ws
    longer true us vs ws is = ap (λ (l : List Filed). x ∷ l) is
    longer false us vs ws is = is

    alone : (b : Bool) → ((moment_in e) == m) ≡ b → moment_in e < moment_in x
        → of_moment m (e ∷ x ∷ xs) ≡ of_moment m (x ∷ xs) ++ of_moment m (e ∷ [])
    alone true is lt =
        let same : (moment_in e) ≡ m = eqb-true (moment_in e) m is in
        let none : of_moment m (x ∷ xs) ≡ [] =
        none_of m (x ∷ xs) (
          omega (arith, lt, same),
          weaker (λ y. moment_in x ≤ moment_in y) (λ y. m < (moment_in y))
              (λ y le. omega (arith, lt, same, le))
              xs h.0,
        ) in
        ap (λ (b : Bool). cond b (e ∷ of_moment m (x ∷ xs)) (of_moment m (x ∷ xs))) is
        ∙ ap (λ (l : List Filed). e ∷ l) none
        ∙ sym (ap (λ (l : List Filed). l ++ of_moment m (e ∷ [])) none
        ∙ ap (λ (b : Bool). cond b (e ∷ []) []) is)
    alone false is lt =
        ap (λ (b : Bool). cond b (e ∷ of_moment m (x ∷ xs)) (of_moment m (x ∷ xs))) is
        ∙ sym (ap (λ (b : Bool). of_moment m (x ∷ xs) ++ cond b (e ∷ []) []) is
        ∙ append-nil (of_moment m (x ∷ xs)))

    by : (moment_in e < moment_in x) ⊎ (moment_in x ≤ moment_in e)
        → of_moment m (enter e xs) ≡ of_moment m xs ++ of_moment m (e ∷ [])
        → of_moment m (enter e (x ∷ xs)) ≡ of_moment m (x ∷ xs) ++ of_moment m (e ∷ [])
    by (inl lt) more =
        ap (λ (b : Bool). of_moment m (cond b (x ∷ enter e xs) (e ∷ x ∷ xs)))
        (lt-leb (moment_in x) (moment_in e) lt)
        ∙ alone ((moment_in e) == m) refl lt
    by (inr le) more =
        ap (λ (b : Bool). of_moment m (cond b (x ∷ enter e xs) (e ∷ x ∷ xs)))
        (le-leb (moment_in x) (moment_in e) le)
        ∙ longer ((moment_in x) == m) (of_moment m (enter e xs)) (of_moment m xs)
        (of_moment m (e ∷ [])) more

enter_all_rises : (es xs : List Filed) → Rises xs → Rises (enter_all es xs)
enter_all_rises [] xs h = h
enter_all_rises (e ∷ es) xs h = enter_all_rises es (enter e xs) (enter_rises e xs h)

enter_all_of : (m : ℕ) (es xs : List Filed) → Rises xs
    → of_moment m (enter_all es xs) ≡ of_moment m xs ++ of_moment m es
enter_all_of m [] xs h = sym (append-nil (of_moment m xs))
enter_all_of m (e ∷ es) xs h =
    enter_all_of m es (enter e xs) (enter_rises e xs h)
    ∙ ap (λ (l : List Filed). l ++ of_moment m es) (enter_of m e xs h)
    ∙ joined ((moment_in e) == m) (of_moment m xs)
  where
    joined : (b : Bool) (us : List Filed)
        → (us ++ cond b (e ∷ []) []) ++ of_moment m es ≡ us ++ cond b (e ∷ of_moment m es)
        (of_moment m es)
    joined true us = append_assoc us (e ∷ []) (of_moment m es)
    joined false us = append_assoc us [] (of_moment m es)

-- those that rise, and the others of a list that rises, of which they have all up to a moment
front : (until : ℕ) (due xs : List Filed) → Rises due
    → AllByRecursion (λ e. (moment_in e) ≤ until) due → Rises xs
    → ((m : ℕ) → m ≤ until → of_moment m due ≡ of_moment m xs)
    → (late : List Filed) × AllByRecursion (λ e. until < (moment_in e)) late × (xs ≡ due ++ late)
front until [] [] up in' rises same = ([], tt, refl)
front until [] (x ∷ xs) up in' rises same = by (cases_lt until (moment_in x))
  where
    by : (until < (moment_in x)) ⊎ ((moment_in x) ≤ until) → (late : List Filed)
        × AllByRecursion (λ e. until < (moment_in e)) late × (x ∷ xs ≡ late)
    by (inl lt) = (
      x ∷ xs,
      (
        lt,
        weaker (λ y. moment_in x ≤ moment_in y) (λ y. until < (moment_in y))
            (λ y le. omega (arith, lt, le)) xs rises.0,
      ),
      refl,
    )
    by (inr le) =
        let none : [] ≡ x ∷ of_moment (moment_in x) xs = same (moment_in x) le ∙ here_of x xs in
        let no : ⊥ = cc in absurd no
front until (d ∷ due) [] up in' rises same =
    let none : [] ≡ d ∷ of_moment (moment_in d) due = sym (same (moment_in d) in'.0)
    ∙ here_of d due in
    let no : ⊥ = cc in absurd no
front until (d ∷ due) (x ∷ xs) up in' rises same =
    by (cases_order (moment_in d) (moment_in x))
    (λ rest. front until due xs up.1 in'.1 rises.1 rest)
  where
    farther : (m n : ℕ) → m < n → (ys : List Filed) → AllByRecursion (λ y. n ≤ (moment_in y)) ys
        → AllByRecursion (λ y. m < (moment_in y)) ys
    farther m n lt ys h =
        weaker (λ y. n ≤ (moment_in y)) (λ y. m < (moment_in y)) (λ y le. omega (arith, lt, le)) ys
        h

    heads : moment_in d ≡ moment_in x → d ∷ of_moment (moment_in d) due
        ≡ x ∷ of_moment (moment_in d) xs
    heads is =
        sym (here_of d due) ∙ same (moment_in d) in'.0
        ∙ ap (λ (b : Bool). cond b (x ∷ of_moment (moment_in d) xs) (of_moment (moment_in d) xs))
        (eq-eqb (moment_in x) (moment_in d) (sym is))

    tails : d ≡ x → (m : ℕ) → m ≤ until → of_moment m due ≡ of_moment m xs
    tails is m le =
        shorter ((moment_in x) == m) (of_moment m due) (of_moment m xs)
        (ap (λ (e : Filed). cond ((moment_in e) == m) (e ∷ of_moment m due) (of_moment m due))
        (sym is)
        ∙ same m le)
      where
        shorter : (b : Bool) (us vs : List Filed) → cond b (x ∷ us) us ≡ cond b (x ∷ vs) vs
            → us ≡ vs
        shorter true us vs h = cc
        shorter false us vs h = h

    by : (moment_in d ≡ moment_in x) ⊎ ((moment_in d < moment_in x) ⊎ (moment_in x < moment_in d))
        → (((m : ℕ) → m ≤ until → of_moment m due ≡ of_moment m xs) → (late : List Filed)
        × AllByRecursion (λ e. until < (moment_in e)) late × (xs ≡ due ++ late))
        → (late : List Filed) × AllByRecursion (λ e. until < (moment_in e)) late
        × (x ∷ xs ≡ d ∷ (due ++ late))
    by (inl is) more =
        let both : d ∷ of_moment (moment_in d) due ≡ x ∷ of_moment (moment_in d) xs = heads is in
        let one : d ≡ x = cc in
        let rest = more (tails one) in (
          rest.0,
          rest.1,
          ap (λ (l : List Filed). x ∷ l) rest.2
              ∙ ap (λ (e : Filed). e ∷ (due ++ rest.0)) (sym one),
        )
    by (inr (inl lt)) more =
        let none : d ∷ of_moment (moment_in d) due ≡ [] =
        sym (here_of d due) ∙ same (moment_in d) in'.0
        ∙ none_of (moment_in d) (x ∷ xs) (lt, farther (moment_in d) (moment_in x) lt xs rises.0) in
        let no : ⊥ = cc in absurd no
    by (inr (inr lt)) more =
        let below : (moment_in d) ≤ until = in'.0 in
        let none : [] ≡ x ∷ of_moment (moment_in x) xs =
        sym (none_of (moment_in x) (d ∷ due) (lt, farther (moment_in x) (moment_in d) lt due up.0))
        ∙ same (moment_in x) (omega (arith, lt, below)) ∙ here_of x xs in
        let no : ⊥ = cc in absurd no

-- a file waits as what is due of it, and then what is late
pub due_and_late : (file due : List Filed) (until : ℕ) → AreDue file until due
    → (late : List Filed) × AllByRecursion (λ e. until < (moment_in e)) late
    × Rises (due ++ late) × (schedule_all (map of_file file) [] ≡ map of_file (due ++ late))
due_and_late file due until h =
    let all = enter_all file [] in
    let rises = enter_all_rises file [] tt in
    let parts = front until due all (rises_sorted due h.by_moment)
    (recursion_from_All (λ e. (moment_in e) ≤ until) due h.until_then) rises
    (λ m le. h.as_in_file m le ∙ sym (enter_all_of m file [] tt)) in (
      parts.0,
      parts.1,
      subst Rises parts.2 rises,
      schedule_all_enter file [] ∙ ap (map of_file) parts.2,
    )

-- Two lists of numbers that rise and have each number as often are one list; and who hears, found
-- in any order, are those that are found in the order of numbers.
use Rattle.std.proofs.Common.{◌≡◌, ℕ, zero, suc, ◌+◌, ◌<◌, ◌≤◌, List, [], ◌∷◌, Bool, true, false}
use Rattle.std.proofs.Common.{not, cond, ◌&&◌, map, filter, refl, sym, ap, ◌∙◌, arith, length, ◌⊎◌}
use Rattle.std.proofs.Common.{Option, Some, None, inl, inr, subst, ◌++◌, get_or, take, remove}
use Rattle.std.proofs.Common.{insert}
use Rattle.std.proofs.Common.{◌≢◌, is_some, true≢false, leb, le_trans, ◌-◌}
use Rattle.std.specs.Prelude.{count_by, sum_by, slice_get, ◌==◌, IfSome, HoldsAt, unsigned_abs}
use Rattle.std.specs.List.{position, position_or_len}
use Rattle.std.specs.Bool.{if◌then◌else◌}
use Rattle.std.specs.Option.{option_map}
use Rattle.std.specs.List.{AllByRecursion, AllWithin}
use Rattle.std.specs.List.Sorted.{IsNonDecreasingBy, IsPermutation, IsPartitionPoint}
use Rattle.std.proofs.lemmas.Bool.{eqb-true, eq-eqb, ne_eqb, cases_order, cases_eq, cases_lt}
use Rattle.std.proofs.lemmas.Bool.{ltb-false, leb-true, leb-false, le-leb}
use Rattle.std.proofs.lemmas.List.Edits.{length-remove, get_or-remove_below, get_or-remove_above}
use Rattle.std.proofs.lemmas.List.Sorted.{IsNonDecreasingBy-insert}
use Rattle.std.proofs.lemmas.List.{get_or-take, length-take}
use Rattle.std.proofs.lemmas.List.Elements.{recursion_from_All}
use Rattle.std.proofs.lemmas.List.Sums.{sum_by-cons, sum_by_push, sum_by-remove, sum_by-insert}
use Rattle.std.proofs.lemmas.List.Sums.{sum_by-le-sum_by, fails_before_first}
use Rattle.std.proofs.lemmas.List.Quantifiers.{position-Some}
use Rattle.std.proofs.lemmas.Option.{slice_get_past, slice_get_cases, slice_get_read}
use Rattle.std.proofs.lemmas.List.Sorted.{sum_by-IsPermutation}
use Rattle.its_gnvalue.specs.Values.{Position}
use Rattle.its_station.specs.State.{StationState}
use Rattle.its_world.specs.Steps.{AreSameBut}
use Rattle.sim_queue.specs.declared.places.place_index.Standing.{Standing}
use Rattle.sim_air_model.specs.Range.{is_within}
use Rattle.sim_queue.specs.Reach.{hears, hearers, numbers_from, hears_there}
use Rattle.sim_queue.specs.PlaceIndexes.{hears_from, is_off, count_at, times_at, AreStandingsOf}

-- once or never
abbrev bit : Bool → ℕ
bit b = cond b 1 0

count_more : {X : Type 0} (p : X → Bool) (x : X) (xs : List X)
    → count_by p (x ∷ xs) ≡ bit (p x) + count_by p xs
count_more p x xs = sum_by-cons (λ y. cond (p y) 1 0) x xs

-- the number of this one comes once more
count_here : (n : ℕ) (xs : List ℕ) → count_by (λ m. m == n) (n ∷ xs) ≡ 1 + count_by (λ m. m == n) xs
count_here n xs =
    count_more (λ m. m == n) n xs
    ∙ ap (λ (b : Bool). cond b 1 0 + count_by (λ m. m == n) xs) (eq-eqb n n refl)

none_below : (n : ℕ) (xs : List ℕ) → AllByRecursion (λ y. n < y) xs
    → count_by (λ m. m == n) xs ≡ 0
none_below n [] h = refl
none_below n (x ∷ xs) h =
    let above : n < x = h.0 in
    let here = count_more (λ m. m == n) x xs in
    let no : bit (x == n) ≡ bit false =
    ap bit (ne_eqb x n (λ e. let e' : x ≡ n = e in absurd (omega arith))) in
    let rest = none_below n xs h.1 in omega (arith, here, no, rest)

farther : (m n : ℕ) (xs : List ℕ) → m < n → AllByRecursion (λ y. n ≤ y) xs
    → AllByRecursion (λ y. m < y) xs
farther m n [] lt h = tt
farther m n (x ∷ xs) lt h =
    let le : n ≤ x = h.0 in (omega arith, farther m n xs lt h.1)

-- each number is no greater than those behind it
abbrev Rises : List ℕ → Type 0
Rises [] = Unit {0}
Rises (x ∷ xs) = AllByRecursion (λ y. x ≤ y) xs × Rises xs

rises_sorted : (xs : List ℕ) → IsNonDecreasingBy (λ x. x) xs → Rises xs
rises_sorted [] h = tt
rises_sorted (x ∷ xs) h = (
  recursion_from_All (λ y. x ≤ y) xs (λ k d in'. h 0 (suc k) d (omega arith) (omega (arith, in'))),
  rises_sorted xs (λ i j d le lt. h (suc i) (suc j) d (omega (arith, le)) (omega (arith, lt))),
)

pub same_rising : (xs ys : List ℕ) → Rises xs → Rises ys
    → ((n : ℕ) → count_by (λ m. m == n) xs ≡ count_by (λ m. m == n) ys) → xs ≡ ys
same_rising [] [] up vp same = refl
same_rising [] (y ∷ ys) up vp same =
    let here = count_here y ys in let none = same y in absurd (omega (arith, here, none))
same_rising (x ∷ xs) [] up vp same =
    let here = count_here x xs in let none = same x in absurd (omega (arith, here, none))
same_rising (x ∷ xs) (y ∷ ys) up vp same =
    by (cases_order x y) (λ rest. same_rising xs ys up.1 vp.1 rest)
  where
    below : (m n : ℕ) (ms ns : List ℕ) → m < n → AllByRecursion (λ z. n ≤ z) ns
        → count_by (λ z. z == m) (m ∷ ms) ≡ count_by (λ z. z == m) (n ∷ ns) → ⊥
    below m n ms ns lt all e =
        let here = count_here m ms in
        let none = none_below m (n ∷ ns) (lt, farther m n ns lt all) in
        omega (arith, here, none, e)

    rest : x ≡ y → (n : ℕ) → count_by (λ m. m == n) xs ≡ count_by (λ m. m == n) ys
    rest is n =
        let a = count_more (λ m. m == n) x xs in
        let b = count_more (λ m. m == n) y ys in
        let c = same n in
        let d : bit (x == n) ≡ bit (y == n) = ap (λ z. bit (z == n)) is in
        omega (arith, a, b, c, d)

    by : (x ≡ y) ⊎ ((x < y) ⊎ (y < x))
        → (((n : ℕ) → count_by (λ m. m == n) xs ≡ count_by (λ m. m == n) ys) → xs ≡ ys)
        → x ∷ xs ≡ y ∷ ys
    by (inl is) behind =
        ap (λ z. z ∷ xs) is ∙ ap (λ (l : List ℕ). y ∷ l) (behind (rest is))
    by (inr (inl lt)) behind = absurd (below x y xs ys lt vp.0 (same x))
    by (inr (inr gt)) behind = absurd (below y x ys xs gt up.0 (sym (same y)))

numbers_above : (passes : ℕ → StationState → Bool) (n m : ℕ) (sts : List StationState) → m ≤ n
    → AllByRecursion (λ y. m ≤ y) (numbers_from passes n sts)
numbers_above passes n m [] le = tt
numbers_above passes n m (st ∷ sts) le =
    by (passes n st) _ (numbers_above passes (n + 1) m sts (omega (arith, le)))
  where
    by : (b : Bool) (u : List ℕ) → AllByRecursion (λ y. m ≤ y) u
        → AllByRecursion (λ y. m ≤ y) (cond b (n ∷ u) u)
    by true u h = (le, h)
    by false u h = h

rises_numbers : (passes : ℕ → StationState → Bool) (n : ℕ) (sts : List StationState)
    → Rises (numbers_from passes n sts)
rises_numbers passes n [] = tt
rises_numbers passes n (st ∷ sts) =
    by (passes n st) _ (numbers_above passes (n + 1) n sts (omega arith))
    (rises_numbers passes (n + 1) sts)
  where
    by : (b : Bool) (u : List ℕ) → AllByRecursion (λ y. n ≤ y) u → Rises u
        → Rises (cond b (n ∷ u) u)
    by true u all up = (all, up)
    by false u all up = up

-- how often a number is among those that pass: as often as the station of that number passes
abbrev passing : (StationState → Bool) → Option StationState → ℕ
passing p None = 0
passing p (Some st) = cond (p st) 1 0

count_numbers : (passes : ℕ → StationState → Bool) (n i : ℕ) (sts : List StationState)
    → count_by (λ m. m == n + i) (numbers_from passes n sts)
    ≡ passing (passes (n + i)) (slice_get sts i)
count_numbers passes n i [] = refl
count_numbers passes n zero (st ∷ sts) =
    subst (λ k. count_by (λ m. m == k) (numbers_from passes n (st ∷ sts)) ≡ cond (passes k st) 1 0)
    plain (by (passes n st) _
    (none_below n (numbers_from passes (n + 1) sts)
    (farther n (n + 1) _ (omega arith) (numbers_above passes (n + 1) (n + 1) sts (omega arith)))))
  where
    plain : n ≡ n + zero
    plain = omega arith

    by : (b : Bool) (u : List ℕ) → count_by (λ m. m == n) u ≡ 0
        → count_by (λ m. m == n) (cond b (n ∷ u) u) ≡ cond b 1 0
    by true u none = count_here n u ∙ ap (λ k. 1 + k) none
    by false u none = none
count_numbers passes n (suc i) (st ∷ sts) =
    by (passes n st) _
    ∙ subst (λ k. count_by (λ m. m == k) (numbers_from passes (n + 1) sts)
    ≡ passing (passes k) (slice_get sts i)) next (count_numbers passes (n + 1) i sts)
  where
    next : n + 1 + i ≡ n + suc i
    next = omega arith

    by : (b : Bool) (u : List ℕ) → count_by (λ m. m == n + suc i) (cond b (n ∷ u) u)
        ≡ count_by (λ m. m == n + suc i) u
    by true u =
        let here = count_more (λ m. m == n + suc i) n u in
        let no : bit (n == n + suc i) ≡ bit false =
        ap bit (ne_eqb n (n + suc i) (λ e. let e' : n ≡ n + suc i = e in absurd (omega arith))) in
        omega (arith, here, no)
    by false u = refl

count_hearers : (range giver : ℕ) (place : Position) (sts : List StationState) (n : ℕ)
    → count_by (λ m. m == n) (hearers range sts giver place)
    ≡ times_at (hears_from range giver place n) (slice_get sts n)
count_hearers range giver place sts n =
    subst (λ k. count_by (λ m. m == k) (hearers range sts giver place)
    ≡ passing (hears range giver place k) (slice_get sts n)) from_zero
    (count_numbers (hears range giver place) 0 n sts) ∙ by _
  where
    from_zero : 0 + n ≡ n
    from_zero = omega arith

    by : (o : Option StationState)
        → passing (hears range giver place n) o ≡ times_at (hears_from range giver place n) o
    by None = refl
    by (Some st) = refl

pub count_gathered : (range giver : ℕ) (place : Position) (xs : List Standing) (n : ℕ)
    → count_by (λ m. m == n) (map (λ s. s.number) (filter (hears_there range giver place) xs))
    ≡ count_at (hears_from range giver place n) n xs
count_gathered range giver place [] n = refl
count_gathered range giver place (s ∷ xs) n =
    let a = first (hears_there range giver place s) (filter (hears_there range giver place) xs) in
    let b = count_gathered range giver place xs n in
    let c = alike (s.number == n) refl in
    let d = count_more (λ t. t.number == n && hears_from range giver place n t.place) s xs in
    omega (arith, a, b, c, d)
  where
    first : (b : Bool) (u : List Standing)
        → count_by (λ m. m == n) (map (λ t. t.number) (cond b (s ∷ u) u))
        ≡ cond b (bit (s.number == n)) 0 + count_by (λ m. m == n) (map (λ t. t.number) u)
    first true u = count_more (λ m. m == n) s.number (map (λ t. t.number) u)
    first false u = omega arith

    never : (b : Bool) → cond b (bit false) 0 ≡ bit false
    never true = refl
    never false = refl

    alike : (b : Bool) → (s.number == n) ≡ b
        → cond (hears_there range giver place s) (bit b) 0
        ≡ bit (b && hears_from range giver place n s.place)
    alike true e =
        ap (λ k. bit (not (k == giver) && is_within range place s.place))
        (eqb-true s.number n e)
    alike false e = never (hears_there range giver place s)

-- who hears, counted in any order, are in the order of numbers those that hear
pub gathered : (range giver : ℕ) (place : Position) (sts : List StationState) (xs : List Standing)
    (found sorted : List ℕ) → AreStandingsOf sts xs
    → ((n : ℕ) → count_by (λ m. m == n) found ≡ count_at (hears_from range giver place n) n xs)
    → IsPermutation found sorted → IsNonDecreasingBy (λ x. x) sorted
    → sorted ≡ hearers range sts giver place
gathered range giver place sts xs found sorted stand as_often same up =
    same_rising sorted (hearers range sts giver place) (rises_sorted sorted up)
    (rises_numbers (hears range giver place) 0 sts) (λ n.
    sum_by-IsPermutation (λ m. bit (m == n)) found sorted same
    ∙ as_often n
    ∙ stand (hears_from range giver place n) n
    ∙ sym (count_hearers range giver place sts n))

-- what is at an index of the first ones
get_in_first : {X : Type 0} (i n : ℕ) (xs : List X) → i < n → slice_get (take n xs) i
    ≡ slice_get xs i
get_in_first {X} i n xs lt = by (slice_get_cases xs i).1
  where
    by : ((x : X) × (i < length xs) × (slice_get xs i ≡ Some x) × (get_or xs i x ≡ x))
        ⊎ ((length xs ≤ i) × (slice_get xs i ≡ None)) → slice_get (take n xs) i ≡ slice_get xs i
    by (inl (x, within, some, is)) =
        slice_get_read (take n xs) (length (take n xs)) i x refl
        (omega (arith, length-take n xs, within, lt)) (sym (get_or-take n xs i x lt ∙ is))
        ∙ sym some
    by (inr (past, none)) =
        slice_get_past (take n xs) i (omega (arith, length-take n xs, past)) ∙ sym none

-- one station more stands where it is
pub stand_more : (sts : List StationState) (xs : List Standing) (n : ℕ) (st : StationState)
    (place : Position) → n < length sts → slice_get sts n ≡ Some st → place ≡ st.vector.place
    → AreStandingsOf (take n sts) xs
    → AreStandingsOf (take (n + 1) sts) (xs ++ record { place = place; number = n } ∷ [])
stand_more sts xs n st place lt some at stand kind number =
    let s : Standing = record { place = place; number = n } in
    let pushed = sum_by_push (λ (t : Standing). bit (t.number == number && kind t.place)) xs s in
    let before = stand kind number in
    let more = by (cases_order number n) in
    omega (arith, pushed, before, more)
  where
    apart : n ≢ number → bit (n == number && kind place) ≡ bit false
    apart differ = ap (λ (b : Bool). bit (b && kind place)) (ne_eqb n number differ)

    by : (number ≡ n) ⊎ ((number < n) ⊎ (n < number))
        → times_at kind (slice_get (take n sts) number) + bit (n == number && kind place)
        ≡ times_at kind (slice_get (take (n + 1) sts) number)
    by (inl is) =
        let none : times_at kind (slice_get (take n sts) number) ≡ bit false =
        ap (times_at kind)
        (slice_get_past (take n sts) number (omega (arith, length-take n sts, is))) in
        let here : bit (n == number && kind place) ≡ bit (kind place) =
        ap (λ (b : Bool). bit (b && kind place)) (eq-eqb n number (sym is)) in
        let there : times_at kind (slice_get (take (n + 1) sts) number) ≡ bit (kind place) =
        ap (times_at kind) (get_in_first number (n + 1) sts (omega (arith, is))
        ∙ ap (slice_get sts) is ∙ some) ∙ ap (λ p. bit (kind p)) (sym at) in
        omega (arith, none, here, there)
    by (inr (inl less)) =
        let here = apart (λ e. let e' : n ≡ number = e in absurd (omega arith)) in
        let first = ap (times_at kind) (get_in_first number n sts less) in
        let second = ap (times_at kind) (get_in_first number (n + 1) sts (omega (arith, less))) in
        omega (arith, here, first, second)
    by (inr (inr more)) =
        let here = apart (λ e. let e' : n ≡ number = e in absurd (omega arith)) in
        let none : (k : ℕ) → k ≤ n + 1
        → times_at kind (slice_get (take k sts) number) ≡ bit false =
        λ k le. ap (times_at kind)
        (slice_get_past (take k sts) number (omega (arith, length-take k sts, more, le))) in
        let first = none n (omega arith) in
        let second = none (n + 1) (omega arith) in
        omega (arith, here, first, second)

-- their order is of no account
pub stand_moved : (sts : List StationState) (xs ys : List Standing) → IsPermutation xs ys
    → AreStandingsOf sts xs → AreStandingsOf sts ys
stand_moved sts xs ys moved stand kind number =
    sum_by-IsPermutation (λ (t : Standing). bit (t.number == number && kind t.place)) xs ys moved
    ∙ stand kind number

-- whatever the place is, it stands there at most once
at_most_once : (kind : Position → Bool) (o : Option StationState) → times_at kind o ≤ 1
at_most_once kind None = omega arith
at_most_once kind (Some st) = by (kind st.vector.place)
  where
    by : (b : Bool) → bit b ≤ 1
    by true = omega arith
    by false = omega arith

-- at most as often at places of a kind as at any place
fewer : (a b : Bool) → bit (a && b) ≤ bit (a && true)
fewer true true = omega arith
fewer true false = omega arith
fewer false b = omega arith

-- the number that was looked for stands where it was found
pub found_at : (xs : List Standing) (number : ℕ) (i : ℕ)
    → position (λ (s : Standing). s.number == number) xs ≡ Some i → (d : Standing)
    → (get_or xs i d).number ≡ number
found_at xs number i found d =
    eqb-true (get_or xs i d).number number
    (position-Some (λ (s : Standing). s.number == number) xs i d found).1

pub found_anywhere : (xs : List Standing) (number : ℕ) (o : Option ℕ)
    → position (λ (s : Standing). s.number == number) xs ≡ o
    → IfSome o (HoldsAt (λ (s : Standing). s.number ≡ number) xs)
found_anywhere xs number None found = tt
found_anywhere xs number (Some i) found = found_at xs number i found

-- a station that has moved stands at its new place instead
pub stand_new : (old new : List StationState) (xs : List Standing) (number : ℕ) (place : Position)
    (i to : ℕ) → i < length xs → ((d : Standing) → (get_or xs i d).number ≡ number)
    → AreStandingsOf old xs → AreSameBut number old new
    → IfSome (slice_get new number) (λ st. st.vector.place ≡ place)
    → AreStandingsOf new (insert (remove xs i) to (record { place = place; number = number }))
stand_new old new xs number place i to within found stand same at kind n =
    let y : Standing = record { place = place; number = number } in
    let x = get_or xs i y in
    let any : Standing → ℕ = λ s. bit (s.number == number && true) in
    let all = sum_by-remove any xs i y within in
    let one : any x ≡ 1 =
    ap (λ (b : Bool). bit (b && true)) (eq-eqb x.number number (found y)) in
    let f : Standing → ℕ = λ s. bit (s.number == n && kind s.place) in
    let less = sum_by-remove f xs i y within in
    let more = sum_by-insert f (remove xs i) to y in
    by (cases_eq n number) all one less more
    (at_most_once (λ p. true) (slice_get old number)) (stand (λ p. true) number)
    (found y)
    (sum_by-le-sum_by (λ (s : Standing). bit (s.number == number && kind s.place)) any (remove xs i)
    (λ s. fewer (s.number == number) (kind s.place)))
  where
    y : Standing
    y = record { place = place; number = number }

    any : Standing → ℕ
    any s = bit (s.number == number && true)

    f : Standing → ℕ
    f s = bit (s.number == n && kind s.place)

    there : 1 ≤ times_at (λ p. true) (slice_get old number)
        → times_at kind (slice_get new number) ≡ bit (kind place)
    there least = by_place (slice_get_cases new number).1
      where
        by_place : ((st : StationState) × (number < length new)
            × (slice_get new number ≡ Some st) × (get_or new number st ≡ st))
            ⊎ ((length new ≤ number) × (slice_get new number ≡ None))
            → times_at kind (slice_get new number) ≡ bit (kind place)
        by_place (inl (st, within, some, is)) =
            ap (times_at kind) some
            ∙ ap (λ p. bit (kind p)) (subst (λ o. IfSome o (λ s. s.vector.place ≡ place)) some at)
        by_place (inr (past, none)) =
            let gone : times_at (λ p. true) (slice_get old number) ≡ 0 =
            ap (times_at (λ p. true))
            (slice_get_past old number (omega (arith, past, same.0))) in
            absurd (omega (arith, gone, least))

    by : (n ≡ number) ⊎ (n ≢ number)
        → sum_by any (remove xs i) + any (get_or xs i y) ≡ sum_by any xs
        → any (get_or xs i y) ≡ 1
        → sum_by f (remove xs i) + f (get_or xs i y) ≡ sum_by f xs
        → sum_by f (insert (remove xs i) to y) ≡ sum_by f (remove xs i) + f y
        → times_at (λ p. true) (slice_get old number) ≤ 1
        → sum_by any xs ≡ times_at (λ p. true) (slice_get old number)
        → (get_or xs i y).number ≡ number
        → sum_by (λ (s : Standing). bit (s.number == number && kind s.place)) (remove xs i)
        ≤ sum_by any (remove xs i)
        → sum_by f (insert (remove xs i) to y) ≡ times_at kind (slice_get new n)
    by (inl is) all one less more most told at' few =
        let seen = there (omega (arith, all, one, told)) in
        let own : f y ≡ bit (kind place) =
        ap (λ (b : Bool). bit (b && kind place)) (eq-eqb number n (sym is)) in
        let few' : sum_by f (remove xs i) ≤ sum_by any (remove xs i) =
        subst (λ k. sum_by (λ (s : Standing). bit (s.number == k && kind s.place)) (remove xs i)
        ≤ sum_by any (remove xs i)) (sym is) few in
        let seen' : times_at kind (slice_get new n) ≡ bit (kind place) =
        ap (λ k. times_at kind (slice_get new k)) is ∙ seen in
        omega (arith, all, one, more, most, told, few', own, seen')
    by (inr differ) all one less more most told at' few =
        let none : f y ≡ 0 =
        ap (λ (b : Bool). bit (b && kind place)) (ne_eqb number n (λ e. differ (sym e))) in
        let none' : f (get_or xs i y) ≡ 0 =
        ap (λ (b : Bool). bit (b && kind (get_or xs i y).place))
        (ne_eqb (get_or xs i y).number n (λ e. differ (sym e ∙ at'))) in
        let before = stand kind n in
        let after : times_at kind (slice_get new n) ≡ times_at kind (slice_get old n) =
        ap (times_at kind) (same.1 n differ) in
        omega (arith, less, more, none, none', before, after)

-- no station of this number stands in them
pub stand_same : (old new : List StationState) (xs : List Standing) (number : ℕ)
    → position (λ (s : Standing). s.number == number) xs ≡ None
    → AreStandingsOf old xs → AreSameBut number old new → AreStandingsOf new xs
stand_same old new xs number none stand same kind n = stand kind n ∙ by (cases_eq n number)
  where
    past : (b : Bool) (i : ℕ) → cond b (Some i) None ≡ None → b ≡ false
    past true i e = absurd (true≢false (ap is_some e))
    past false i e = refl

    far : (k : ℕ) (d : Standing) → k < length xs → ((get_or xs k d).number == number) ≡ false
    far k d lt =
        let le : length xs ≤ position_or_len (λ (s : Standing). s.number == number) xs =
        ltb-false _ _ (past _ _ none) in
        fails_before_first (λ (s : Standing). s.number == number) xs k d (omega (arith, le, lt))

    zero_of : (ys : List Standing)
        → AllByRecursion (λ (s : Standing). (s.number == number) ≡ false) ys
        → count_at (λ p. true) number ys ≡ 0
    zero_of [] h = refl
    zero_of (y ∷ ys) h =
        let here = count_more (λ (t : Standing). t.number == number && true) y ys in
        let no : bit (y.number == number && true) ≡ bit false =
        ap (λ (b : Bool). bit (b && true)) h.0 in
        let rest = zero_of ys h.1 in omega (arith, here, no, rest)

    gone : times_at (λ p. true) (slice_get old number) ≡ 0
    gone =
        sym (stand (λ p. true) number)
        ∙ zero_of xs (recursion_from_All (λ (s : Standing). (s.number == number) ≡ false) xs far)

    outside : (o : Option StationState) → times_at (λ p. true) o ≡ 0 → o ≡ None
    outside None e = refl
    outside (Some st) e = absurd (omega (arith, e))

    by : (n ≡ number) ⊎ (n ≢ number)
        → times_at kind (slice_get old n) ≡ times_at kind (slice_get new n)
    by (inl is) =
        let none' : slice_get old number ≡ None = outside (slice_get old number) gone in
        ap (λ k. times_at kind (slice_get old k)) is ∙ ap (times_at kind) none'
        ∙ sym (ap (λ k. times_at kind (slice_get new k)) is ∙ ap (times_at kind) (last none'))
      where
        last : slice_get old number ≡ None → slice_get new number ≡ None
        last none' = by_place (slice_get_cases old number).1
          where
            by_place : ((st : StationState) × (number < length old)
                × (slice_get old number ≡ Some st) × (get_or old number st ≡ st))
                ⊎ ((length old ≤ number) × (slice_get old number ≡ None))
                → slice_get new number ≡ None
            by_place (inl (st, within, some, is')) =
                absurd (true≢false (sym (ap is_some some) ∙ ap is_some none'))
            by_place (inr (le, e)) = slice_get_past new number (omega (arith, le, same.0))
    by (inr differ) = ap (times_at kind) (sym (same.1 n differ))

-- without one of them, the others still stand in their order
rising_without : (key : Standing → ℕ) (xs : List Standing) (i : ℕ) → i < length xs
    → IsNonDecreasingBy key xs → IsNonDecreasingBy key (remove xs i)
rising_without key xs i lt up a b d le within =
    let length-is = length-remove xs i lt in
    by (cases_lt a i) (cases_lt b i) length-is
  where
    by : (a < i) ⊎ (i ≤ a) → (b < i) ⊎ (i ≤ b) → length (remove xs i) + 1 ≡ length xs
        → key (get_or (remove xs i) a d) ≤ key (get_or (remove xs i) b d)
    by (inl la) (inl lb) len =
        rw (get_or-remove_below xs i d a la lt, get_or-remove_below xs i d b lb lt)
        (up a b d le (omega (arith, lb, lt)))
    by (inl la) (inr gb) len =
        rw (get_or-remove_below xs i d a la lt, get_or-remove_above xs i d b gb lt)
        (up a (b + 1) d (omega (arith, le)) (omega (arith, within, len)))
    by (inr ga) (inl lb) len = absurd (omega (arith, ga, lb, le))
    by (inr ga) (inr gb) len =
        rw (get_or-remove_above xs i d a ga lt, get_or-remove_above xs i d b gb lt)
        (up (a + 1) (b + 1) d (omega (arith, le)) (omega (arith, within, len)))

-- with one more, where it belongs, they do too
pub rising_with : (key : Standing → ℕ) (xs : List Standing) (to at : ℕ) (y : Standing)
    → to ≤ length xs → key y ≡ at → IsNonDecreasingBy key xs
    → IsPartitionPoint (λ s. leb (key s) at ≡ true) (λ s. leb (key s) at ≡ false) xs to
    → IsNonDecreasingBy key (insert xs to y)
rising_with key xs to at y le is up point =
    IsNonDecreasingBy-insert key xs to y up le
    (λ k d lt. let a = leb-true _ _ (point.0 k d (omega arith) lt) in omega (arith, a, is))
    (λ k d ge lt. let a = leb-false _ _ (point.1 k d ge lt) in omega (arith, a, is))

-- a place that parts a list parts it without one of its elements too, nearer by one where that
-- stood before it
point_without : (P Q : Standing → Type 0) (xs : List Standing) (i to end : ℕ) → i < length xs
    → IsPartitionPoint P Q xs end → ((i < end) × (to + 1 ≡ end)) ⊎ ((end ≤ i) × (to ≡ end))
    → IsPartitionPoint P Q (remove xs i) to
point_without P Q xs i to end lt point side =
    let less = length-remove xs i lt in (
      λ k d ge below. before side k d below (cases_lt k i),
      λ k d ge within. behind side k d ge (omega (arith, less, within)) (cases_lt k i),
    )
  where
    before : ((i < end) × (to + 1 ≡ end)) ⊎ ((end ≤ i) × (to ≡ end)) → (k : ℕ) (d : Standing)
        → k < to → (k < i) ⊎ (i ≤ k) → P (get_or (remove xs i) k d)
    before (inl (gt, is)) k d below (inl lt') =
        rw (get_or-remove_below xs i d k lt' lt)
        (point.0 k d (omega arith) (omega (arith, below, is)))
    before (inl (gt, is)) k d below (inr ge) =
        rw (get_or-remove_above xs i d k ge lt)
        (point.0 (k + 1) d (omega arith) (omega (arith, below, is)))
    before (inr (le, is)) k d below (inl lt') =
        rw (get_or-remove_below xs i d k lt' lt)
        (point.0 k d (omega arith) (omega (arith, below, is)))
    before (inr (le, is)) k d below (inr ge) = absurd (omega (arith, below, is, le, ge))

    behind : ((i < end) × (to + 1 ≡ end)) ⊎ ((end ≤ i) × (to ≡ end)) → (k : ℕ) (d : Standing)
        → to ≤ k → k + 1 < length xs → (k < i) ⊎ (i ≤ k) → Q (get_or (remove xs i) k d)
    behind (inl (gt, is)) k d ge within (inl lt') = absurd (omega (arith, gt, is, ge, lt'))
    behind (inl (gt, is)) k d ge within (inr ge') =
        rw (get_or-remove_above xs i d k ge' lt)
        (point.1 (k + 1) d (omega (arith, is, ge)) (omega (arith, within)))
    behind (inr (le, is)) k d ge within (inl lt') =
        rw (get_or-remove_below xs i d k lt' lt)
        (point.1 k d (omega (arith, is, ge)) (omega (arith, within)))
    behind (inr (le, is)) k d ge within (inr ge') =
        rw (get_or-remove_above xs i d k ge' lt)
        (point.1 (k + 1) d (omega (arith, is, ge)) (omega (arith, within)))

-- with one of them put elsewhere, they stand in their order: `end` is its place among all of them
pub rising_moved : (key : Standing → ℕ) (xs : List Standing) (i to end at : ℕ) (y : Standing)
    → i < length xs → end ≤ length xs → key y ≡ at → IsNonDecreasingBy key xs
    → IsPartitionPoint (λ s. key s ≤ at) (λ s. at ≤ key s) xs end
    → ((i < end) × (to + 1 ≡ end)) ⊎ ((end ≤ i) × (to ≡ end))
    → IsNonDecreasingBy key (insert (remove xs i) to y)
rising_moved key xs i to end at y within room is up point side =
    let less = length-remove xs i within in
    let parts = point_without (λ s. key s ≤ at) (λ s. at ≤ key s) xs i to end within point side in
    IsNonDecreasingBy-insert key (remove xs i) to y (rising_without key xs i within up)
    (omega (arith, less, within, room, side))
    (λ k d lt. let a = parts.0 k d (omega arith) lt in omega (arith, a, is))
    (λ k d ge lt. let a = parts.1 k d ge lt in omega (arith, a, is))

-- where one stands that comes later, and passes those that come no later
pub to_behind : (key : Standing → ℕ) (xs : List Standing) (from end at : ℕ) → from < end
    → end ≤ length xs → IsNonDecreasingBy key xs → AllWithin (λ s. key s ≤ at) xs from end
    → (end < length xs → HoldsAt (λ s. at ≤ key s) xs end)
    → IsPartitionPoint (λ s. key s ≤ at) (λ s. at ≤ key s) xs end
to_behind key xs from end at gt room up passed stops = (
  λ k d ge below. before k d below (cases_lt k from),
  λ k d ge within. le_trans (stops (omega (arith, ge, within)) d) (up end k d ge within),
)
  where
    before : (k : ℕ) (d : Standing) → k < end → (k < from) ⊎ (from ≤ k)
        → key (get_or xs k d) ≤ at
    before k d below (inl lt) =
        le_trans (up k from d (omega (arith, lt)) (omega (arith, gt, room)))
        (passed from d (omega arith) gt)
    before k d below (inr ge) = passed k d ge below

-- where one stands that comes sooner, and passes those that come no sooner
pub to_before : (key : Standing → ℕ) (xs : List Standing) (from end at : ℕ) → from < length xs
    → end ≤ from → IsNonDecreasingBy key xs → HoldsAt (λ s. at ≤ key s) xs from
    → AllWithin (λ s. at ≤ key s) xs end from
    → (0 < end → HoldsAt (λ s. key s ≤ at) xs (end - 1))
    → IsPartitionPoint (λ s. key s ≤ at) (λ s. at ≤ key s) xs end
to_before key xs from end at within le up here passed stops = (
  λ k d ge below. le_trans
      (up k (end - 1) d (omega (arith, below)) (omega (arith, below, le, within)))
      (stops (omega (arith, below)) d),
  λ k d ge lt. behind k d ge lt (cases_lt k from),
)
  where
    behind : (k : ℕ) (d : Standing) → end ≤ k → k < length xs → (k < from) ⊎ (from ≤ k)
        → at ≤ key (get_or xs k d)
    behind k d ge lt (inl below) = passed k d ge below
    behind k d ge lt (inr past) = le_trans (here d) (up from k d past lt)

-- where none is off, none is with one more that isn't
on : (y : Standing) → unsigned_abs y.place.longitude ≤ 1800000000 → bit (is_off y) ≡ 0
on y small =
    ap (λ (b : Bool). bit (not b)) (le-leb (unsigned_abs y.place.longitude) 1800000000 small)

pub none_off_more : (xs : List Standing) (y : Standing)
    → unsigned_abs y.place.longitude ≤ 1800000000 → count_by is_off xs ≡ 0
    → count_by is_off (xs ++ y ∷ []) ≡ 0
none_off_more xs y small none =
    let pushed = sum_by_push (λ (s : Standing). bit (is_off s)) xs y in
    omega (arith, pushed, none, on y small)

pub none_off_moved : (xs ys : List Standing) → IsPermutation xs ys → count_by is_off xs ≡ 0
    → count_by is_off ys ≡ 0
none_off_moved xs ys moved none =
    sum_by-IsPermutation (λ (s : Standing). bit (is_off s)) xs ys moved ∙ none

pub none_off_with : (xs : List Standing) (to : ℕ) (y : Standing)
    → unsigned_abs y.place.longitude ≤ 1800000000 → count_by is_off xs ≡ 0
    → count_by is_off (insert xs to y) ≡ 0
none_off_with xs to y small none =
    let more = sum_by-insert (λ (s : Standing). bit (is_off s)) xs to y in
    omega (arith, more, none, on y small)

pub none_off_replaced : (xs : List Standing) (i to : ℕ) (y : Standing) → i < length xs
    → unsigned_abs y.place.longitude ≤ 1800000000 → count_by is_off xs ≡ 0
    → count_by is_off (insert (remove xs i) to y) ≡ 0
none_off_replaced xs i to y within small none =
    let less = sum_by-remove (λ (s : Standing). bit (is_off s)) xs i y within in
    none_off_with (remove xs i) to y small (omega (arith, less, none))

-- of a list that is one of two, what is true of both
pub of_either : (P : List Standing → Type 0) (b : Bool) (k l m : List Standing)
    → k ≡ (if b then l else m) → P l → P m → P k
of_either P true k l m e h g = subst P (sym e) h
of_either P false k l m e h g = subst P (sym e) g

-- one station more stands where it stands
pub stand_added : (old new : List StationState) (xs : List Standing) (number : ℕ)
    (place : Position) (to : ℕ) → number ≡ length old → length new ≡ length old + 1
    → ((n : ℕ) → n < length old → slice_get new n ≡ slice_get old n)
    → IfSome (slice_get new number) (λ st. st.vector.place ≡ place)
    → AreStandingsOf old xs
    → AreStandingsOf new (insert xs to (record { place = place; number = number }))
stand_added old new xs number place to last longer same at stand kind n =
    let y : Standing = record { place = place; number = number } in
    let f : Standing → ℕ = λ s. bit (s.number == n && kind s.place) in
    by (cases_eq n number) (sum_by-insert f xs to y) (stand kind n)
  where
    y : Standing
    y = record { place = place; number = number }

    f : Standing → ℕ
    f s = bit (s.number == n && kind s.place)

    there : times_at kind (slice_get new number) ≡ bit (kind place)
    there = by_place (slice_get_cases new number).1
      where
        by_place : ((st : StationState) × (number < length new)
            × (slice_get new number ≡ Some st) × (get_or new number st ≡ st))
            ⊎ ((length new ≤ number) × (slice_get new number ≡ None))
            → times_at kind (slice_get new number) ≡ bit (kind place)
        by_place (inl (st, within, some, is)) =
            ap (times_at kind) some
            ∙ ap (λ p. bit (kind p)) (subst (λ o. IfSome o (λ s. s.vector.place ≡ place)) some at)
        by_place (inr (past, none)) = absurd (omega (arith, past, last, longer))

    before : (n < length old) ⊎ (length old ≤ n) → n ≢ number
        → times_at kind (slice_get new n) ≡ times_at kind (slice_get old n)
    before (inl lt) differ = ap (times_at kind) (same n lt)
    before (inr ge) differ =
        ap (times_at kind) (slice_get_past new n (by_order (cases_lt n (length new))))
        ∙ sym (ap (times_at kind) (slice_get_past old n ge))
      where
        by_order : (n < length new) ⊎ (length new ≤ n) → length new ≤ n
        by_order (inl lt) = absurd (differ (omega (arith, ge, lt, last, longer)))
        by_order (inr le) = le

    by : (n ≡ number) ⊎ (n ≢ number)
        → sum_by f (insert xs to y) ≡ sum_by f xs + f y
        → sum_by f xs ≡ times_at kind (slice_get old n)
        → sum_by f (insert xs to y) ≡ times_at kind (slice_get new n)
    by (inl is) more told =
        let own : f y ≡ bit (kind place) =
        ap (λ (b : Bool). bit (b && kind place)) (eq-eqb number n (sym is)) in
        let none : times_at kind (slice_get old n) ≡ 0 =
        ap (times_at kind) (slice_get_past old n (omega (arith, is, last))) in
        let seen : times_at kind (slice_get new n) ≡ bit (kind place) =
        ap (λ k. times_at kind (slice_get new k)) is ∙ there in
        omega (arith, more, told, own, none, seen)
    by (inr differ) more told =
        let none : f y ≡ 0 =
        ap (λ (b : Bool). bit (b && kind place)) (ne_eqb number n (λ e. differ (sym e))) in
        let after = before (cases_lt n (length old)) differ in
        omega (arith, more, told, none, after)

-- a station that stands where it stood
pub stand_still : (old new : List StationState) (xs : List Standing) (number : ℕ)
    → option_map (λ (st : StationState). st.vector.place) (slice_get old number)
    ≡ option_map (λ (st : StationState). st.vector.place) (slice_get new number)
    → AreStandingsOf old xs → AreSameBut number old new → AreStandingsOf new xs
stand_still old new xs number still stand same kind n = stand kind n ∙ by (cases_eq n number)
  where
    placed : Option Position → ℕ
    placed None = 0
    placed (Some p) = bit (kind p)

    place_alone : (o : Option StationState)
        → times_at kind o ≡ placed (option_map (λ (st : StationState). st.vector.place) o)
    place_alone None = refl
    place_alone (Some st) = refl

    by : (n ≡ number) ⊎ (n ≢ number)
        → times_at kind (slice_get old n) ≡ times_at kind (slice_get new n)
    by (inl is) =
        ap (λ k. times_at kind (slice_get old k)) is ∙ place_alone (slice_get old number)
        ∙ ap placed still ∙ sym (place_alone (slice_get new number))
        ∙ sym (ap (λ k. times_at kind (slice_get new k)) is)
    by (inr differ) = ap (times_at kind) (sym (same.1 n differ))

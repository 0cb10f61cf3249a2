-- What waits, once one more was put or the first was taken.
use Rattle.std.proofs.Common.{◌≡◌, ℕ, ◌+◌, ◌<◌, ◌≤◌, List, [], ◌∷◌, ◌++◌, map, refl, sym, ap}
use Rattle.std.proofs.Common.{◌∙◌, arith, Bool, true, false, not, cond, ◌&&◌, subst, tests}
use Rattle.std.specs.Prelude.{sum_by, count_by, ◌==◌, All, nat_lt}
use Rattle.std.specs.List.{AllByRecursion}
use Rattle.std.specs.List.Sorted.{IsPermutation}
use Rattle.std.specs.BinaryHeap.{IsUpperBound, lt_by_cmp}
use Rattle.std.proofs.lemmas.Bool.{eqb-true, eq-eqb, and_parts, and_from, lt-ltb}
use Rattle.std.proofs.lemmas.Bool.{ltb-true}
use Rattle.std.proofs.lemmas.List.{map-append}
use Rattle.std.proofs.lemmas.List.Elements.{recursion_from_All}
use Rattle.std.proofs.lemmas.List.Sums.{sum_by-cons, sum_by_push, sum_by-append}
use Rattle.std.proofs.lemmas.List.Sorted.{sum_by-IsPermutation}
use Rattle.std.proofs.Props.{props}
use Rattle.sim_settings.specs.declared.traffic.Traffic.{Traffic as Flow}
use Rattle.sim_queue.specs.declared.scheduled.AirAction.{AirAction}
use Rattle.sim_queue.specs.declared.scheduled.AirAction.TheVariants as owns
use Rattle.sim_queue.specs.declared.scheduled.Scheduled.{Scheduled}
use Rattle.sim_queue.specs.Waiting.{waiting_cmp}
use Rattle.sim_air_model.specs.Timetable.{schedule, schedule_all, NoneWaits}
use Rattle.sim_queue.specs.Waits.{Waits, PlacesRise, pending_of}
use Rattle.sim_air_model.specs.Timetable.{at, Pending}
use Rattle.sim_air_model.proofs.Putting.{schedule_all_push, schedule_all_first}
use Rattle.sim_air_model.proofs.Putting.{schedule_all_above}

-- ---- what is the same

-- traffic with the same numbers is the same
abbrev flow_of : (period port info class octets : ℕ) → 1 ≤ period → octets ≤ 1394 → Flow
flow_of period port info class octets often fits =
    record {
      period = period;
      port = port;
      info = info;
      class = class;
      octets = octets;
      often = often;
      fits = fits;
    }

often_prop : (n : ℕ) → IsProp (1 ≤ n)
often_prop n = hlevel props

fits_prop : (n : ℕ) → IsProp (n ≤ 1394)
fits_prop n = hlevel props

same_flow : (x y : Flow) → x.period ≡ y.period → x.port ≡ y.port → x.info ≡ y.info
    → x.class ≡ y.class → x.octets ≡ y.octets → x ≡ y
same_flow x y period port info class octets =
    subst (λ n. (a : 1 ≤ n) → x ≡ flow_of n x.port x.info x.class x.octets a x.fits) period
    (λ a. ap (λ z. flow_of x.period x.port x.info x.class x.octets z x.fits)
    (often_prop x.period x.often a)) y.often
    ∙ ap (λ n. flow_of y.period n x.info x.class x.octets y.often x.fits) port
    ∙ ap (λ n. flow_of y.period y.port n x.class x.octets y.often x.fits) info
    ∙ ap (λ n. flow_of y.period y.port y.info n x.octets y.often x.fits) class
    ∙ subst (λ n. (b : n ≤ 1394)
    → flow_of y.period y.port y.info y.class x.octets y.often x.fits
    ≡ flow_of y.period y.port y.info y.class n y.often b) octets
    (λ b. ap (λ z. flow_of y.period y.port y.info y.class x.octets y.often z)
    (fits_prop x.octets x.fits b)) y.fits

abbrev are_same : Flow → Flow → Bool
are_same x y =
    (x.period == y.period) && ((x.port == y.port) && ((x.info == y.info)
    && ((x.class == y.class) && (x.octets == y.octets))))

are_same_is : (x y : Flow) → are_same x y ≡ true → x ≡ y
are_same_is x y h =
    let a = and_parts (x.period == y.period) _ h in
    let b = and_parts (x.port == y.port) _ a.1 in
    let c = and_parts (x.info == y.info) _ b.1 in
    let d = and_parts (x.class == y.class) _ c.1 in
    same_flow x y (eqb-true _ _ a.0) (eqb-true _ _ b.0) (eqb-true _ _ c.0) (eqb-true _ _ d.0)
    (eqb-true _ _ d.1)

are_same_self : (x : Flow) → are_same x x ≡ true
are_same_self x =
    and_from _ _ (eq-eqb x.period x.period refl) (and_from _ _ (eq-eqb x.port x.port refl)
    (and_from _ _ (eq-eqb x.info x.info refl) (and_from _ _ (eq-eqb x.class x.class refl)
    (eq-eqb x.octets x.octets refl))))

abbrev same_own : AirAction → AirAction → Bool
same_own (owns.Tick a) (owns.Tick b) = a == b
same_own (owns.Deliver a) (owns.Deliver b) = a == b
same_own (owns.Send n x) (owns.Send m y) = (n == m) && are_same x y
same_own a b = false

same_own_is : (a b : AirAction) → same_own a b ≡ true → a ≡ b
same_own_is (owns.Tick a) (owns.Tick b) h = ap owns.Tick (eqb-true a b h)
same_own_is (owns.Tick a) (owns.Deliver b) h = cc
same_own_is (owns.Tick a) (owns.Send n b) h = cc
same_own_is (owns.Deliver a) (owns.Tick b) h = cc
same_own_is (owns.Deliver a) (owns.Deliver b) h = ap owns.Deliver (eqb-true a b h)
same_own_is (owns.Deliver a) (owns.Send n b) h = cc
same_own_is (owns.Send n a) (owns.Tick b) h = cc
same_own_is (owns.Send n a) (owns.Deliver b) h = cc
same_own_is (owns.Send n a) (owns.Send m b) h =
    let both = and_parts (n == m) _ h in
    ap (λ k. owns.Send k a) (eqb-true n m both.0) ∙ ap (owns.Send m) (are_same_is a b both.1)

same_own_self : (a : AirAction) → same_own a a ≡ true
same_own_self (owns.Tick a) = eq-eqb a a refl
same_own_self (owns.Deliver a) = eq-eqb a a refl
same_own_self (owns.Send n a) =
    and_from _ _ (eq-eqb n n refl) (are_same_self a)

abbrev is_same : Scheduled → Scheduled → Bool
is_same w v =
    (w.moment == v.moment) && ((w.place == v.place)
    && ((w.station == v.station) && same_own w.own v.own))

is_same_self : (w : Scheduled) → is_same w w ≡ true
is_same_self w =
    and_from _ _ (eq-eqb w.moment w.moment refl) (and_from _ _ (eq-eqb w.place w.place refl)
    (and_from _ _ (eq-eqb w.station w.station refl) (same_own_self w.own)))

abbrev make : ℕ → ℕ → ℕ → AirAction → Scheduled
make moment place station own =
    record { moment = moment; place = place; station = station; own = own }

is_same_is : (w v : Scheduled) → is_same w v ≡ true → w ≡ v
is_same_is w v h =
    let a = and_parts (w.moment == v.moment) _ h in
    let b = and_parts (w.place == v.place) _ a.1 in
    let c = and_parts (w.station == v.station) _ b.1 in
    let m : w.moment ≡ v.moment = eqb-true _ _ a.0 in
    let p : w.place ≡ v.place = eqb-true _ _ b.0 in
    let s : w.station ≡ v.station = eqb-true _ _ c.0 in
    let o : w.own ≡ v.own = same_own_is _ _ c.1 in
    ap (λ n. make n w.place w.station w.own) m ∙ ap (λ n. make v.moment n w.station w.own) p
    ∙ ap (λ n. make v.moment v.place n w.own) s ∙ ap (make v.moment v.place v.station) o

-- ---- what is true of all

abbrev AllTrue : (Scheduled → Bool) → List Scheduled → Type 0
AllTrue p xs = AllByRecursion (λ x. p x ≡ true) xs

abbrev fails : (Scheduled → Bool) → Scheduled → ℕ
fails p w = cond (p w) 0 1

none_fails : (p : Scheduled → Bool) (xs : List Scheduled) → AllTrue p xs → sum_by (fails p) xs ≡ 0
none_fails p [] h = refl
none_fails p (x ∷ xs) h =
    let more = sum_by-cons (fails p) x xs in
    let none : fails p x ≡ 0 = ap (λ (b : Bool). cond b 0 1) h.0 in
    let rest = none_fails p xs h.1 in omega (arith, more, none, rest)

all_pass : (p : Scheduled → Bool) (xs : List Scheduled) → sum_by (fails p) xs ≡ 0 → AllTrue p xs
all_pass p [] h = tt
all_pass p (x ∷ xs) h =
    by (λ none. all_pass p xs none) (p x) refl
  where
    by : (sum_by (fails p) xs ≡ 0 → AllTrue p xs) → (b : Bool) → p x ≡ b → AllTrue p (x ∷ xs)
    by rest true is =
        let more = sum_by-cons (fails p) x xs in
        (is, rest (omega (arith, more, h)))
    by rest false is =
        let more = sum_by-cons (fails p) x xs in
        let one : fails p x ≡ 1 = ap (λ (b : Bool). cond b 0 1) is in
        absurd (omega (arith, more, h, one))

-- two lists with the same elements
abbrev Same : List Scheduled → List Scheduled → Type 0
Same xs ys = (f : Scheduled → ℕ) → sum_by f xs ≡ sum_by f ys

all_same : (p : Scheduled → Bool) (xs ys : List Scheduled) → Same xs ys → AllTrue p ys
    → AllTrue p xs
all_same p xs ys same h = all_pass p xs (same (fails p) ∙ none_fails p ys h)

weaker : (P Q : Scheduled → Type 0) → ((w : Scheduled) → P w → Q w) → (xs : List Scheduled)
    → AllByRecursion P xs → AllByRecursion Q xs
weaker P Q imp [] h = tt
weaker P Q imp (x ∷ xs) h = (imp x h.0, weaker P Q imp xs h.1)

both : (P Q R : Scheduled → Type 0) → ((w : Scheduled) → P w → Q w → R w) → (xs : List Scheduled)
    → AllByRecursion P xs → AllByRecursion Q xs → AllByRecursion R xs
both P Q R imp [] h g = tt
both P Q R imp (x ∷ xs) h g = (imp x h.0 g.0, both P Q R imp xs h.1 g.1)

all_push : (P : Scheduled → Type 0) (xs : List Scheduled) (x : Scheduled) → AllByRecursion P xs
    → P x
    → AllByRecursion P (xs ++ x ∷ [])
all_push P [] x h p = (p, tt)
all_push P (y ∷ xs) x h p = (h.0, all_push P xs x h.1 p)

all_front : (P : Scheduled → Type 0) (us vs : List Scheduled) → AllByRecursion P (us ++ vs)
    → AllByRecursion P us
all_front P [] vs h = tt
all_front P (a ∷ us) vs h = (h.0, all_front P us vs h.1)

all_back : (P : Scheduled → Type 0) (us vs : List Scheduled) → AllByRecursion P (us ++ vs)
    → AllByRecursion P vs
all_back P [] vs h = h
all_back P (a ∷ us) vs h = all_back P us vs h.1

all_without : (P : Scheduled → Type 0) (us : List Scheduled) (w : Scheduled) (vs : List Scheduled)
    → AllByRecursion P (us ++ w ∷ vs) → AllByRecursion P (us ++ vs)
all_without P [] w vs h = h.1
all_without P (a ∷ us) w vs h = (h.0, all_without P us w vs h.1)

all_put : (P : Pending → Type 0) (xs : List Scheduled) → AllByRecursion (λ w. P (pending_of w)) xs
    → AllByRecursion P (map pending_of xs)
all_put P [] h = tt
all_put P (x ∷ xs) h = (h.0, all_put P xs h.1)

-- ---- places

rise_push : (xs : List Scheduled) (x : Scheduled) → PlacesRise xs
    → AllByRecursion (λ w. w.place < x.place) xs → PlacesRise (xs ++ x ∷ [])
rise_push [] x h all = (tt, tt)
rise_push (y ∷ xs) x h all =
    (all_push (λ v. y.place < v.place) xs x h.0 all.0, rise_push xs x h.1 all.1)

rise_without : (us : List Scheduled) (w : Scheduled) (vs : List Scheduled)
    → PlacesRise (us ++ w ∷ vs)
    → PlacesRise (us ++ vs)
rise_without [] w vs h = h.1
rise_without (a ∷ us) w vs h =
    (all_without (λ v. a.place < v.place) us w vs h.0, rise_without us w vs h.1)

rise_before : (us : List Scheduled) (w : Scheduled) (vs : List Scheduled)
    → PlacesRise (us ++ w ∷ vs)
    → AllByRecursion (λ a. a.place < w.place) us
rise_before [] w vs h = tt
rise_before (a ∷ us) w vs h =
    (before (all_back (λ v. a.place < v.place) us (w ∷ vs) h.0), rise_before us w vs h.1)
  where
    before : AllByRecursion (λ v. a.place < v.place) (w ∷ vs) → a.place < w.place
    before g = g.0

-- 1 where it is the same
abbrev one_same : Scheduled → Scheduled → ℕ
one_same w v = cond (is_same w v) 1 0

-- where it stands in the list
find : (w : Scheduled) (xs : List Scheduled) → 0 < count_by (is_same w) xs
    → (us : List Scheduled) × (vs : List Scheduled) × (xs ≡ us ++ w ∷ vs)
find w [] h = absurd (omega arith)
find w (x ∷ xs) h = by (λ lt. find w xs lt) (is_same w x) refl
  where
    by : (0 < count_by (is_same w) xs
        → (us : List Scheduled) × (vs : List Scheduled) × (xs ≡ us ++ w ∷ vs))
        → (b : Bool) → is_same w x ≡ b
        → (us : List Scheduled) × (vs : List Scheduled) × (x ∷ xs ≡ us ++ w ∷ vs)
    by more true is = ([], xs, ap (λ (v : Scheduled). v ∷ xs) (sym (is_same_is w x is)))
    by on false is =
        let more = sum_by-cons (one_same w) x xs in
        let none : one_same w x ≡ 0 = ap (λ (b : Bool). cond b 1 0) is in
        let rest = on (omega (arith, more, h, none)) in
        (x ∷ rest.0, rest.1, ap (λ (l : List Scheduled). x ∷ l) rest.2)

-- ---- the order

-- w comes before y, or they are of one moment and place
abbrev comes_first : Scheduled → Scheduled → Bool
comes_first w y = not (lt_by_cmp waiting_cmp w y)

first_no_later : (w y : Scheduled) → comes_first w y ≡ true → w.moment ≤ y.moment
first_no_later w y h = grind (arith, tests)

first_of_later : (w y : Scheduled) → comes_first w y ≡ true → y.place < w.place
    → w.moment < y.moment
first_of_later w y h lt = grind (arith, tests)

first_self : (w : Scheduled) → comes_first w w ≡ true
first_self w = grind (arith, tests)

bounded : (w : Scheduled) (xs : List Scheduled) → IsUpperBound waiting_cmp w xs
    → AllTrue (comes_first w) xs
bounded w [] h = tt
bounded w (x ∷ xs) h = (ap not h.0, bounded w xs h.1)

-- ---- what waits

-- one more was put
pub waits_put : (heap new : List Scheduled) (count : ℕ) (waiting : List Pending) (x : Scheduled)
    → IsPermutation (x ∷ heap) new → x.place ≡ count → Waits heap count waiting
    → Waits new (count + 1) (schedule (pending_of x) waiting)
waits_put heap new count waiting x moves place h =
    record {
      own = h.own ++ x ∷ [];
      same = λ f.
          let a = sum_by-IsPermutation f (x ∷ heap) new moves in
          let b = sum_by-cons f x heap in
          let c = sum_by_push f h.own x in
          let d = h.same f in omega (arith, a, b, c, d);
      rise = rise_push h.own x h.rise
          (weaker (λ w. w.place < count) (λ w. w.place < x.place)
          (λ w lt. omega (arith, lt, place)) h.own h.below);
      below = all_push (λ w. w.place < count + 1) h.own x
          (weaker (λ w. w.place < count) (λ w. w.place < count + 1)
          (λ w lt. omega (arith, lt)) h.own h.below) (omega (arith, place));
      is = ap (schedule (pending_of x)) h.is
          ∙ sym (schedule_all_push (map pending_of h.own) (pending_of x) [])
          ∙ ap (λ (l : List Pending). schedule_all l []) (sym (map-append pending_of h.own (x ∷ [])));
    }

-- the first is taken
pub waits_own : (w : Scheduled) (heap new : List Scheduled) (count : ℕ) (waiting : List Pending)
    → IsPermutation heap (w ∷ new) → IsUpperBound waiting_cmp w new → Waits heap count waiting
    → (rest : List Pending) × (waiting ≡ pending_of w ∷ rest) × Waits new count rest
waits_own w heap new count waiting moves first h =
    let sums : Same h.own (w ∷ new) = λ f. h.same f
    ∙ sym (sum_by-IsPermutation f heap (w ∷ new) moves) in
    let one : one_same w w ≡ 1 =
    ap (λ (b : Bool). cond b 1 0) (is_same_self w) in
    let here = sum_by-cons (one_same w) w new in
    let there = sums (one_same w) in
    let at' = find w h.own (omega (arith, one, here, there)) in
    let us = at'.0 in
    let vs = at'.1 in
    let all : AllTrue (comes_first w) (us ++ w ∷ vs) =
    subst (AllTrue (comes_first w)) at'.2
    (all_same (comes_first w) h.own (w ∷ new) sums (first_self w, bounded w new first)) in
    let rise : PlacesRise (us ++ w ∷ vs) = subst PlacesRise at'.2 h.rise in
    let above : AllByRecursion (λ q. w.moment < at q) (map pending_of us) =
    all_put (λ q. w.moment < at q) us
    (both (λ y. comes_first w y ≡ true) (λ y. y.place < w.place) (λ y. w.moment < y.moment)
    (λ y. first_of_later w y) us
    (all_front (λ y. comes_first w y ≡ true) us (w ∷ vs) all) (rise_before us w vs rise)) in
    let behind : AllByRecursion (λ q. w.moment ≤ at q) (map pending_of vs) =
    all_put (λ q. w.moment ≤ at q) vs
    (weaker (λ y. comes_first w y ≡ true) (λ y. w.moment ≤ y.moment) (λ y. first_no_later w y) vs
    (tail (λ y. comes_first w y ≡ true) w vs (all_back (λ y. comes_first w y ≡ true) us (w ∷ vs)
    all))) in (
      schedule_all (map pending_of (us ++ vs)) [],
      h.is ∙ ap (λ (l : List Scheduled). schedule_all (map pending_of l) []) at'.2
          ∙ ap (λ (l : List Pending). schedule_all l []) (map-append pending_of us (w ∷ vs))
          ∙ schedule_all_first (map pending_of us) (pending_of w) (map pending_of vs) [] above
          behind tt
          ∙ ap (λ (l : List Pending). pending_of w ∷ schedule_all l [])
          (sym (map-append pending_of us vs)),
      record {
        own = us ++ vs;
        same = λ f.
            let a = sums f in
            let b = sum_by-cons f w new in
            let c : sum_by f h.own ≡ sum_by f (us ++ w ∷ vs) = ap (sum_by f) at'.2 in
            let d = sum_by-append f us (w ∷ vs) in
            let e = sum_by-cons f w vs in
            let g = sum_by-append f us vs in
            omega (arith, a, b, c, d, e, g);
        rise = rise_without us w vs rise;
        below = all_without (λ v. v.place < count) us w vs
            (subst (AllByRecursion (λ v. v.place < count)) at'.2 h.below);
        is = refl;
      },
    )
  where
    tail : (P : Scheduled → Type 0) (x : Scheduled) (xs : List Scheduled)
        → AllByRecursion P (x ∷ xs)
        → AllByRecursion P xs
    tail P x xs g = g.1

-- nothing is taken
pub waits_none : (heap : List Scheduled) (count until : ℕ) (waiting : List Pending)
    → All (λ w. until < w.moment) heap → Waits heap count waiting → NoneWaits until waiting
waits_none heap count until waiting past h =
    let p : Scheduled → Bool = λ w. nat_lt until w.moment in
    let all : AllTrue p h.own = all_same p h.own heap h.same
    (weaker (λ w. until < w.moment) (λ w. p w ≡ true) (λ w lt. lt-ltb until w.moment lt) heap
    (recursion_from_All (λ w. until < w.moment) heap past)) in
    subst (NoneWaits until) (sym h.is)
    (schedule_all_above until (map pending_of h.own) [] tt
    (all_put (λ q. until < at q) h.own
    (weaker (λ w. p w ≡ true) (λ w. until < w.moment) (λ w is. ltb-true until w.moment is) h.own
    all)))

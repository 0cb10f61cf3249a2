-- Who hears a frame stands in one of the rows in range, and is found in that row alone.
use Rattle.std.proofs.Common.{◌≡◌, ℕ, ◌+◌, ◌-◌, ◌*◌, ◌/◌, ◌<◌, ◌≤◌, List, [], ◌∷◌, Bool, true}
use Rattle.std.proofs.Common.{false, not, cond, ◌&&◌, filter, refl, ap, arith, ◌⊎◌, inl, inr}
use Rattle.std.specs.Prelude.{count_by, nat_le, ◌==◌, unsigned_abs}
use Rattle.std.proofs.lemmas.Bool.{leb-true, le-leb, lt-leb, and_from, and_parts, and_left}
use Rattle.std.proofs.lemmas.Bool.{and_right, cases_order}
use Rattle.std.proofs.lemmas.List.Sums.{sum_by-cons}
use Rattle.its_gnvalue.specs.Values.{Position}
use Rattle.sim_queue.specs.declared.places.place_index.Standing.{Standing}
use Rattle.sim_air_model.specs.Range.{is_within}
use Rattle.sim_queue.specs.PlaceIndexes.{northing, easting, row_of, row_key, is_between, is_off}
use Rattle.sim_queue.specs.PlaceIndexes.{Covers}
use Rattle.sim_queue.specs.PlaceIndexes.{hears_from, count_at}
use Rattle.sim_queue.proofs.Bands.{in_rows}

abbrev bit : Bool → ℕ
bit b = cond b 1 0

-- a place in a row south of this one, from which a station hears
abbrev pub hears_south : ℕ → ℕ → ℕ → Position → ℕ → ℕ → Position → Bool
hears_south height range giver place row n p =
    hears_from range giver place n p && nat_le (row_of height p + 1) row

count_more : {X : Type 0} (p : X → Bool) (x : X) (xs : List X)
    → count_by p (x ∷ xs) ≡ bit (p x) + count_by p xs
count_more p x xs = sum_by-cons (λ y. cond (p y) 1 0) x xs

-- of a list in which none is off, the first is not, and none of the others
none_off : (x : Standing) (xs : List Standing) → count_by is_off (x ∷ xs) ≡ 0
    → (unsigned_abs x.place.longitude ≤ 1800000000) × (count_by is_off xs ≡ 0)
none_off x xs none =
    let more = count_more is_off x xs in (
      in_place (nat_le (unsigned_abs x.place.longitude) 1800000000) refl
          (omega (arith, more, none)),
      omega (arith, more, none),
    )
  where
    in_place : (b : Bool) → nat_le (unsigned_abs x.place.longitude) 1800000000 ≡ b
        → bit (not b) ≡ 0 → unsigned_abs x.place.longitude ≤ 1800000000
    in_place true e zero' = leb-true _ _ e
    in_place false e zero' = absurd (omega (arith, zero'))

-- one that hears is met in its own row, and not before
met : (row at west east e : ℕ) → east ≤ 3600000000 → west ≤ e → e ≤ east
    → bit (nat_le (at + 1) row)
    + bit (nat_le (row * 4294967296 + west) (at * 4294967296 + e)
    && nat_le (at * 4294967296 + e) (row * 4294967296 + east))
    ≡ bit (nat_le (at + 1) (row + 1))
met row at west east e small after before = by (cases_order at row)
  where
    by : (at ≡ row) ⊎ ((at < row) ⊎ (row < at))
        → bit (nat_le (at + 1) row)
        + bit (nat_le (row * 4294967296 + west) (at * 4294967296 + e)
        && nat_le (at * 4294967296 + e) (row * 4294967296 + east))
        ≡ bit (nat_le (at + 1) (row + 1))
    by (inl is) =
        let a : nat_le (at + 1) row ≡ false = lt-leb (at + 1) row (omega (arith, is)) in
        let b = and_from _ _
        (le-leb (row * 4294967296 + west) (at * 4294967296 + e) (omega (arith, is, after)))
        (le-leb (at * 4294967296 + e) (row * 4294967296 + east) (omega (arith, is, before))) in
        let d : nat_le (at + 1) (row + 1) ≡ true = le-leb (at + 1) (row + 1) (omega (arith, is)) in
        omega (arith, ap bit a, ap bit b, ap bit d)
    by (inr (inl lt)) =
        let a : nat_le (at + 1) row ≡ true = le-leb (at + 1) row (omega (arith, lt)) in
        let b = and_left _ (nat_le (at * 4294967296 + e) (row * 4294967296 + east))
        (lt-leb (row * 4294967296 + west) (at * 4294967296 + e)
        (omega (arith, lt, before, small))) in
        let d : nat_le (at + 1) (row + 1) ≡ true = le-leb (at + 1) (row + 1) (omega (arith, lt)) in
        omega (arith, ap bit a, ap bit b, ap bit d)
    by (inr (inr gt)) =
        let a : nat_le (at + 1) row ≡ false = lt-leb (at + 1) row (omega (arith, gt)) in
        let b = and_right (nat_le (row * 4294967296 + west) (at * 4294967296 + e)) _
        (lt-leb (at * 4294967296 + e) (row * 4294967296 + east) (omega (arith, gt, small))) in
        let d : nat_le (at + 1) (row + 1) ≡ false = lt-leb (at + 1) (row + 1) (omega (arith, gt)) in
        omega (arith, ap bit a, ap bit b, ap bit d)

-- one that is of a kind counts once where it is met
counted : (own hears before here after : Bool)
    → (hears ≡ true → bit before + bit here ≡ bit after)
    → bit (own && (hears && before)) + cond here (bit (own && hears)) 0
    ≡ bit (own && (hears && after))
counted true true before true after h = h refl
counted true true before false after h = h refl
counted true false before true after h = refl
counted true false before false after h = refl
counted false hears before true after h = refl
counted false hears before false after h = refl

is_within_of : (range giver n : ℕ) (place p : Position) → hears_from range giver place n p ≡ true
    → is_within range place p ≡ true
is_within_of range giver n place p h = (and_parts (not (n == giver)) _ h).1

-- with the stretch of one row more, those of the rows up to it were found
pub row_more : (height range giver : ℕ) (place : Position) (west east row n : ℕ)
    (xs : List Standing) → east ≤ 3600000000 → Covers range place west east
    → count_by is_off xs ≡ 0
    → count_at (hears_south height range giver place row n) n xs
    + count_at (hears_from range giver place n) n
    (filter (is_between height (row * 4294967296 + west) (row * 4294967296 + east)) xs)
    ≡ count_at (hears_south height range giver place (row + 1) n) n xs
unfolding row_key
row_more height range giver place west east row n [] small covers none = refl
row_more height range giver place west east row n (x ∷ xs) small covers none =
    let rest = row_more height range giver place west east row n xs small covers
    (none_off x xs none).1 in
    let a =
    count_more (λ s. s.number == n && hears_south height range giver place row n s.place) x xs in
    let b = kept (is_between height (row * 4294967296 + west) (row * 4294967296 + east) x)
    (filter (is_between height (row * 4294967296 + west) (row * 4294967296 + east)) xs) in
    let d =
    count_more (λ s. s.number == n && hears_south height range giver place (row + 1) n s.place) x
    xs in
    let e = counted (x.number == n) (hears_from range giver place n x.place)
    (nat_le (row_of height x.place + 1) row)
    (is_between height (row * 4294967296 + west) (row * 4294967296 + east) x)
    (nat_le (row_of height x.place + 1) (row + 1)) here in
    omega (arith, rest, a, b, d, e)
  where
    kept : (q : Bool) (ys : List Standing)
        → count_at (hears_from range giver place n) n (cond q (x ∷ ys) ys)
        ≡ cond q (bit (x.number == n && hears_from range giver place n x.place)) 0
        + count_at (hears_from range giver place n) n ys
    kept true ys = count_more (λ s. s.number == n && hears_from range giver place n s.place) x ys
    kept false ys = omega arith

    here : hears_from range giver place n x.place ≡ true
        → bit (nat_le (row_of height x.place + 1) row)
        + bit (is_between height (row * 4294967296 + west) (row * 4294967296 + east) x)
        ≡ bit (nat_le (row_of height x.place + 1) (row + 1))
    here h =
        let inside = covers x.place (none_off x xs none).0
        (is_within_of range giver n place x.place h) in
        met row (row_of height x.place) west east (easting x.place) small inside.0 inside.1

-- before the first row that is in range none is found
pub none_before : (height range giver : ℕ) (place : Position) (row n : ℕ) (xs : List Standing)
    → row ≤ (northing place - 100 * range) / (100 * height + 1)
    → count_at (hears_south height range giver place row n) n xs ≡ 0
none_before height range giver place row n [] le = refl
none_before height range giver place row n (x ∷ xs) le =
    let rest = none_before height range giver place row n xs le in
    let more =
    count_more (λ s. s.number == n && hears_south height range giver place row n s.place) x xs in
    let none = by (x.number == n) (hears_from range giver place n x.place) _ first in
    omega (arith, rest, more, none)
  where
    first : hears_from range giver place n x.place ≡ true
        → nat_le (row_of height x.place + 1) row ≡ false
    first h =
        let rows =
        in_rows height range place x.place (is_within_of range giver n place x.place h) in
        lt-leb _ _ (omega (arith, rows.0, le))

    by : (own hears before : Bool) → (hears ≡ true → before ≡ false)
        → bit (own && (hears && before)) ≡ 0
    by true true before h = ap bit (h refl)
    by true false before h = refl
    by false hears before h = refl

-- past the last row that is in range all were found
pub all_found : (height range giver : ℕ) (place : Position) (row n : ℕ) (xs : List Standing)
    → (northing place + 100 * range) / (100 * height + 1) < row
    → count_at (hears_south height range giver place row n) n xs
    ≡ count_at (hears_from range giver place n) n xs
all_found height range giver place row n [] lt = refl
all_found height range giver place row n (x ∷ xs) lt =
    let rest = all_found height range giver place row n xs lt in
    let more =
    count_more (λ s. s.number == n && hears_south height range giver place row n s.place) x xs in
    let all = count_more (λ s. s.number == n && hears_from range giver place n s.place) x xs in
    let same = by (x.number == n) (hears_from range giver place n x.place) _ last in
    omega (arith, rest, more, all, same)
  where
    last : hears_from range giver place n x.place ≡ true
        → nat_le (row_of height x.place + 1) row ≡ true
    last h =
        let rows =
        in_rows height range place x.place (is_within_of range giver n place x.place h) in
        le-leb _ _ (omega (arith, rows.1, lt))

    by : (own hears before : Bool) → (hears ≡ true → before ≡ true)
        → bit (own && (hears && before)) ≡ bit (own && hears)
    by true true before h = ap bit (h refl)
    by true false before h = refl
    by false hears before h = refl

-- A station at a place that the claims allow is inside of an area if it is so for sure.
use Rattle.std.proofs.Common.{◌≡◌, ◌⊎◌, ℕ, ◌+◌, ◌*◌, ◌≤◌, Bool, true, false, cond, not}
use Rattle.std.proofs.Common.{◌&&◌, Option, Some, None, refl, sym, ap, ◌∙◌, true≢false, arith, inl}
use Rattle.std.proofs.Common.{inr}
use Rattle.std.specs.Prelude.{ℤ, pos, negsuc, ◌+ℤ◌, ◌-ℤ◌, ◌*ℤ◌, ◌≤ℤ◌, ◌<ℤ◌, int_lt}
use Rattle.std.specs.Prelude.{unsigned_abs, nat_le}
use Rattle.std.proofs.lemmas.Bool.{le-leb}
use Rattle.std.proofs.lemmas.Bool.Decides.{nat_tests}
use Rattle.std.proofs.lemmas.Int.{ints}
use Rattle.std.proofs.Math.Nat.{mul-le-mul}
use Rattle.its_gnvalue.specs.Values.{Position}
use Rattle.its_geometry.specs.Table.{sine, cosine}
use Rattle.its_geometry.specs.Offsets.{longitude_scale, wrap_longitude, northward, eastward}
use Rattle.its_geometry.specs.Offsets.{square, along, across}
use Rattle.its_geometry.specs.declared.area.Shape.{Shape}
use Rattle.its_geometry.specs.declared.area.Shape.TheVariants.{Circle, Rectangle, Ellipse}
use Rattle.its_geometry.specs.Area.{GeoArea, shape_holds, area_holds}
use Rattle.its_duties.specs.declared.claims.Claims.{Claims}
use Rattle.its_duties.specs.declared.interval.Interval.{Interval}
use Rattle.its_duties.specs.declared.places.PlaceBox.{PlaceBox}
use Rattle.its_duties.specs.Places.{IsIn, farthest, times, plus, minus, box_around, ends_before_180}
use Rattle.its_duties.specs.Places.{is_on_one_side, is_plain_box, is_plain, IsInBox, IsNear, IsAllowed, north_of}
use Rattle.its_duties.specs.Places.{east_of, tolerated, quotient_up, along_axis, across_axis}
use Rattle.its_duties.specs.Places.{holds_all, offsets_of, is_box_inside, is_place_inside}
use Rattle.its_duties.specs.Places.{is_surely_inside}
use Rattle.its_duties.proofs.Intervals.{quotient_more, product_more, in_times, in_plus, in_minus}
use Rattle.its_duties.proofs.Intervals.{in_ten_thousandths, in_wider, in_farthest}
use Rattle.its_duties.proofs.RelayLaws.{and_first, and_second}

-- ---- differences of longitude, the short way round

-- by how much a difference changes: less, the farther east it is
abbrev IsTurned : ℤ → ℤ → Type 0
IsTurned n turned =
    ((n <ℤ negsuc 1799999999) × (turned ≡ n +ℤ pos 3600000000))
    ⊎ ((pos 1800000000 <ℤ n) × (turned ≡ n -ℤ pos 3600000000))
    ⊎ ((negsuc 1799999999 ≤ℤ n) × (n ≤ℤ pos 1800000000) × (turned ≡ n))

turned_east : (b : Bool) (n : ℤ) → negsuc 1799999999 ≤ℤ n → int_lt (pos 1800000000) n ≡ b
    → IsTurned n (cond b (n -ℤ pos 3600000000) n)
turned_east true n west is = inr (inl (omega (arith, ints), refl))
turned_east false n west is = inr (inr (west, omega (arith, ints), refl))

turned_west : (b : Bool) (n : ℤ) → int_lt n (negsuc 1799999999) ≡ b
    → IsTurned n (cond b (n +ℤ pos 3600000000)
    (cond (int_lt (pos 1800000000) n) (n -ℤ pos 3600000000) n))
turned_west true n is = inl (omega (arith, ints), refl)
turned_west false n is =
    turned_east (int_lt (pos 1800000000) n) n (omega (arith, ints)) refl

is_turned : (n : ℤ) → IsTurned n (wrap_longitude n)
is_turned n = turned_west (int_lt n (negsuc 1799999999)) n refl

-- if both ends change by as much, so does each number between
turned_between : (low n high a b c : ℤ) → IsTurned low a → IsTurned n b → IsTurned high c
    → low ≤ℤ n → n ≤ℤ high → (a +ℤ (high -ℤ low)) ≤ℤ c → (a ≤ℤ b) × (b ≤ℤ c)
turned_between low n high a b c p q r le ge same = (omega (arith, ints), omega (arith, ints))

not_true : (b : Bool) → not b ≡ true → b ≡ false
not_true true e = absurd (true≢false (sym e))
not_true false e = refl

at_least : (a b : ℤ) → int_lt a b ≡ false → b ≤ℤ a
at_least a b e = omega (arith, ints)

-- seen from a centre
from_centre : (a b centre : ℤ) → a ≤ℤ b → (a -ℤ centre) ≤ℤ (b -ℤ centre)
from_centre a b centre h = omega (arith, ints)

same_width : (low high centre a c : ℤ) → (a +ℤ (high -ℤ low)) ≤ℤ c
    → (a +ℤ ((high -ℤ centre) -ℤ (low -ℤ centre))) ≤ℤ c
same_width low high centre a c h = omega (arith, ints)

-- ---- offsets from the centre

in_north : (centre place : Position) (latitudes : Interval) → IsIn latitudes place.latitude
    → IsIn (north_of centre latitudes) (northward centre place)
in_north centre place latitudes h = (
  quotient_more _ _ 10000
      (product_more _ _ 11132 (from_centre latitudes.low place.latitude centre.latitude h.0)),
  quotient_more _ _ 10000
      (product_more _ _ 11132 (from_centre place.latitude latitudes.high centre.latitude h.1)),
)

in_east : (centre place : Position) (longitudes : Interval) → IsIn longitudes place.longitude
    → is_on_one_side centre longitudes ≡ true
    → IsIn (east_of centre longitudes) (eastward centre place)
in_east centre place longitudes h side =
    let scale = longitude_scale centre.latitude in
    let low = longitudes.low -ℤ centre.longitude in
    let n = place.longitude -ℤ centre.longitude in
    let high = longitudes.high -ℤ centre.longitude in
    let ends : (wrap_longitude low +ℤ (longitudes.high -ℤ longitudes.low))
    ≤ℤ (wrap_longitude high) = at_least _ _ (not_true _ side) in
    let turned = turned_between low n high (wrap_longitude low) (wrap_longitude n)
    (wrap_longitude high) (is_turned low) (is_turned n) (is_turned high)
    (from_centre longitudes.low place.longitude centre.longitude h.0)
    (from_centre place.longitude longitudes.high centre.longitude h.1)
    (same_width longitudes.low longitudes.high centre.longitude (wrap_longitude low)
    (wrap_longitude high) ends) in (
      quotient_more _ _ 100000000 (product_more _ _ scale (product_more _ _ 11132 turned.0)),
      quotient_more _ _ 100000000 (product_more _ _ scale (product_more _ _ 11132 turned.1)),
    )

in_tolerated : (mille : ℕ) (s : Interval) (n : ℤ) → IsIn s n → IsIn (tolerated mille s) n
in_tolerated mille s n h =
    in_wider s n (quotient_up (unsigned_abs s.low * mille) 1000)
    (quotient_up (unsigned_abs s.high * mille) 1000) h

in_along : (north east : Interval) (n e : ℤ) (angle : ℕ) → IsIn north n → IsIn east e
    → IsIn (along_axis north east angle) (along n e angle)
in_along north east n e angle h i =
    in_ten_thousandths (plus (times north (cosine angle)) (times east (sine angle)))
    (n *ℤ cosine angle +ℤ e *ℤ sine angle)
    (in_plus (times north (cosine angle)) (times east (sine angle)) (n *ℤ cosine angle)
    (e *ℤ sine angle) (in_times north n (cosine angle) h) (in_times east e (sine angle) i))

in_across : (north east : Interval) (n e : ℤ) (angle : ℕ) → IsIn north n → IsIn east e
    → IsIn (across_axis north east angle) (across n e angle)
in_across north east n e angle h i =
    in_ten_thousandths (minus (times east (cosine angle)) (times north (sine angle)))
    (e *ℤ cosine angle -ℤ n *ℤ sine angle)
    (in_minus (times east (cosine angle)) (times north (sine angle)) (e *ℤ cosine angle)
    (n *ℤ sine angle) (in_times east e (cosine angle) i) (in_times north n (sine angle) h))

-- ---- the shapes

is_at_most : (a b : ℕ) → nat_le a b ≡ true → a ≤ b
is_at_most a b e = grind (arith, nat_tests)

smaller_circle : (m n f g r : ℕ) → m ≤ f → n ≤ g → square f + square g ≤ r
    → square m + square n ≤ r
smaller_circle m n f g r h i le =
    let north : m * m ≤ f * f = mul-le-mul h h in
    let east : n * n ≤ g * g = mul-le-mul i i in
    omega (arith, le)

smaller_ellipse : (m n f g p q r : ℕ) → m ≤ f → n ≤ g → square f * p + square g * q ≤ r
    → square m * p + square n * q ≤ r
smaller_ellipse m n f g p q r h i le =
    let along : m * m * p ≤ f * f * p = mul-le-mul (mul-le-mul h h) (omega arith) in
    let across : n * n * q ≤ g * g * q = mul-le-mul (mul-le-mul i i) (omega arith) in
    omega (arith, le)

-- what holds all numbers of these intervals holds each
holds_each : (shape : Shape) (north east x y : Interval) (n e p q : ℤ) (a b : ℕ) → IsIn north n
    → IsIn east e → IsIn x p → IsIn y q → holds_all shape north east x y a b ≡ true
    → shape_holds shape (square (unsigned_abs n) + square (unsigned_abs e)) (unsigned_abs p)
    (unsigned_abs q) a b ≡ true
holds_each Circle north east x y n e p q a b h i j l all =
    le-leb _ _ (smaller_circle (unsigned_abs n) (unsigned_abs e) (farthest north) (farthest east)
    (square (100 * a)) (in_farthest north n h) (in_farthest east e i) (is_at_most _ _ all))
holds_each Rectangle north east x y n e p q a b h i j l all =
    both (nat_le (unsigned_abs p) (100 * a)) (nat_le (unsigned_abs q) (100 * b))
    (le-leb _ _ (le (in_farthest x p j)
    (is_at_most _ _ (and_first _ (nat_le (farthest y) (100 * b)) all))))
    (le-leb _ _ (le (in_farthest y q l)
    (is_at_most _ _ (and_second (nat_le (farthest x) (100 * a)) _ all))))
  where
    le : {m n r : ℕ} → m ≤ n → n ≤ r → m ≤ r
    le h i = omega (arith, h, i)

    both : (a b : Bool) → a ≡ true → b ≡ true → (a && b) ≡ true
    both a b p q = ap (λ x. x && b) p ∙ q
holds_each Ellipse north east x y n e p q a b h i j l all =
    le-leb _ _ (smaller_ellipse (unsigned_abs p) (unsigned_abs q) (farthest x) (farthest y)
    (square (100 * b)) (square (100 * a)) (square (100 * a) * square (100 * b))
    (in_farthest x p j) (in_farthest y q l) (is_at_most _ _ all))

-- ---- the area

box_holds : (mille : ℕ) (area : GeoArea) (box : PlaceBox) (place : Position) → IsInBox box place
    → is_on_one_side area.centre box.longitudes ≡ true
    → is_box_inside area (offsets_of mille area box) ≡ true → area_holds area place ≡ true
unfolding area_holds
box_holds mille area box place h side inside =
    let o = offsets_of mille area box in
    let n = northward area.centre place in
    let e = eastward area.centre place in
    let north = in_tolerated mille (north_of area.centre box.latitudes) n
    (in_north area.centre place box.latitudes h.0) in
    let east = in_tolerated mille (east_of area.centre box.longitudes) e
    (in_east area.centre place box.longitudes h.1 side) in
    holds_each area.shape o.north o.east (along_axis o.north o.east area.angle)
    (across_axis o.north o.east area.angle) n e (along n e area.angle) (across n e area.angle) area.a
    area.b north east (in_along o.north o.east n e area.angle north east)
    (in_across o.north o.east n e area.angle north east) inside

place_holds : (o : Option Position) (metres mille : ℕ) (area : GeoArea) (place : Position)
    → IsNear metres o place → is_place_inside metres mille area o ≡ true
    → area_holds area place ≡ true
place_holds None metres mille area place near e = absurd (true≢false (sym e))
place_holds (Some claimed) metres mille area place near e =
    let box = box_around metres claimed in
    box_holds mille area box place near
    (and_second (ends_before_180 box) (is_on_one_side area.centre box.longitudes)
    (and_second _ (is_plain_box area.centre box)
    (and_first (is_plain area.centre claimed box) (is_box_inside area (offsets_of mille area box))
    e)))
    (and_second (is_plain area.centre claimed box) (is_box_inside area (offsets_of mille area box)) e)

-- Each place that the claims allow is inside of an area of which they say so for sure.
pub surely_inside : (k : Claims) (area : GeoArea) (place : Position) → IsAllowed k place
    → is_surely_inside k area ≡ true → area_holds area place ≡ true
surely_inside k area place near e =
    place_holds k.place k.accuracy k.tolerance area place near e

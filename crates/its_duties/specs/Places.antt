-- Where a station that stands still may be, and whether it is inside of an area for sure.
use Rattle.std.specs.Prelude.{ℕ, ◌+◌, ◌-◌, ◌*◌, ◌/◌, Bool, false, ◌&&◌, ◌||◌, ◌≤◌}
use Rattle.std.specs.Prelude.{not, nat_lt, nat_le, if◌then◌else◌, ℤ, pos, negsuc, ◌+ℤ◌, ◌-ℤ◌, ◌*ℤ◌}
use Rattle.std.specs.Prelude.{◌≤ℤ◌}
use Rattle.std.specs.Prelude.{int_div, int_lt, unsigned_abs, Option, Some, None}
use Rattle.its_gnvalue.specs.Values.{Position}
use Rattle.its_geometry.specs.Table.{sine, cosine}
use Rattle.its_geometry.specs.Offsets.{longitude_scale, wrap_longitude, northward, eastward, square}
use Rattle.its_geometry.specs.declared.area.Shape.{Shape}
use Rattle.its_geometry.specs.declared.area.Shape.TheVariants.{Circle, Rectangle, Ellipse}
use Rattle.its_geometry.specs.Area.{GeoArea}
use Rattle.its_duties.specs.declared.claims.Claims.{Claims}
use Rattle.its_duties.specs.declared.interval.Interval.{Interval}
use Rattle.its_duties.specs.declared.places.PlaceBox.{PlaceBox}
use Rattle.its_duties.specs.declared.places.Offsets.{Offsets}
use Rattle.its_duties.specs.declared.places.AreaPosition.{AreaPosition}
use Rattle.its_duties.specs.declared.places.AreaPosition.TheVariants.{Inside, Outside, Unsure}

-- ---- intervals of whole numbers, with both ends

abbrev pub int_least : ℤ → ℤ → ℤ
int_least a b = if int_lt b a then b else a

abbrev pub int_greatest : ℤ → ℤ → ℤ
int_greatest a b = if int_lt a b then b else a

-- a number of the interval
abbrev pub IsIn : Interval → ℤ → Type 0
IsIn s n = (s.low ≤ℤ n) × (n ≤ℤ s.high)

-- both ends have at most this magnitude
pub record IsUpTo (most : ℕ) (s : Interval) : Type 0 where
  pub low : unsigned_abs s.low ≤ most
  pub high : unsigned_abs s.high ≤ most

-- wider by so much on both sides
abbrev pub widened : ℕ → Interval → Interval
widened by s = record { low = s.low -ℤ pos by; high = s.high +ℤ pos by }

-- the numbers of an interval, each times the same
abbrev pub times : Interval → ℤ → Interval
times s n = record {
  low = int_least (s.low *ℤ n) (s.high *ℤ n);
  high = int_greatest (s.low *ℤ n) (s.high *ℤ n);
}

-- the sum of two intervals, and the difference
abbrev pub plus : Interval → Interval → Interval
plus s t = record { low = s.low +ℤ t.low; high = s.high +ℤ t.high }

abbrev pub minus : Interval → Interval → Interval
minus s t = record { low = s.low -ℤ t.high; high = s.high -ℤ t.low }

-- the quotients of its numbers by 10000
abbrev pub ten_thousandths : Interval → Interval
ten_thousandths s =
    record { low = int_div s.low (pos 10000); high = int_div s.high (pos 10000) }

-- the greatest magnitude of its numbers
abbrev pub nat_greatest : ℕ → ℕ → ℕ
nat_greatest a b = if nat_lt a b then b else a

abbrev pub farthest : Interval → ℕ
farthest s = nat_greatest (unsigned_abs s.low) (unsigned_abs s.high)

-- the least one: 0 if it holds 0
abbrev pub nearest : Interval → ℕ
nearest s =
    if int_lt (pos 0) s.low then unsigned_abs s.low
    else if int_lt s.high (pos 0) then unsigned_abs s.high
    else 0

-- ---- a box of places

-- the quotient, rounded up
abbrev pub quotient_up : ℕ → ℕ → ℕ
quotient_up a b = (a + b - 1) / b

-- so many metres to the north, in tenths of a microdegree
abbrev pub metres_north : ℕ → ℕ
metres_north metres = quotient_up (metres * 1000000) 11132

-- to the east, at a latitude whose degrees of longitude are so long
abbrev pub metres_east : ℕ → ℕ → ℕ
metres_east scale metres = quotient_up (metres * 10000000000) (11132 * scale)

-- all places that are so near to this one
abbrev pub box_around : ℕ → Position → PlaceBox
box_around metres place = record {
  latitudes = widened (metres_north metres)
      (record { low = place.latitude; high = place.latitude });
  longitudes = widened (metres_east (longitude_scale place.latitude) metres)
      (record { low = place.longitude; high = place.longitude });
}

-- the box ends before the meridian of 180 degrees
abbrev pub ends_before_180 : PlaceBox → Bool
ends_before_180 box =
    int_lt (negsuc 1800000000) box.longitudes.low
    && int_lt box.longitudes.high (pos 1800000001)

-- The box doesn't reach across the meridian opposite to the centre, where places to the east of the
-- centre turn into places to the west of it.
abbrev pub is_on_one_side : Position → Interval → Bool
is_on_one_side centre longitudes =
    not
    (int_lt (wrap_longitude (longitudes.high -ℤ centre.longitude))
    (wrap_longitude (longitudes.low -ℤ centre.longitude) +ℤ (longitudes.high -ℤ longitudes.low)))

-- the box reaches across neither of these two meridians
abbrev pub is_plain_box : Position → PlaceBox → Bool
is_plain_box centre box = ends_before_180 box && is_on_one_side centre box.longitudes

-- Nothing is known for sure of another box, nor of a box at a pole.
abbrev pub is_plain : Position → Position → PlaceBox → Bool
is_plain centre place box =
    nat_lt 0 (longitude_scale place.latitude) && is_plain_box centre box

-- a place of the box
abbrev pub IsInBox : PlaceBox → Position → Type 0
IsInBox box place = IsIn box.latitudes place.latitude × IsIn box.longitudes place.longitude

-- ---- the place of the station

-- The station is at a place that the claims allow: so near to the place that they name. If they
-- name none, at any place.
abbrev pub IsNear : ℕ → Option Position → Position → Type 0
IsNear metres None place = Unit {0}
IsNear metres (Some claimed) place = IsInBox (box_around metres claimed) place

abbrev pub IsAllowed : Claims → Position → Type 0
IsAllowed k place = IsNear k.accuracy k.place place

-- ---- is a box inside of an area?

-- offsets to the north of the centre
abbrev pub north_of : Position → Interval → Interval
north_of centre latitudes = record {
  low = northward centre (record { latitude = latitudes.low; longitude = pos 0 });
  high = northward centre (record { latitude = latitudes.high; longitude = pos 0 });
}

-- to the east
abbrev pub east_of : Position → Interval → Interval
east_of centre longitudes = record {
  low = eastward centre (record { latitude = pos 0; longitude = longitudes.low });
  high = eastward centre (record { latitude = pos 0; longitude = longitudes.high });
}

-- wider by so much per mille of itself, rounded outwards
abbrev pub tolerated : ℕ → Interval → Interval
tolerated mille s = record {
  low = s.low -ℤ pos (quotient_up (unsigned_abs s.low * mille) 1000);
  high = s.high +ℤ pos (quotient_up (unsigned_abs s.high * mille) 1000);
}

-- along the axis of an area, and across it
abbrev pub along_axis : Interval → Interval → ℕ → Interval
along_axis north east angle =
    ten_thousandths (plus (times north (cosine angle)) (times east (sine angle)))

abbrev pub across_axis : Interval → Interval → ℕ → Interval
across_axis north east angle =
    ten_thousandths (minus (times east (cosine angle)) (times north (sine angle)))

-- the shape holds all offsets of these intervals
abbrev pub holds_all : Shape → (north east x y : Interval) → ℕ → ℕ → Bool
holds_all Circle north east x y a b =
    nat_le (square (farthest north) + square (farthest east)) (square (100 * a))
holds_all Rectangle north east x y a b =
    nat_le (farthest x) (100 * a) && nat_le (farthest y) (100 * b)
holds_all Ellipse north east x y a b =
    nat_le (square (farthest x) * square (100 * b) + square (farthest y) * square (100 * a))
    (square (100 * a) * square (100 * b))

-- it holds none of them
abbrev pub holds_none : Shape → (north east x y : Interval) → ℕ → ℕ → Bool
holds_none Circle north east x y a b =
    nat_lt (square (100 * a)) (square (nearest north) + square (nearest east))
holds_none Rectangle north east x y a b =
    nat_lt (100 * a) (nearest x) || nat_lt (100 * b) (nearest y)
holds_none Ellipse north east x y a b =
    nat_lt (square (100 * a) * square (100 * b))
    (square (nearest x) * square (100 * b) + square (nearest y) * square (100 * a))

-- the offsets of a box from the centre of an area
abbrev pub offsets_of : ℕ → GeoArea → PlaceBox → Offsets
offsets_of mille area box = record {
  north = tolerated mille (north_of area.centre box.latitudes);
  east = tolerated mille (east_of area.centre box.longitudes);
}

abbrev pub is_box_inside : GeoArea → Offsets → Bool
is_box_inside area o =
    holds_all area.shape o.north o.east (along_axis o.north o.east area.angle)
    (across_axis o.north o.east area.angle) area.a area.b

abbrev pub is_box_outside : GeoArea → Offsets → Bool
is_box_outside area o =
    holds_none area.shape o.north o.east (along_axis o.north o.east area.angle)
    (across_axis o.north o.east area.angle) area.a area.b

abbrev pub is_place_inside : ℕ → ℕ → GeoArea → Option Position → Bool
is_place_inside metres mille area None = false
is_place_inside metres mille area (Some place) =
    let box = box_around metres place in
    is_plain area.centre place box && is_box_inside area (offsets_of mille area box)

abbrev pub is_place_outside : ℕ → ℕ → GeoArea → Option Position → Bool
is_place_outside metres mille area None = false
is_place_outside metres mille area (Some place) =
    let box = box_around metres place in
    is_plain area.centre place box && is_box_outside area (offsets_of mille area box)

-- the station is inside of the area for sure
abbrev pub is_surely_inside : Claims → GeoArea → Bool
is_surely_inside k area = is_place_inside k.accuracy k.tolerance area k.place

-- it is outside for sure
abbrev pub is_surely_outside : Claims → GeoArea → Bool
is_surely_outside k area = is_place_outside k.accuracy k.tolerance area k.place

-- where the station is, seen from the area
abbrev pub area_position : (inside outside : Bool) → AreaPosition
area_position inside outside = if inside then Inside else if outside then Outside else Unsure

abbrev pub position_in : Claims → GeoArea → AreaPosition
position_in k area = area_position (is_surely_inside k area) (is_surely_outside k area)

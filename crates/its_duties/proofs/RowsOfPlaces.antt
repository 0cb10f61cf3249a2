-- Where a station is for sure: places near the border of a circle of 100 m, and boxes that reach
-- round the earth, evaluated.
use Rattle.std.proofs.Common.{◌≡◌, ℕ, true, false, Some, refl}
use Rattle.std.specs.Prelude.{pos, negsuc}
use Rattle.its_gnvalue.specs.Values.{Position}
use Rattle.its_geometry.specs.declared.area.Shape.TheVariants.{Circle}
use Rattle.its_geometry.specs.Area.{GeoArea, area_holds}
use Rattle.its_duties.specs.declared.claims.Claims.{Claims}
use Rattle.its_duties.specs.Places.{is_surely_inside, is_surely_outside}
use Rattle.its_duties.proofs.RowsOfBeacons.{here, claims}

abbrev area : GeoArea
area = record { shape = Circle; centre = here; a = 100; b = 0; angle = 0 }

-- a station so far to the north of the centre, in tenths of a microdegree
abbrev stands : ℕ → ℕ → ℕ → Claims
stands north accuracy tolerance = record claims {
  place = Some (record { latitude = pos north; longitude = pos 0 });
  accuracy = accuracy;
  tolerance = tolerance;
}

-- The very place, and this project's arithmetic: 100.00 m are inside, and 100.02 m are outside.
on_the_border : is_surely_inside (stands 8984 0 0) area ≡ true
on_the_border = refl

over_the_border : is_surely_outside (stands 8985 0 0) area ≡ true
over_the_border = refl

-- Ten metres more or less: 89.05 m are inside for sure.
ten_metres_less : is_surely_inside (stands 8000 10 0) area ≡ true
ten_metres_less = refl

-- Of 94.62 m, and of 104.63 m, nothing is sure.
not_inside_for_sure : is_surely_inside (stands 8500 10 0) area ≡ false
not_inside_for_sure = refl

not_outside_for_sure : is_surely_outside (stands 9400 10 0) area ≡ false
not_outside_for_sure = refl

-- Another arithmetic, by one per cent: of 100.00 m nothing is sure.
another_arithmetic : is_surely_inside (stands 8984 0 10) area ≡ false
another_arithmetic = refl

nor_outside : is_surely_outside (stands 8985 0 10) area ≡ false
nor_outside = refl

-- ---- the meridian opposite to the centre

-- A station at 89.8550 degrees north, up to 50094 m from its claimed place, may be at any longitude.
abbrev polar : Claims
polar = record claims {
  place = Some (record { latitude = pos 898550000; longitude = pos 0 });
  accuracy = 50094;
  tolerance = 0;
}

-- A circle of 60 km at the same latitude, on the other side of the pole. Seen from its centre both
-- ends of the box are at no distance to the east.
abbrev across_the_pole : GeoArea
across_the_pole = record {
  shape = Circle;
  centre = record { latitude = pos 898550000; longitude = negsuc 1799999999 };
  a = 60000;
  b = 0;
  angle = 0;
}

-- The station may be in its box and outside of the circle, so nothing is sure.
abbrev in_the_box : Position
in_the_box = record { latitude = pos 894050000; longitude = pos 0 }

outside_of_the_circle : area_holds across_the_pole in_the_box ≡ false
unfolding area_holds
outside_of_the_circle = refl

not_sure_round_the_pole : is_surely_inside polar across_the_pole ≡ false
not_sure_round_the_pole = refl

-- On the other side of the earth a tolerance of all of the distance is no reason.
other_side : is_surely_inside (record claims {
  place = Some (record { latitude = pos 0; longitude = pos 1799999000 });
  accuracy = 20;
  tolerance = 1000;
}) (record area { centre = record { latitude = pos 0; longitude = negsuc 999 } }) ≡ false
other_side = refl

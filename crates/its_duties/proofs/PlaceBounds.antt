-- How far a box of places reaches that ends before the meridian of 180 degrees.
use Rattle.std.proofs.Common.{◌≡◌, true, arith}
use Rattle.std.specs.Prelude.{pos, negsuc, int_lt, ◌≤ℤ◌}
use Rattle.std.proofs.lemmas.Int.{ints}
use Rattle.its_duties.specs.declared.places.PlaceBox.{PlaceBox}
use Rattle.its_duties.specs.Places.{IsUpTo, ends_before_180}
use Rattle.its_duties.proofs.RelayLaws.{and_first, and_second}

pub ends_bound : (box : PlaceBox) → ends_before_180 box ≡ true
    → box.longitudes.low ≤ℤ box.longitudes.high → IsUpTo 1800000000 box.longitudes
ends_bound box e order =
    let west : int_lt (negsuc 1800000000) box.longitudes.low ≡ true = and_first _ _ e in
    let east : int_lt box.longitudes.high (pos 1800000001) ≡ true =
    and_second (int_lt (negsuc 1800000000) box.longitudes.low) _ e in
    record {
      low = omega (arith, ints, west, east, order);
      high = omega (arith, ints, west, east, order);
    }

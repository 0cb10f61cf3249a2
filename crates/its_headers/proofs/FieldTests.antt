-- What the tests of fields mean.
use Rattle.std.proofs.Common.{◌≡◌, ℕ, ◌+◌, ◌%◌, ◌^◌, ◌<◌, Bool, true, false, cond, nat_le, arith, ℤ}
use Rattle.std.proofs.Common.{pos, negsuc}
use Rattle.std.proofs.lemmas.Int.{ints}
use Rattle.std.specs.Int.{w32, cast_signed, cast_unsigned}
use Rattle.its_gnvalue.specs.Values.{IsLatitude, IsLongitude, IsSpeed}
use Rattle.its_headers.specs.Encoding.{speed_bits}
use Rattle.its_headers.specs.Layout.{latitude_test, longitude_test, speed_of}

pub latitude_from_test : (z : ℤ) → latitude_test z ≡ true → IsLatitude z
latitude_from_test z h = (grind (arith, ints), grind (arith, ints))

pub test_from_latitude : (z : ℤ) → IsLatitude z → latitude_test z ≡ true
test_from_latitude z h = grind (arith, ints)

pub longitude_from_test : (z : ℤ) → longitude_test z ≡ true → IsLongitude z
longitude_from_test z h = (grind (arith, ints), grind (arith, ints))

pub test_from_longitude : (z : ℤ) → IsLongitude z → longitude_test z ≡ true
test_from_longitude z h = grind (arith, ints)

pub speed_fits : (n : ℕ) → n < 2 ^ 15 → IsSpeed (speed_of n)
speed_fits n h = (grind (arith, ints), grind (arith, ints))

pub speed_bits-speed_of : (n : ℕ) → n < 2 ^ 15 → speed_bits (speed_of n) ≡ n
speed_bits-speed_of n h = grind arith

pub speed_bits-lt : (z : ℤ) → IsSpeed z → speed_bits z < 2 ^ 15
speed_bits-lt (pos n) h = omega (arith, ints)
speed_bits-lt (negsuc n) h = omega (arith, ints)

pub speed_of-speed_bits : (z : ℤ) → IsSpeed z → speed_of (speed_bits z) ≡ z
speed_of-speed_bits (pos n) h = let lt : n < 2 ^ 14 = omega (arith, ints) in grind arith
speed_of-speed_bits (negsuc n) h = let lt : n < 2 ^ 14 = omega (arith, ints) in grind arith

-- a signed number of 31 bits is its octets
pub signed_back : (z : ℤ) → IsLongitude z → cast_signed w32 (cast_unsigned w32 z) ≡ z
signed_back z h = omega (arith, ints)

pub unsigned-lt : (z : ℤ) → IsLongitude z → cast_unsigned w32 z < 2 ^ 32
unsigned-lt z h = omega (arith, ints)

pub longitude_from_latitude : (z : ℤ) → IsLatitude z → IsLongitude z
longitude_from_latitude z h = (omega (arith, ints), omega (arith, ints))

pub accurate_back : (b : Bool) (n : ℕ) → n < 2 ^ 15 → nat_le (2 ^ 15) (cond b (2 ^ 15) 0 + n) ≡ b
accurate_back true n h = grind arith
accurate_back false n h = grind arith

pub bits_back : (b : Bool) (n : ℕ) → n < 2 ^ 15 → (cond b (2 ^ 15) 0 + n) % 2 ^ 15 ≡ n
bits_back true n h = omega arith
bits_back false n h = omega arith

pub motion-lt : (b : Bool) (n : ℕ) → n < 2 ^ 15 → cond b (2 ^ 15) 0 + n < 2 ^ 16
motion-lt true n h = omega arith
motion-lt false n h = omega arith

-- What the values are, apart from how they lie in memory: whole numbers, with signs where the field
-- has one.
use Rattle.std.specs.Prelude.{◌≡◌, ℕ, ◌+◌, ◌-◌, ◌*◌, ◌/◌, ◌%◌, ◌^◌, ℤ, pos, negsuc, ◌≤ℤ◌, Bool}
use Rattle.std.specs.Prelude.{◌&&◌, nat_lt, slice_index, ◌∷◌, []}

-- A place on the earth, in tenths of a microdegree: north and east are positive.
pub record Position : Type 0 where
  pub latitude : ℤ
  pub longitude : ℤ

-- What a station says of itself: its address, at which moment (ms modulo 2^32) it was where,
-- whether that place is accurate (PAI), its speed (0.01 m/s, negative backwards) and its heading
-- (0.1 degree clockwise from north).
pub record PositionVector : Type 0 where
  pub address : ℕ
  pub timestamp : ℕ
  pub place : Position
  pub accurate : Bool
  pub speed : ℤ
  pub heading : ℕ

-- how many hops a packet has left, and how many it had at most
pub record HopPair : Type 0 where
  pub left : ℕ
  pub max : ℕ

-- The parts of a GN address, from the highest bit: configured by hand (1 bit), station type (5),
-- reserved (10), MID (48).
abbrev pub manual_of : ℕ → ℕ
manual_of address = address / 2 ^ 63 % 2

abbrev pub station_type_of : ℕ → ℕ
station_type_of address = address / 2 ^ 58 % 2 ^ 5

abbrev pub reserved_of : ℕ → ℕ
reserved_of address = address / 2 ^ 48 % 2 ^ 10

-- the MID is the link address (MAC) of the station
abbrev pub mid_of : ℕ → ℕ
mid_of address = address % 2 ^ 48

-- The lowest bit of the first octet of a MAC, or of a MID in its address, says whether it is a
-- group.
abbrev pub group_bit_of : ℕ → ℕ
group_bit_of mac = mac / 2 ^ 40 % 2

abbrev pub IsGroup : ℕ → Type 0
IsGroup mac = group_bit_of mac ≡ 1

abbrev pub IsIndividual : ℕ → Type 0
IsIndividual mac = group_bit_of mac ≡ 0

-- the MAC of all stations: 48 bits of 1
abbrev pub broadcast : ℕ
broadcast = 2 ^ 48 - 1

abbrev pub IsLatitude : ℤ → Type 0
IsLatitude z = (negsuc 899999999 ≤ℤ z) × (z ≤ℤ pos 900000000)

abbrev pub IsLongitude : ℤ → Type 0
IsLongitude z = (negsuc 1799999999 ≤ℤ z) × (z ≤ℤ pos 1800000000)

abbrev pub IsSpeed : ℤ → Type 0
IsSpeed z = (negsuc 16383 ≤ℤ z) × (z ≤ℤ pos 16383)

-- A lifetime octet is a multiplier of six bits and a base of two: 50 ms, 1 s, 10 s or 100 s.
abbrev pub base_millis : ℕ → ℕ
base_millis base = slice_index (50 ∷ 1000 ∷ 10000 ∷ 100000 ∷ []) base

abbrev pub lifetime_millis : ℕ → ℕ
lifetime_millis octet = octet / 4 * base_millis (octet % 4)

-- The first timestamp is ahead of the second by 1 to 2^31 - 1, counted modulo 2^32.
abbrev pub is_newer : ℕ → ℕ → Bool
is_newer a b = let ahead = (a + 2 ^ 32 - b) % 2 ^ 32 in nat_lt 0 ahead && nat_lt ahead (2 ^ 31)

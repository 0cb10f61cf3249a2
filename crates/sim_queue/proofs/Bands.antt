-- Where a place in range lies: its latitude and its longitude are near.
use Rattle.std.proofs.Common.{◌≡◌, ℕ, ◌+◌, ◌-◌, ◌*◌, ◌/◌, ◌<◌, ◌≤◌, Bool, true, false, refl, sym}
use Rattle.std.proofs.Common.{ap, arith, subst, ◌∙◌, div-mul-le_self, ◌⊎◌, inl, inr}
use Rattle.std.specs.Prelude.{ℤ, pos, negsuc, ◌+ℤ◌, ◌-ℤ◌, unsigned_abs, int_lt, if◌then◌else◌}
use Rattle.std.proofs.lemmas.Bool.{leb-true, leb-false, le-ltb, cases_lt}
use Rattle.std.proofs.lemmas.Int.{ints}
use Rattle.std.proofs.lemmas.Nat.{le-div}
use Rattle.its_gnvalue.specs.Values.{Position}
use Rattle.its_geometry.specs.Offsets.{northward, eastward, wrap_longitude, longitude_scale}
use Rattle.its_geometry.specs.Offsets.{squared_distance}
use Rattle.its_geometry.proofs.SignedLemmas.{unsigned_abs-northward, unsigned_abs-eastward}
use Rattle.sim_air_model.specs.Range.{is_within}
use Rattle.sim_queue.specs.PlaceIndexes.{northing, easting, row_of, Covers}

-- signed numbers are no farther apart than their lengths
longer : (a b : ℤ) → unsigned_abs (a +ℤ b) ≤ unsigned_abs a + unsigned_abs b
longer (pos a) (pos b) = omega arith
longer (pos a) (negsuc b) = grind arith
longer (negsuc a) (pos b) = grind arith
longer (negsuc a) (negsuc b) = omega arith

apart : (a b k : ℤ) → unsigned_abs (a +ℤ k) ≤ unsigned_abs (b +ℤ k) + unsigned_abs (a -ℤ b)
apart a b k =
    let is : b +ℤ k +ℤ (a -ℤ b) ≡ a +ℤ k = omega (arith, ints) in
    subst (λ (z : ℤ). unsigned_abs z ≤ unsigned_abs (b +ℤ k) + unsigned_abs (a -ℤ b)) is
    (longer (b +ℤ k) (a -ℤ b))

apart_back : (a b k : ℤ) → unsigned_abs (b +ℤ k) ≤ unsigned_abs (a +ℤ k) + unsigned_abs (a -ℤ b)
apart_back a b k =
    subst (λ n. unsigned_abs (b +ℤ k) ≤ unsigned_abs (a +ℤ k) + n) (turned a b) (apart b a k)
  where
    turned : (a b : ℤ) → unsigned_abs (b -ℤ a) ≡ unsigned_abs (a -ℤ b)
    turned a b = grind (arith, ints)

-- a number is no greater than its square's root is
root : (m n : ℕ) → m * m ≤ n * n → m ≤ n
root m n le = grind arith

-- a tenth of a microdegree is no shorter than a centimetre
longer_than : (n : ℕ) → n ≤ n * 11132 / 10000
longer_than n = grind arith

-- within reach, the latitudes are no farther apart than the reach
pub near_in_latitude : (range : ℕ) (centre place : Position) → is_within range centre place ≡ true
    → unsigned_abs (place.latitude -ℤ centre.latitude) ≤ 100 * range
unfolding squared_distance
near_in_latitude range centre place within =
    let north = unsigned_abs (northward centre place) in
    let le : squared_distance centre place ≤ 100 * range * (100 * range) = leb-true _ _ within in
    let short : north ≤ 100 * range = root north (100 * range) (omega (arith, le)) in
    let gap = unsigned_abs (place.latitude -ℤ centre.latitude) in
    omega (arith, short, unsigned_abs-northward centre place, longer_than gap)

-- a quotient of more is no less
quotient_mono : (m n d : ℕ) → 0 < d → m ≤ n → m / d ≤ n / d
quotient_mono m n d positive le =
    let whole : m / d * d ≤ m = div-mul-le_self m d in
    le-div (m / d) n d positive (omega (arith, whole, le))

-- the row of a place in range
pub in_rows : (height range : ℕ) (centre place : Position) → is_within range centre place ≡ true
    → ((northing centre - 100 * range) / (100 * height + 1) ≤ row_of height place)
    × (row_of height place ≤ (northing centre + 100 * range) / (100 * height + 1))
in_rows height range centre place within =
    let near = near_in_latitude range centre place within in
    let up = apart place.latitude centre.latitude (pos 900000000) in
    let down = apart_back place.latitude centre.latitude (pos 900000000) in (
      quotient_mono _ _ (100 * height + 1) (omega arith) (omega (arith, near, down)),
      quotient_mono _ _ (100 * height + 1) (omega arith) (omega (arith, near, up)),
    )

-- a longitude that is this far off the short way round is so far off
turned : (a b : ℤ) → unsigned_abs (b -ℤ a) ≡ unsigned_abs (a -ℤ b)
turned a b = grind (arith, ints)

whole_round : (z : ℤ) → unsigned_abs z ≤ 1800000000
    → unsigned_abs (z +ℤ pos 5400000000) ≡ unsigned_abs (z +ℤ pos 1800000000) + 3600000000
whole_round (pos n) small = omega arith
whole_round (negsuc n) small = grind arith

within_round : (z : ℤ) → unsigned_abs z ≤ 1800000000
    → unsigned_abs (z +ℤ pos 1800000000) ≤ 3600000000
within_round (pos n) small = omega arith
within_round (negsuc n) small = grind arith

-- the ends of a stretch, and between them whatever is no farther off
near_east : (c p : ℤ) (width west east : ℕ) → unsigned_abs c ≤ 1800000000
    → unsigned_abs p ≤ 1800000000
    → unsigned_abs (c +ℤ pos 1800000000) ≡ west + width
    → unsigned_abs (c +ℤ pos 1800000000) + width ≡ east → east ≤ 3600000000
    → unsigned_abs (wrap_longitude (p -ℤ c)) < width
    → (west ≤ unsigned_abs (p +ℤ pos 1800000000)) × (unsigned_abs (p +ℤ pos 1800000000) ≤ east)
near_east c p width west east small_c small_p is_west is_east inside near =
    by (int_lt (p -ℤ c) (negsuc 1799999999)) (int_lt (pos 1800000000) (p -ℤ c)) near
  where
    v : ℤ
    v = p -ℤ c

    by : (a b : Bool)
        → unsigned_abs (if a then v +ℤ pos 3600000000 else if b then v -ℤ pos 3600000000 else v)
        < width
        → (west ≤ unsigned_abs (p +ℤ pos 1800000000)) × (unsigned_abs (p +ℤ pos 1800000000) ≤ east)
    by true b lt =
        let is : c +ℤ pos 1800000000 +ℤ (p -ℤ c +ℤ pos 3600000000) ≡ p +ℤ pos 5400000000 =
        omega (arith, ints) in
        let far = subst (λ (z : ℤ). unsigned_abs z ≤ unsigned_abs (c +ℤ pos 1800000000)
        + unsigned_abs (p -ℤ c +ℤ pos 3600000000)) is
        (longer (c +ℤ pos 1800000000) (p -ℤ c +ℤ pos 3600000000)) in
        absurd (omega (arith, far, lt, whole_round p small_p, is_east, inside))
    by false true lt =
        let is : p +ℤ pos 1800000000 +ℤ (pos 3600000000 -ℤ (p -ℤ c)) ≡ c +ℤ pos 5400000000 =
        omega (arith, ints) in
        let far = subst (λ (z : ℤ). unsigned_abs z ≤ unsigned_abs (p +ℤ pos 1800000000)
        + unsigned_abs (pos 3600000000 -ℤ (p -ℤ c))) is
        (longer (p +ℤ pos 1800000000) (pos 3600000000 -ℤ (p -ℤ c))) in
        let back = turned (p -ℤ c) (pos 3600000000) in
        absurd (omega (
          arith,
          far,
          back,
          lt,
          whole_round c small_c,
          is_west,
          within_round p small_p,
        ))
    by false false lt =
        let up = apart p c (pos 1800000000) in
        let down = apart_back p c (pos 1800000000) in
        (omega (arith, down, lt, is_west), omega (arith, up, lt, is_east))

-- a place that is farther round is no nearer
round_mono : (a b k : ℕ) → a ≤ b → a * k / 100000000 ≤ b * k / 100000000
round_mono a b k le =
    let product : a * k ≤ b * k = grind arith in
    quotient_mono (a * k) (b * k) 100000000 (omega arith) product

-- a difference of no more than half the way round is the short one
short_way : (n : ℕ) → n ≤ 1800000000 → unsigned_abs (wrap_longitude (pos n)) ≡ n
short_way n small = rw (le-ltb 1800000000 n small) refl

farther_east : (z : ℤ) (w : ℕ) → unsigned_abs z ≤ 1800000000
    → unsigned_abs (z +ℤ pos w +ℤ pos 1800000000) ≡ unsigned_abs (z +ℤ pos 1800000000) + w
farther_east (pos n) w small = omega arith
farther_east (negsuc n) w small = grind arith

square_mono : (m n : ℕ) → m ≤ n → m * m ≤ n * n
square_mono m n le = grind arith

-- what is in range is no farther east than the range, and at one latitude what isn't in it is
near_enough : (range : ℕ) (centre place : Position) → is_within range centre place ≡ true
    → unsigned_abs (eastward centre place) ≤ 100 * range
unfolding squared_distance
near_enough range centre place within =
    let le : squared_distance centre place ≤ 100 * range * (100 * range) = leb-true _ _ within in
    root (unsigned_abs (eastward centre place)) (100 * range) (omega (arith, le))

too_far : (range : ℕ) (centre place : Position) → is_within range centre place ≡ false
    → place.latitude ≡ centre.latitude → 100 * range < unsigned_abs (eastward centre place)
unfolding squared_distance
too_far range centre place out level =
    let more : 100 * range * (100 * range) < squared_distance centre place =
    leb-false _ _ out in
    let far = unsigned_abs (eastward centre place) in
    let none : unsigned_abs (northward centre place) ≡ 0 =
    unsigned_abs-northward centre place
    ∙ ap (λ (z : ℤ). unsigned_abs (z -ℤ centre.latitude) * 11132 / 10000) level
    ∙ ap (λ (z : ℤ). unsigned_abs z * 11132 / 10000) (nothing centre.latitude) in
    let north : unsigned_abs (northward centre place) * unsigned_abs (northward centre place) ≡ 0 =
    ap (λ n. n * n) none in
    by (cases_lt (100 * range) far) (omega (arith, more, north))
  where
    nothing : (z : ℤ) → z -ℤ z ≡ pos 0
    nothing z = omega (arith, ints)

    by : (100 * range < unsigned_abs (eastward centre place))
        ⊎ (unsigned_abs (eastward centre place) ≤ 100 * range)
        → 100 * range * (100 * range)
        < unsigned_abs (eastward centre place) * unsigned_abs (eastward centre place)
        → 100 * range < unsigned_abs (eastward centre place)
    by (inl lt) square = lt
    by (inr le) square = absurd (omega (arith, square, square_mono _ _ le))

-- where a place at one latitude, so far to the east, is out of range, no other so far off is in it
pub covers : (range width : ℕ) (centre west east : Position)
    → width ≤ 60000000 → unsigned_abs centre.longitude ≤ 1800000000
    → unsigned_abs west.longitude ≤ 1800000000 → unsigned_abs east.longitude ≤ 1800000000
    → centre.longitude ≡ west.longitude +ℤ pos width
    → east.latitude ≡ centre.latitude → east.longitude ≡ centre.longitude +ℤ pos width
    → is_within range centre east ≡ false
    → Covers range centre (easting west) (easting east)
covers range width centre west east narrow small small_west small_east is_west level is_east out p
    valid within =
    near_east centre.longitude p.longitude width (easting west) (easting east) small valid begins
    ends (within_round east.longitude small_east) (near (cases_lt _ width))
  where
    k : ℕ
    k = 11132 * longitude_scale centre.latitude

    off : ℕ
    off = unsigned_abs (wrap_longitude (p.longitude -ℤ centre.longitude))

    begins : unsigned_abs (centre.longitude +ℤ pos 1800000000) ≡ easting west + width
    begins =
        ap (λ (z : ℤ). unsigned_abs (z +ℤ pos 1800000000)) is_west
        ∙ farther_east west.longitude width small_west

    ends : unsigned_abs (centre.longitude +ℤ pos 1800000000) + width ≡ easting east
    ends =
        sym (ap (λ (z : ℤ). unsigned_abs (z +ℤ pos 1800000000)) is_east
        ∙ farther_east centre.longitude width small)

    beside : (z : ℤ) → z +ℤ pos width -ℤ z ≡ pos width
    beside z = omega (arith, ints)

    probe : unsigned_abs (wrap_longitude (east.longitude -ℤ centre.longitude)) ≡ width
    probe =
        ap (λ (z : ℤ). unsigned_abs (wrap_longitude (z -ℤ centre.longitude))) is_east
        ∙ ap (λ (z : ℤ). unsigned_abs (wrap_longitude z)) (beside centre.longitude)
        ∙ short_way width (omega (arith, narrow))

    near : (off < width) ⊎ (width ≤ off) → off < width
    near (inl lt) = lt
    near (inr ge) =
        let far = too_far range centre east out level in
        let close = near_enough range centre p within in
        let there = unsigned_abs-eastward centre east
        ∙ ap (λ n. n * (11132 * longitude_scale centre.latitude) / 100000000) probe in
        let here = unsigned_abs-eastward centre p in
        let more = round_mono width off k ge in
        absurd (omega (arith, far, close, there, here, more))

-- What the formats of packets spell is the encoding.
use Rattle.std.proofs.Common.{◌≡◌, ℕ, ◌%◌, ◌^◌, ◌<◌, List, [], ◌++◌, Bool, true, nat_le, refl, sym}
use Rattle.std.proofs.Common.{ap, subst, ◌∙◌, arith, ℤ, eq-eqb}
use Rattle.std.proofs.lemmas.Bool.{ltb-true, eqb-true, lt-ltb}
use Rattle.std.proofs.lemmas.Int.{of_z-to_z}
use Rattle.std.specs.Int.{w32, cast_signed, cast_unsigned}
use Rattle.byteorder.specs.Endian.{big_bytes}
use Rattle.its_gnvalue.specs.Values.{PositionVector}
use Rattle.its_geometry.specs.declared.area.Shape.{Shape}
use Rattle.its_geometry.specs.declared.area.Shape.TheVariants.{Circle, Rectangle, Ellipse}
use Rattle.its_geometry.specs.Area.{GeoArea, HasMeasures}
use Rattle.its_headers.specs.Encoding.{IsVector, vector_octets, area_octets, speed_bits, motion}
use Rattle.its_headers.specs.Encoding.{IsArea}
use Rattle.its_headers.specs.Layout.{latitude_test, longitude_test, speed_of, is_individual}
use Rattle.its_headers.specs.Layout.{vector_format, vector_from, area_format, area_from, is_second}
use Rattle.its_headers.specs.Layout.{is_angle}
use Rattle.its_formats.specs.Spells.{Spells}
use Rattle.its_headers.proofs.FieldTests.{latitude_from_test, test_from_latitude}
use Rattle.its_headers.proofs.FieldTests.{longitude_from_test, test_from_longitude, speed_fits}
use Rattle.its_headers.proofs.FieldTests.{speed_bits-speed_of, speed_bits-lt, speed_of-speed_bits}
use Rattle.its_headers.proofs.FieldTests.{signed_back, unsigned-lt, longitude_from_latitude}
use Rattle.its_headers.proofs.FieldTests.{accurate_back, bits_back, motion-lt}

motion_back : (m : ℕ) → m < 2 ^ 16 → motion (nat_le (2 ^ 15) m) (speed_of (m % 2 ^ 15)) ≡ m
motion_back m h = let e = speed_bits-speed_of (m % 2 ^ 15) (omega arith) in rw e (grind arith)

vector_from_fits : (a t la lo m h : ℕ) → a < 2 ^ 64 → is_individual a ≡ true → t < 2 ^ 32
    → latitude_test (cast_signed w32 la) ≡ true → longitude_test (cast_signed w32 lo) ≡ true
    → m < 2 ^ 16 → h < 2 ^ 16 → IsVector (vector_from a t la lo m h)
vector_from_fits a t la lo m h fa ra ft rla rlo fm fh =
    record {
      address = fa;
      individual = eqb-true _ _ ra;
      timestamp = ft;
      latitude = latitude_from_test _ rla;
      longitude = longitude_from_test _ rlo;
      speed = speed_fits (m % 2 ^ 15) (omega arith);
      heading = fh;
    }

vector_from_octets : (a t la lo m h : ℕ) → la < 2 ^ 32 → lo < 2 ^ 32 → m < 2 ^ 16
    → vector_octets (vector_from a t la lo m h) ≡ big_bytes 8 a ++ big_bytes 4 t ++ big_bytes 4 la
    ++ big_bytes 4 lo ++ big_bytes 2 m ++ big_bytes 2 h
vector_from_octets a t la lo m h fla flo fm =
    ap (λ (x : ℕ). big_bytes 8 a ++ big_bytes 4 t ++ big_bytes 4 x
    ++ big_bytes 4 (cast_unsigned w32 (cast_signed w32 lo))
    ++ big_bytes 2 (motion (nat_le (2 ^ 15) m) (speed_of (m % 2 ^ 15))) ++ big_bytes 2 h)
    (of_z-to_z w32 la fla)
    ∙ ap (λ (x : ℕ). big_bytes 8 a ++ big_bytes 4 t ++ big_bytes 4 la ++ big_bytes 4 x
    ++ big_bytes 2 (motion (nat_le (2 ^ 15) m) (speed_of (m % 2 ^ 15))) ++ big_bytes 2 h)
    (of_z-to_z w32 lo flo)
    ∙ ap (λ (x : ℕ). big_bytes 8 a ++ big_bytes 4 t ++ big_bytes 4 la ++ big_bytes 4 lo
    ++ big_bytes 2 x ++ big_bytes 2 h) (motion_back m fm)

pub vector_spelled : (v : PositionVector) (s : List ℕ) → Spells vector_format v s
    → IsVector v × (s ≡ vector_octets v)
unfolding vector_format
vector_spelled v s (
  a,
  t0,
  fa,
  ra,
  e0,
  (
    t,
    t1,
    ft,
    rt,
    e1,
    (
      la,
      t2,
      fla,
      rla,
      e2,
      (lo, t3, flo, rlo, e3, (m, t4, fm, rm, e4, (h, t5, fh, rh, e5, (is, nil)))),
    ),
  ),
) =
    let text : s ≡ big_bytes 8 a ++ big_bytes 4 t ++ big_bytes 4 la ++ big_bytes 4 lo
    ++ big_bytes 2 m ++ big_bytes 2 h = rw (e0, e1, e2, e3, e4, e5, nil) refl in
    subst (λ v. IsVector v × (s ≡ vector_octets v)) is (
      vector_from_fits a t la lo m h (omega arith) ra (omega arith) rla rlo (omega arith)
          (omega arith),
      text ∙ sym (vector_from_octets a t la lo m h (omega arith) (omega arith) (omega arith)),
    )

-- ---- a vector in range is spelled

vector_back : (v : PositionVector) → IsVector v
    → vector_from v.address v.timestamp (cast_unsigned w32 v.place.latitude)
    (cast_unsigned w32 v.place.longitude) (motion v.accurate v.speed) v.heading ≡ v
vector_back v fits =
    let lt = speed_bits-lt v.speed fits.speed in
    let accurate = accurate_back v.accurate (speed_bits v.speed) lt in
    let bits = bits_back v.accurate (speed_bits v.speed) lt in
    let speed : speed_of (motion v.accurate v.speed % 2 ^ 15) ≡ v.speed =
    ap speed_of bits ∙ speed_of-speed_bits v.speed fits.speed in
    let lat = signed_back v.place.latitude
    (longitude_from_latitude v.place.latitude fits.latitude) in
    let lon = signed_back v.place.longitude fits.longitude in
    ap (λ (x : ℤ). record v {
      place = record {
        latitude = x;
        longitude = cast_signed w32 (cast_unsigned w32 v.place.longitude);
      };
      accurate = nat_le (2 ^ 15) (motion v.accurate v.speed);
      speed = speed_of (motion v.accurate v.speed % 2 ^ 15);
    }) lat
    ∙ ap (λ (x : ℤ). record v {
      place = record { latitude = v.place.latitude; longitude = x };
      accurate = nat_le (2 ^ 15) (motion v.accurate v.speed);
      speed = speed_of (motion v.accurate v.speed % 2 ^ 15);
    }) lon
    ∙ ap (λ (x : Bool). record v {
      accurate = x;
      speed = speed_of (motion v.accurate v.speed % 2 ^ 15);
    }) accurate
    ∙ ap (λ (x : ℤ). record v { speed = x }) speed

pub spells_vector : (v : PositionVector) → IsVector v → Spells vector_format v (vector_octets v)
unfolding vector_format
spells_vector v fits =
    let lat = signed_back v.place.latitude
    (longitude_from_latitude v.place.latitude fits.latitude) in
    let lon = signed_back v.place.longitude fits.longitude in
    let la = cast_unsigned w32 v.place.latitude in
    let lo = cast_unsigned w32 v.place.longitude in
    let m = motion v.accurate v.speed in (
      v.address,
      _,
      fits.address,
      eq-eqb _ _ fits.individual,
      refl,
      (
        v.timestamp,
        _,
        fits.timestamp,
        refl,
        refl,
        (
          la,
          _,
          unsigned-lt v.place.latitude (longitude_from_latitude v.place.latitude fits.latitude),
          ap latitude_test lat ∙ test_from_latitude v.place.latitude fits.latitude,
          refl,
          (
            lo,
            _,
            unsigned-lt v.place.longitude fits.longitude,
            ap longitude_test lon ∙ test_from_longitude v.place.longitude fits.longitude,
            refl,
            (
              m,
              big_bytes 2 v.heading,
              motion-lt v.accurate (speed_bits v.speed) (speed_bits-lt v.speed fits.speed),
              refl,
              refl,
              (v.heading, [], fits.heading, refl, refl, (vector_back v fits, refl)),
            ),
          ),
        ),
      ),
    )

-- ---- areas

second_fits : (shape : Shape) (a b angle : ℕ) → 0 < a → is_second shape b ≡ true
    → is_angle shape angle ≡ true → HasMeasures shape a b angle
second_fits Circle a b angle some hb hg = (some, eqb-true _ _ hb, eqb-true _ _ hg)
second_fits Rectangle a b angle some hb hg = (some, ltb-true _ _ hb, ltb-true _ _ hg)
second_fits Ellipse a b angle some hb hg = (some, ltb-true _ _ hb, ltb-true _ _ hg)

fits_second : (shape : Shape) (a b angle : ℕ) → HasMeasures shape a b angle
    → (0 < a) × (is_second shape b ≡ true) × (is_angle shape angle ≡ true) × (angle < 2 ^ 16)
fits_second Circle a b angle h = (h.0, eq-eqb _ _ h.1, eq-eqb _ _ h.2, omega arith)
fits_second Rectangle a b angle h = (h.0, lt-ltb _ _ h.1, lt-ltb _ _ h.2, omega arith)
fits_second Ellipse a b angle h = (h.0, lt-ltb _ _ h.1, lt-ltb _ _ h.2, omega arith)

pub area_spelled : (shape : Shape) (x : GeoArea) (s : List ℕ) → Spells (area_format shape) x s
    → IsArea x × (s ≡ area_octets x) × (x.shape ≡ shape)
unfolding area_format
area_spelled shape x s (
  la,
  t0,
  fla,
  rla,
  e0,
  (
    lo,
    t1,
    flo,
    rlo,
    e1,
    (a, t2, fa, ra, e2, (b, t3, fb, rb, e3, (g, t4, fg, rg, e4, (is, nil)))),
  ),
) =
    let text : s ≡ big_bytes 4 la ++ big_bytes 4 lo ++ big_bytes 2 a ++ big_bytes 2 b
    ++ big_bytes 2 g = rw (e0, e1, e2, e3, e4, nil) refl in
    let octets : area_octets (area_from shape la lo a b g) ≡ big_bytes 4 la ++ big_bytes 4 lo
    ++ big_bytes 2 a ++ big_bytes 2 b ++ big_bytes 2 g =
    ap (λ (x : ℕ). big_bytes 4 x ++ big_bytes 4 (cast_unsigned w32 (cast_signed w32 lo))
    ++ big_bytes 2 a ++ big_bytes 2 b ++ big_bytes 2 g) (of_z-to_z w32 la (omega arith))
    ∙ ap (λ (x : ℕ). big_bytes 4 la ++ big_bytes 4 x ++ big_bytes 2 a ++ big_bytes 2 b
    ++ big_bytes 2 g) (of_z-to_z w32 lo (omega arith)) in
    subst (λ x. IsArea x × (s ≡ area_octets x) × (x.shape ≡ shape)) is (
      record {
        latitude = latitude_from_test _ rla;
        longitude = longitude_from_test _ rlo;
        a = omega arith;
        b = omega arith;
        measures = second_fits shape a b g (ltb-true _ _ ra) rb rg;
      },
      text ∙ sym octets,
      refl,
    )

pub spells_area : (x : GeoArea) → IsArea x → Spells (area_format x.shape) x (area_octets x)
unfolding area_format
spells_area x fits =
    let lat = signed_back x.centre.latitude
    (longitude_from_latitude x.centre.latitude fits.latitude) in
    let lon = signed_back x.centre.longitude fits.longitude in
    let la = cast_unsigned w32 x.centre.latitude in
    let lo = cast_unsigned w32 x.centre.longitude in
    let m = fits_second x.shape x.a x.b x.angle fits.measures in
    let back : area_from x.shape la lo x.a x.b x.angle ≡ x =
    ap (λ (z : ℤ). record x {
      centre = record { latitude = z; longitude = cast_signed w32 lo };
    }) lat
    ∙ ap (λ (z : ℤ). record x {
      centre = record { latitude = x.centre.latitude; longitude = z };
    }) lon in (
      la,
      _,
      unsigned-lt x.centre.latitude (longitude_from_latitude x.centre.latitude fits.latitude),
      ap latitude_test lat ∙ test_from_latitude x.centre.latitude fits.latitude,
      refl,
      (
        lo,
        _,
        unsigned-lt x.centre.longitude fits.longitude,
        ap longitude_test lon ∙ test_from_longitude x.centre.longitude fits.longitude,
        refl,
        (
          x.a,
          big_bytes 2 x.b ++ big_bytes 2 x.angle,
          fits.a,
          lt-ltb _ _ m.0,
          refl,
          (
            x.b,
            big_bytes 2 x.angle,
            fits.b,
            m.1,
            refl,
            (x.angle, [], m.3, m.2, refl, (back, refl)),
          ),
        ),
      ),
    )

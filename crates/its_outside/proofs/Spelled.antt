-- What the formats of headers spell is their octets.
use Rattle.std.proofs.Common.{◌≡◌, ℕ, zero, suc, ◌+◌, ◌*◌, ◌%◌, ◌^◌, ◌<◌, ◌≤◌, ℤ, List, [], ◌∷◌}
use Rattle.std.proofs.Common.{◌++◌, Bool, true, false, cond, nat_le, refl, sym, ap, subst, ◌∙◌}
use Rattle.std.proofs.Common.{arith}
use Rattle.std.proofs.lemmas.Bool.{eqb-true}
use Rattle.std.proofs.lemmas.Int.{of_z-to_z, ints}
use Rattle.std.specs.Int.{w32, cast_signed, cast_unsigned, byte_at}
use Rattle.byteorder.specs.Endian.{big_bytes}
use Rattle.its_geometry.specs.declared.area.Shape.{Shape}
use Rattle.its_headers.specs.Encoding.{motion, speed_bits}
use Rattle.its_headers.specs.Layout.{speed_of, shape_of}
use Rattle.its_formats.specs.Spells.{Spells}
use Rattle.its_formats.proofs.Found.{one_octet}
use Rattle.its_headers.proofs.FieldTests.{speed_fits, speed_bits-speed_of, speed_bits-lt}
use Rattle.its_headers.proofs.FieldTests.{speed_of-speed_bits, accurate_back, bits_back, motion-lt}
use Rattle.its_outside.specs.declared.fields.BasicNext.{BasicNext}
use Rattle.its_outside.specs.declared.fields.BasicNext.TheVariants as basics
use Rattle.its_outside.specs.declared.fields.NextHeader.{NextHeader}
use Rattle.its_outside.specs.declared.fields.NextHeader.TheVariants as nexts
use Rattle.its_outside.specs.declared.fields.BasicFields.{BasicFields}
use Rattle.its_outside.specs.declared.fields.CommonFields.{CommonFields}
use Rattle.its_outside.specs.declared.fields.LongVector.{LongVector}
use Rattle.its_outside.specs.declared.fields.ShortVector.{ShortVector}
use Rattle.its_outside.specs.declared.fields.Sequence.{Sequence}
use Rattle.its_outside.specs.declared.fields.AreaFields.{AreaFields}
use Rattle.its_outside.specs.Encoding.{basic_code, next_code, basic_octets, common_octets}
use Rattle.its_outside.specs.Encoding.{long_octets, short_octets, sequence_octets, area_octets}
use Rattle.its_outside.specs.Encoding.{IsSigned32, IsBasicFields, IsCommonFields, IsLongVector}
use Rattle.its_outside.specs.Encoding.{IsShortVector, IsSequence, IsAreaFields}
use Rattle.its_outside.specs.Layout.{basic_next_of, next_of, basic_format, is_type, is_subtype}
use Rattle.its_outside.specs.Layout.{is_length, kind_of, Common, types_format, common_format}
use Rattle.its_outside.specs.Layout.{long_format, short_format, sequence_format, area_format}

byte_is : (v : ℕ) → v < 256 → byte_at 0 v ≡ v
byte_is v h = omega arith

-- ---- signed numbers

signed_fits : (n : ℕ) → n < 2 ^ 32 → IsSigned32 (cast_signed w32 n)
signed_fits n h = (omega (arith, ints), omega (arith, ints))

signed_back : (z : ℤ) → IsSigned32 z → cast_signed w32 (cast_unsigned w32 z) ≡ z
signed_back z h = omega (arith, ints)

unsigned-lt : (z : ℤ) → IsSigned32 z → cast_unsigned w32 z < 2 ^ 32
unsigned-lt z h = omega (arith, ints)

-- ---- the Basic Header

basic_named : (n : ℕ) → nat_le n 1 ≡ true → basic_code (basic_next_of n) ≡ n
basic_named zero h = refl
basic_named (suc zero) h = refl
basic_named (suc (suc n)) h = absurd (grind arith)

basic_again : (b : BasicNext) → basic_next_of (basic_code b) ≡ b
basic_again basics.Unspecified = refl
basic_again basics.CommonHeader = refl

basic_small : (b : BasicNext) → (basic_code b < 16) × (nat_le (basic_code b) 1 ≡ true)
basic_small basics.Unspecified = (omega arith, refl)
basic_small basics.CommonHeader = (omega arith, refl)

pub basic_spelled : (b : BasicFields) (s : List ℕ) → Spells basic_format b s
    → IsBasicFields b × (s ≡ basic_octets b)
unfolding basic_format
basic_spelled b s (
  v,
  n,
  t0,
  fv,
  fn,
  rv,
  rn,
  e0,
  (r, t1, fr, rr, e1, (lifetime, t2, fl, rl, e2, (left, t3, fleft, rleft, e3, (is, nil)))),
) =
    let one : v ≡ 1 = eqb-true _ _ rv in
    let named : n ≡ basic_code (basic_next_of n) = sym (basic_named n rn) in
    let text : s ≡ (16 + n) ∷ r ∷ lifetime ∷ left ∷ [] =
    rw (
      e0,
      e1,
      e2,
      e3,
      nil,
      one,
      byte_is r (omega arith),
      byte_is lifetime (omega arith),
      byte_is left (omega arith),
    ) refl in
    subst (λ b. IsBasicFields b × (s ≡ basic_octets b)) is (
      record { reserved = omega arith; lifetime = omega arith; left = omega arith },
      text ∙ ap (λ (x : ℕ). (16 + x) ∷ r ∷ lifetime ∷ left ∷ []) named,
    )

pub spells_basic : (b : BasicFields) → IsBasicFields b → Spells basic_format b (basic_octets b)
unfolding basic_format
spells_basic b fits = let small = basic_small b.next in (
  1,
  basic_code b.next,
  b.reserved ∷ b.lifetime ∷ b.left ∷ [],
  omega arith,
  small.0,
  refl,
  small.1,
  refl,
  (
    b.reserved,
    b.lifetime ∷ b.left ∷ [],
    omega (arith, fits.reserved),
    refl,
    ap (λ (t : List ℕ). t ++ b.lifetime ∷ b.left ∷ []) (sym (one_octet b.reserved fits.reserved)),
    (
      b.lifetime,
      b.left ∷ [],
      omega (arith, fits.lifetime),
      refl,
      ap (λ (t : List ℕ). t ++ b.left ∷ []) (sym (one_octet b.lifetime fits.lifetime)),
      (
        b.left,
        [],
        omega (arith, fits.left),
        refl,
        sym (one_octet b.left fits.left),
        (ap (λ (x : BasicNext). record b { next = x }) (basic_again b.next), refl),
      ),
    ),
  ),
)

-- ---- the Common Header

next_named : (n : ℕ) → nat_le n 3 ≡ true → next_code (next_of n) ≡ n
next_named zero h = refl
next_named (suc zero) h = refl
next_named (suc (suc zero)) h = refl
next_named (suc (suc (suc zero))) h = refl
next_named (suc (suc (suc (suc n)))) h = absurd (grind arith)

next_again : (n : NextHeader) → next_of (next_code n) ≡ n
next_again nexts.Unspecified = refl
next_again nexts.BtpA = refl
next_again nexts.BtpB = refl
next_again nexts.Ipv6 = refl

next_small : (n : NextHeader) → (next_code n < 16) × (nat_le (next_code n) 3 ≡ true)
next_small nexts.Unspecified = (omega arith, refl)
next_small nexts.BtpA = (omega arith, refl)
next_small nexts.BtpB = (omega arith, refl)
next_small nexts.Ipv6 = (omega arith, refl)

flags_back : (f : ℕ) → f < 256 → f ≡ cond (nat_le 128 f) 128 0 + f % 128
flags_back f h = grind arith

-- what stands in the octets of a Common Header
pub record IsCommon (left : ℕ) (c : Common) (s : List ℕ) : Type 0 where
  pub type : ℕ
  pub subtype : ℕ
  pub fields : IsCommonFields left c.fields
  pub small : subtype < 16
  pub type_is : is_type type ≡ true
  pub subtype_is : is_subtype type subtype ≡ true
  pub length_is : is_length type c.length ≡ true
  pub size : c.length < 2 ^ 16
  pub kind : c.kind ≡ kind_of type subtype
  pub shape : c.shape ≡ shape_of subtype
  pub octets : s ≡ common_octets c.fields (16 * type + subtype) c.length

common_text : (n n' r t class f f' size max z : ℕ) → n ≡ n' → f ≡ f'
    → (16 * n + r) ∷ t ∷ class ∷ f ∷ (big_bytes 2 size ++ max ∷ z ∷ []) ≡ (16 * n' + r) ∷ t ∷ class
    ∷ f' ∷ (big_bytes 2 size ++ max ∷ z ∷ [])
common_text n n' r t class f f' size max z e0 e1 = rw (e0, e1) refl

pub common_spelled : (left : ℕ) (c : Common) (s : List ℕ) → Spells (common_format left) c s
    → IsCommon left c s
unfolding types_format
common_spelled left c s (
  n,
  r,
  t0,
  fn,
  fr,
  rn,
  rr,
  e0,
  (
    t,
    u,
    t1,
    ft,
    fu,
    rt,
    ru,
    e1,
    (
      class,
      t2,
      fc,
      rc,
      e2,
      (
        flags,
        t3,
        ff,
        rf,
        e3,
        (size, t4, fs, rs, e4, (max, t5, fm, rm, e5, (z, t6, fz, rz, e6, (is, nil)))),
      ),
    ),
  ),
) =
    let text : s ≡ (16 * n + r) ∷ (16 * t + u) ∷ class ∷ flags
    ∷ (big_bytes 2 size ++ max ∷ z ∷ []) =
    rw (
      e0,
      e1,
      e2,
      e3,
      e4,
      e5,
      e6,
      nil,
      byte_is class (omega arith),
      byte_is flags (omega arith),
      byte_is max (omega arith),
      byte_is z (omega arith),
    ) refl in
    let named : n ≡ next_code (next_of n) = sym (next_named n rn) in
    subst (λ c. IsCommon left c s) is (record {
      type = t;
      subtype = u;
      fields = record {
        next_reserved = fr;
        class = omega arith;
        flags_reserved = omega arith;
        max_hops = omega arith;
        left_below = grind arith;
        reserved = omega arith;
      };
      small = fu;
      type_is = rt;
      subtype_is = ru;
      length_is = rs;
      size = omega arith;
      kind = refl;
      shape = refl;
      octets = text
          ∙ common_text n _ r (16 * t + u) class flags _ size max z named
          (flags_back flags (omega arith));
    })

-- the flags of a packet
record IsFlags (f : ℕ) (mobile : Bool) (reserved : ℕ) : Type 0 where
  pub fits : f < 256
  pub says : nat_le 128 f ≡ mobile
  pub others : f % 128 ≡ reserved

flags_of : (mobile : Bool) (r : ℕ) → r < 128 → IsFlags (cond mobile 128 0 + r) mobile r
flags_of true r h = record { fits = omega arith; says = grind arith; others = omega arith }
flags_of false r h = record { fits = omega arith; says = grind arith; others = omega arith }

le_test : (m n : ℕ) → m ≤ n → nat_le m n ≡ true
le_test m n h = grind arith

-- a Common Header of this type, with a payload of so many octets
abbrev pub common_with : CommonFields → ℕ → ℕ → ℕ → Common
common_with c t u size =
    record { fields = c; kind = kind_of t u; shape = shape_of u; length = size }

common_same : (c : CommonFields) (t u size f : ℕ) → IsFlags f c.mobile c.flags_reserved
    → (let x : Common = record {
      fields = record {
        next = next_of (next_code c.next);
        next_reserved = c.next_reserved;
        class = c.class;
        mobile = nat_le 128 f;
        flags_reserved = f % 128;
        max_hops = c.max_hops;
        reserved = c.reserved;
      };
      kind = kind_of t u;
      shape = shape_of u;
      length = size;
    } in x) ≡ common_with c t u size
common_same c t u size f flags =
    ap (λ (x : NextHeader). common_with (record c {
      next = x;
      mobile = nat_le 128 f;
      flags_reserved = f % 128;
    }) t u size) (next_again c.next)
    ∙ ap (λ (x : Bool). common_with (record c {
      mobile = x;
      flags_reserved = f % 128;
    }) t u size) flags.says
    ∙ ap (λ (x : ℕ). common_with (record c { flags_reserved = x }) t u size) flags.others

pub spells_common : (left : ℕ) (c : CommonFields) (t u size : ℕ) → IsCommonFields left c
    → t < 16 → u < 16 → is_type t ≡ true → is_subtype t u ≡ true → size < 2 ^ 16
    → is_length t size ≡ true
    → Spells (common_format left) (common_with c t u size) (common_octets c (16 * t + u) size)
unfolding types_format
spells_common left c t u size fits ft fu rt ru fs rs =
    let next = next_small c.next in
    let f : ℕ = cond c.mobile 128 0 + c.flags_reserved in
    let flags : IsFlags f c.mobile c.flags_reserved =
    flags_of c.mobile c.flags_reserved fits.flags_reserved in (
      next_code c.next,
      c.next_reserved,
      (16 * t + u) ∷ c.class ∷ f ∷ (big_bytes 2 size ++ c.max_hops ∷ c.reserved ∷ []),
      next.0,
      fits.next_reserved,
      next.1,
      refl,
      refl,
      (
        t,
        u,
        c.class ∷ f ∷ (big_bytes 2 size ++ c.max_hops ∷ c.reserved ∷ []),
        ft,
        fu,
        rt,
        ru,
        refl,
        (
          c.class,
          f ∷ (big_bytes 2 size ++ c.max_hops ∷ c.reserved ∷ []),
          omega (arith, fits.class),
          refl,
          ap (λ (t : List ℕ). t ++ f ∷ (big_bytes 2 size ++ c.max_hops ∷ c.reserved ∷ []))
              (sym (one_octet c.class fits.class)),
          (
            f,
            big_bytes 2 size ++ c.max_hops ∷ c.reserved ∷ [],
            omega (arith, flags.fits),
            refl,
            ap (λ (t : List ℕ). t ++ (big_bytes 2 size ++ c.max_hops ∷ c.reserved ∷ []))
                (sym (one_octet f flags.fits)),
            (
              size,
              c.max_hops ∷ c.reserved ∷ [],
              omega arith,
              rs,
              refl,
              (
                c.max_hops,
                c.reserved ∷ [],
                omega (arith, fits.max_hops),
                le_test left c.max_hops fits.left_below,
                ap (λ (t : List ℕ). t ++ c.reserved ∷ [])
                    (sym (one_octet c.max_hops fits.max_hops)),
                (
                  c.reserved,
                  [],
                  omega (arith, fits.reserved),
                  refl,
                  sym (one_octet c.reserved fits.reserved),
                  (common_same c t u size f flags, refl),
                ),
              ),
            ),
          ),
        ),
      ),
    )

-- ---- position vectors

motion_back : (m : ℕ) → m < 2 ^ 16 → motion (nat_le (2 ^ 15) m) (speed_of (m % 2 ^ 15)) ≡ m
motion_back m h = let e = speed_bits-speed_of (m % 2 ^ 15) (omega arith) in rw e (grind arith)

pub long_spelled : (v : LongVector) (s : List ℕ) → Spells long_format v s
    → IsLongVector v × (s ≡ long_octets v)
unfolding long_format
long_spelled v s (
  a,
  t0,
  fa,
  ra,
  e0,
  (
    t,
    t1,
    ft,
    rt,
    e1,
    (
      la,
      t2,
      fla,
      rla,
      e2,
      (lo, t3, flo, rlo, e3, (m, t4, fm, rm, e4, (h, t5, fh, rh, e5, (is, nil)))),
    ),
  ),
) =
    let text : s ≡ big_bytes 8 a ++ big_bytes 4 t ++ big_bytes 4 la ++ big_bytes 4 lo
    ++ big_bytes 2 m ++ big_bytes 2 h = rw (e0, e1, e2, e3, e4, e5, nil) refl in
    let same : big_bytes 8 a ++ big_bytes 4 t ++ big_bytes 4 la ++ big_bytes 4 lo ++ big_bytes 2 m
    ++ big_bytes 2 h ≡ big_bytes 8 a ++ big_bytes 4 t
    ++ big_bytes 4 (cast_unsigned w32 (cast_signed w32 la))
    ++ big_bytes 4 (cast_unsigned w32 (cast_signed w32 lo))
    ++ big_bytes 2 (motion (nat_le (2 ^ 15) m) (speed_of (m % 2 ^ 15))) ++ big_bytes 2 h =
    ap (λ (x : ℕ). big_bytes 8 a ++ big_bytes 4 t ++ big_bytes 4 x ++ big_bytes 4 lo
    ++ big_bytes 2 m ++ big_bytes 2 h) (sym (of_z-to_z w32 la (omega arith)))
    ∙ ap (λ (x : ℕ). big_bytes 8 a ++ big_bytes 4 t
    ++ big_bytes 4 (cast_unsigned w32 (cast_signed w32 la)) ++ big_bytes 4 x ++ big_bytes 2 m
    ++ big_bytes 2 h) (sym (of_z-to_z w32 lo (omega arith)))
    ∙ ap (λ (x : ℕ). big_bytes 8 a ++ big_bytes 4 t
    ++ big_bytes 4 (cast_unsigned w32 (cast_signed w32 la))
    ++ big_bytes 4 (cast_unsigned w32 (cast_signed w32 lo)) ++ big_bytes 2 x ++ big_bytes 2 h)
    (sym (motion_back m (omega arith))) in
    subst (λ v. IsLongVector v × (s ≡ long_octets v)) is (
      record {
        address = omega arith;
        timestamp = omega arith;
        latitude = signed_fits la (omega arith);
        longitude = signed_fits lo (omega arith);
        speed = speed_fits (m % 2 ^ 15) (omega arith);
        heading = omega arith;
      },
      text ∙ same,
    )

long_back : (v : LongVector) → IsLongVector v
    → (let x : LongVector = record {
      address = v.address;
      timestamp = v.timestamp;
      latitude = cast_signed w32 (cast_unsigned w32 v.latitude);
      longitude = cast_signed w32 (cast_unsigned w32 v.longitude);
      accurate = nat_le (2 ^ 15) (motion v.accurate v.speed);
      speed = speed_of (motion v.accurate v.speed % 2 ^ 15);
      heading = v.heading;
    } in x) ≡ v
long_back v fits =
    let lt = speed_bits-lt v.speed fits.speed in
    let accurate = accurate_back v.accurate (speed_bits v.speed) lt in
    let bits = bits_back v.accurate (speed_bits v.speed) lt in
    let speed : speed_of (motion v.accurate v.speed % 2 ^ 15) ≡ v.speed =
    ap speed_of bits ∙ speed_of-speed_bits v.speed fits.speed in
    ap (λ (x : ℤ). record v {
      latitude = x;
      longitude = cast_signed w32 (cast_unsigned w32 v.longitude);
      accurate = nat_le (2 ^ 15) (motion v.accurate v.speed);
      speed = speed_of (motion v.accurate v.speed % 2 ^ 15);
    }) (signed_back v.latitude fits.latitude)
    ∙ ap (λ (x : ℤ). record v {
      longitude = x;
      accurate = nat_le (2 ^ 15) (motion v.accurate v.speed);
      speed = speed_of (motion v.accurate v.speed % 2 ^ 15);
    }) (signed_back v.longitude fits.longitude)
    ∙ ap (λ (x : Bool). record v {
      accurate = x;
      speed = speed_of (motion v.accurate v.speed % 2 ^ 15);
    }) accurate
    ∙ ap (λ (x : ℤ). record v { speed = x }) speed

pub spells_long : (v : LongVector) → IsLongVector v → Spells long_format v (long_octets v)
unfolding long_format
spells_long v fits =
    let la = cast_unsigned w32 v.latitude in
    let lo = cast_unsigned w32 v.longitude in
    let m = motion v.accurate v.speed in (
      v.address,
      _,
      fits.address,
      refl,
      refl,
      (
        v.timestamp,
        _,
        fits.timestamp,
        refl,
        refl,
        (
          la,
          _,
          unsigned-lt v.latitude fits.latitude,
          refl,
          refl,
          (
            lo,
            _,
            unsigned-lt v.longitude fits.longitude,
            refl,
            refl,
            (
              m,
              big_bytes 2 v.heading,
              motion-lt v.accurate (speed_bits v.speed) (speed_bits-lt v.speed fits.speed),
              refl,
              refl,
              (v.heading, [], fits.heading, refl, refl, (long_back v fits, refl)),
            ),
          ),
        ),
      ),
    )

pub short_spelled : (v : ShortVector) (s : List ℕ) → Spells short_format v s
    → IsShortVector v × (s ≡ short_octets v)
unfolding short_format
short_spelled v s (
  a,
  t0,
  fa,
  ra,
  e0,
  (t, t1, ft, rt, e1, (la, t2, fla, rla, e2, (lo, t3, flo, rlo, e3, (is, nil)))),
) =
    let text : s ≡ big_bytes 8 a ++ big_bytes 4 t ++ big_bytes 4 la ++ big_bytes 4 lo =
    rw (e0, e1, e2, e3, nil) refl in
    let same : big_bytes 8 a ++ big_bytes 4 t ++ big_bytes 4 la ++ big_bytes 4 lo ≡ big_bytes 8 a
    ++ big_bytes 4 t ++ big_bytes 4 (cast_unsigned w32 (cast_signed w32 la))
    ++ big_bytes 4 (cast_unsigned w32 (cast_signed w32 lo)) =
    ap (λ (x : ℕ). big_bytes 8 a ++ big_bytes 4 t ++ big_bytes 4 x ++ big_bytes 4 lo)
    (sym (of_z-to_z w32 la (omega arith)))
    ∙ ap (λ (x : ℕ). big_bytes 8 a ++ big_bytes 4 t
    ++ big_bytes 4 (cast_unsigned w32 (cast_signed w32 la)) ++ big_bytes 4 x)
    (sym (of_z-to_z w32 lo (omega arith))) in
    subst (λ v. IsShortVector v × (s ≡ short_octets v)) is (
      record {
        address = omega arith;
        timestamp = omega arith;
        latitude = signed_fits la (omega arith);
        longitude = signed_fits lo (omega arith);
      },
      text ∙ same,
    )

pub spells_short : (v : ShortVector) → IsShortVector v → Spells short_format v (short_octets v)
unfolding short_format
spells_short v fits =
    let la = cast_unsigned w32 v.latitude in
    let lo = cast_unsigned w32 v.longitude in (
      v.address,
      _,
      fits.address,
      refl,
      refl,
      (
        v.timestamp,
        _,
        fits.timestamp,
        refl,
        refl,
        (
          la,
          big_bytes 4 lo,
          unsigned-lt v.latitude fits.latitude,
          refl,
          refl,
          (
            lo,
            [],
            unsigned-lt v.longitude fits.longitude,
            refl,
            refl,
            (
              ap (λ (x : ℤ). record v {
                latitude = x;
                longitude = cast_signed w32 lo;
              }) (signed_back v.latitude fits.latitude)
                  ∙ ap (λ (x : ℤ). record v { longitude = x })
                  (signed_back v.longitude fits.longitude),
              refl,
            ),
          ),
        ),
      ),
    )

-- ---- sequence numbers and areas

pub sequence_spelled : (q : Sequence) (s : List ℕ) → Spells sequence_format q s
    → IsSequence q × (s ≡ sequence_octets q)
unfolding sequence_format
sequence_spelled q s (n, t0, fn, rn, e0, (r, t1, fr, rr, e1, (is, nil))) =
    let text : s ≡ big_bytes 2 n ++ big_bytes 2 r = rw (e0, e1, nil) refl in
    subst (λ q. IsSequence q × (s ≡ sequence_octets q)) is (
      record { number = omega arith; reserved = omega arith },
      text,
    )

pub spells_sequence : (q : Sequence) → IsSequence q → Spells sequence_format q (sequence_octets q)
unfolding sequence_format
spells_sequence q fits = (
  q.number,
  big_bytes 2 q.reserved,
  fits.number,
  refl,
  refl,
  (q.reserved, [], fits.reserved, refl, refl, (refl, refl)),
)

pub area_spelled : (shape : Shape) (x : AreaFields) (s : List ℕ) → Spells (area_format shape) x s
    → (IsAreaFields x × (x.shape ≡ shape)) × (s ≡ area_octets x)
unfolding area_format
area_spelled shape x s (
  la,
  t0,
  fla,
  rla,
  e0,
  (
    lo,
    t1,
    flo,
    rlo,
    e1,
    (
      a,
      t2,
      fa,
      ra,
      e2,
      (b, t3, fb, rb, e3, (g, t4, fg, rg, e4, (r, t5, fr, rr, e5, (is, nil)))),
    ),
  ),
) =
    let text : s ≡ big_bytes 4 la ++ big_bytes 4 lo ++ big_bytes 2 a ++ big_bytes 2 b
    ++ big_bytes 2 g ++ big_bytes 2 r = rw (e0, e1, e2, e3, e4, e5, nil) refl in
    let same : big_bytes 4 la ++ big_bytes 4 lo ++ big_bytes 2 a ++ big_bytes 2 b ++ big_bytes 2 g
    ++ big_bytes 2 r ≡ big_bytes 4 (cast_unsigned w32 (cast_signed w32 la))
    ++ big_bytes 4 (cast_unsigned w32 (cast_signed w32 lo)) ++ big_bytes 2 a ++ big_bytes 2 b
    ++ big_bytes 2 g ++ big_bytes 2 r =
    ap (λ (x : ℕ). big_bytes 4 x ++ big_bytes 4 lo ++ big_bytes 2 a ++ big_bytes 2 b
    ++ big_bytes 2 g ++ big_bytes 2 r) (sym (of_z-to_z w32 la (omega arith)))
    ∙ ap (λ (x : ℕ). big_bytes 4 (cast_unsigned w32 (cast_signed w32 la)) ++ big_bytes 4 x
    ++ big_bytes 2 a ++ big_bytes 2 b ++ big_bytes 2 g ++ big_bytes 2 r)
    (sym (of_z-to_z w32 lo (omega arith))) in
    subst (λ x. (IsAreaFields x × (x.shape ≡ shape)) × (s ≡ area_octets x)) is (
      (
        record {
          latitude = signed_fits la (omega arith);
          longitude = signed_fits lo (omega arith);
          a = omega arith;
          b = omega arith;
          angle = omega arith;
          reserved = omega arith;
        },
        refl,
      ),
      text ∙ same,
    )

pub spells_area : (x : AreaFields) → IsAreaFields x → Spells (area_format x.shape) x (area_octets x)
unfolding area_format
spells_area x fits =
    let la = cast_unsigned w32 x.latitude in
    let lo = cast_unsigned w32 x.longitude in (
      la,
      _,
      unsigned-lt x.latitude fits.latitude,
      refl,
      refl,
      (
        lo,
        _,
        unsigned-lt x.longitude fits.longitude,
        refl,
        refl,
        (
          x.a,
          _,
          fits.a,
          refl,
          refl,
          (
            x.b,
            _,
            fits.b,
            refl,
            refl,
            (
              x.angle,
              big_bytes 2 x.reserved,
              fits.angle,
              refl,
              refl,
              (
                x.reserved,
                [],
                fits.reserved,
                refl,
                refl,
                (
                  ap (λ (z : ℤ). record x {
                    latitude = z;
                    longitude = cast_signed w32 lo;
                  }) (signed_back x.latitude fits.latitude)
                      ∙ ap (λ (z : ℤ). record x { longitude = z })
                      (signed_back x.longitude fits.longitude),
                  refl,
                ),
              ),
            ),
          ),
        ),
      ),
    )

-- The format of a packet spells the encodings of packets, and nothing else.
use Rattle.std.proofs.Common.{◌≡◌, ℕ, zero, suc, ◌+◌, ◌*◌, ◌%◌, ◌^◌, ◌<◌, ◌≤◌, List, [], ◌∷◌, ◌++◌}
use Rattle.std.proofs.Common.{length, take, drop, Bool, true, false, cond, eqb, nat_le, refl, sym}
use Rattle.std.proofs.Common.{ap, subst, ◌∙◌, arith, append_assoc, length-drop, ◌⊎◌, inl, inr}
use Rattle.std.proofs.lemmas.Bool.{ltb-true, lt-ltb, eqb-true}
use Rattle.std.proofs.lemmas.List.{append-nil, take-append-drop, drop-drop}
use Rattle.std.specs.Int.{byte_at}
use Rattle.byteorder.specs.Endian.{big_number, big_bytes}
use Rattle.byteorder.specs.Numbers.{big_number-reads_back, big_from-lt}
use Rattle.its_faults.specs.declared.packet.FaultKind.{FaultKind}
use Rattle.its_gnvalue.specs.Values.{PositionVector}
use Rattle.its_geometry.specs.declared.area.Shape.{Shape}
use Rattle.its_geometry.specs.declared.area.Shape.TheVariants.{Circle, Rectangle, Ellipse}
use Rattle.its_headers.specs.declared.kind.Kind.{Kind}
use Rattle.its_headers.specs.declared.kind.Kind.TheVariants.{Beacon, Shb, Gbc, Gac}
use Rattle.its_geometry.specs.Area.{GeoArea}
use Rattle.its_model.specs.Packet.{Pdu, Body, beacon, shb, gbc, gac, AreaKind, geobroadcast}
use Rattle.its_model.specs.Packet.{geoanycast, area_body, Message}
use Rattle.its_headers.specs.Encoding.{IsVector, IsArea, IsBody, IsMessage, IsBytes, IsPacket}
use Rattle.its_headers.specs.Encoding.{Encodes, vector_octets, area_octets, message_octets}
use Rattle.its_headers.specs.Encoding.{basic_header, common_header, extended_header, encoding}
use Rattle.its_headers.specs.Encoding.{area_packet_octets, common_next, header_type, payload_length}
use Rattle.its_headers.specs.Encoding.{shape_code}
use Rattle.its_formats.specs.Format.{after, ends, octets}
use Rattle.its_headers.specs.Format.{Format}
use Rattle.its_headers.specs.Layout.{Common, basic_format, basic_format_of, type_format}
use Rattle.its_headers.specs.Layout.{common_format}
use Rattle.its_headers.specs.Layout.{vector_format, area_format, beacon_format, body_format}
use Rattle.its_headers.specs.Layout.{packet_format, is_next, is_type, is_subtype, is_length}
use Rattle.its_headers.specs.Layout.{kind_of, shape_of, next_of, type_of, shb_format}
use Rattle.its_headers.specs.Layout.{area_packet_format, area_packet_rest}
use Rattle.its_headers.specs.Fields.{message_of, IsLength, kind_of_body, shape_of_body}
use Rattle.its_formats.specs.Spells.{Spells}
use Rattle.its_formats.proofs.Spells.{Spells-after, after-Spells}
use Rattle.its_headers.proofs.Spelled.{vector_spelled, spells_vector, area_spelled, spells_area}
use Rattle.its_formats.proofs.Numbers.{IsBytes-drop, IsBytes-append, IsBytes-big_bytes}
use Rattle.its_formats.proofs.Numbers.{big_bytes-big_number}
use Rattle.its_formats.proofs.Found.{one_octet}

byte_is : (v : ℕ) → v < 256 → byte_at 0 v ≡ v
byte_is v h = omega arith

-- ---- the basic header

pub record IsBasic (next : ℕ) (x : ℕ × ℕ) (s : List ℕ) : Type 0 where
  pub lifetime : x.0 < 256
  pub some_left : 0 < x.1
  pub left : x.1 < 256
  pub octets : s ≡ (16 + next) ∷ 0 ∷ x.0 ∷ x.1 ∷ []

pub basic_spelled : (next : ℕ) (x : ℕ × ℕ) (s : List ℕ) → Spells (basic_format_of next) x s
    → IsBasic next x s
unfolding basic_format_of
basic_spelled next x s (
  v,
  n,
  t0,
  fv,
  fn,
  rv,
  rn,
  e0,
  (z, t1, fz, rz, e1, (lifetime, t2, fl, rl, e2, (left, t3, fleft, rleft, e3, (is, nil)))),
) =
    let one : v ≡ 1 = eqb-true _ _ rv in
    let named : n ≡ next = eqb-true _ _ rn in
    let none : z ≡ 0 = eqb-true _ _ rz in
    let text : s ≡ (16 + next) ∷ 0 ∷ lifetime ∷ left ∷ [] =
    rw (
      e0,
      e1,
      e2,
      e3,
      nil,
      one,
      named,
      none,
      byte_is lifetime (omega arith),
      byte_is left (omega arith),
    ) refl in
    subst (λ x. IsBasic next x s) is (record {
      lifetime = omega arith;
      some_left = ltb-true _ _ rleft;
      left = omega arith;
      octets = text;
    })

pub spells_basic : (next : ℕ) (x : ℕ × ℕ) → next < 16 → eqb next next ≡ true → x.0 < 256 → 0 < x.1
    → x.1 < 256 → Spells (basic_format_of next) x ((16 + next) ∷ 0 ∷ x.0 ∷ x.1 ∷ [])
unfolding basic_format_of
spells_basic next x small same fl some fleft = (
  1,
  next,
  0 ∷ x.0 ∷ x.1 ∷ [],
  omega arith,
  omega arith,
  refl,
  same,
  refl,
  (
    0,
    x.0 ∷ x.1 ∷ [],
    omega arith,
    refl,
    refl,
    (
      x.0,
      x.1 ∷ [],
      omega arith,
      refl,
      ap (λ (t : List ℕ). t ++ x.1 ∷ []) (sym (one_octet x.0 fl)),
      (x.1, [], omega arith, lt-ltb _ _ some, sym (one_octet x.1 fleft), (refl, refl)),
    ),
  ),
)

-- ---- the common header

-- only a geobroadcast and a geoanycast have a sub-type other than 0
abbrev pub IsSubtype : Kind → Shape → Type 0
IsSubtype Beacon shape = shape ≡ Circle
IsSubtype Shb shape = shape ≡ Circle
IsSubtype Gbc shape = Unit {0}
IsSubtype Gac shape = Unit {0}

abbrev pub type_octet : Kind → Shape → ℕ
type_octet kind shape = 16 * type_of kind + shape_code shape

abbrev pub common_octets : Common → List ℕ
common_octets c =
    (16 * next_of c.kind) ∷ type_octet c.kind c.shape ∷ c.class ∷ cond c.mobile 128 0
    ∷ (big_bytes 2 c.length ++ c.max_hops ∷ 0 ∷ [])

pub record IsCommon (left : ℕ) (c : Common) (s : List ℕ) : Type 0 where
  pub class : c.class < 256
  pub max_hops : c.max_hops < 256
  pub left_below : left ≤ c.max_hops
  pub shape : IsSubtype c.kind c.shape
  pub size : IsLength c.kind c.length
  pub octets : s ≡ common_octets c

-- the next header and the header type of a kind
pub record IsKind (n t : ℕ) (kind : Kind) : Type 0 where
  pub next : n ≡ next_of kind
  pub type : t ≡ type_of kind
  pub kind_is : kind_of t ≡ kind

types : (n t : ℕ) → is_next n ≡ true → is_type n t ≡ true
    → ((n ≡ 0) × (t ≡ 1)) ⊎ ((n ≡ 2) × (t ≡ 5)) ⊎ ((n ≡ 2) × (t ≡ 4)) ⊎ ((n ≡ 2) × (t ≡ 3))
types n t hn ht = grind arith

kind_is : (n t : ℕ) → is_next n ≡ true → is_type n t ≡ true → (kind : Kind) × IsKind n t kind
kind_is n t hn ht =
    elim (types n t hn ht) [
      | inl p ↦ (Beacon, record { next = p.0; type = p.1; kind_is = rw (p.1) refl })
      | inr q ↦ elim q [
        | inl p ↦ (Shb, record { next = p.0; type = p.1; kind_is = rw (p.1) refl })
        | inr r ↦ elim r [
          | inl p ↦ (Gbc, record { next = p.0; type = p.1; kind_is = rw (p.1) refl })
          | inr p ↦ (Gac, record { next = p.0; type = p.1; kind_is = rw (p.1) refl })
        ]
      ]
    ]

flags_back : (f : ℕ) → f < 256 → eqb (f % 128) 0 ≡ true → f ≡ cond (nat_le 128 f) 128 0
flags_back f h e = grind arith

length_is : (kind : Kind) (n : ℕ) → is_length (type_of kind) n ≡ true → IsLength kind n
length_is Beacon n h = eqb-true _ _ h
length_is Shb n h = (grind arith, grind arith)
length_is Gbc n h = (grind arith, grind arith)
length_is Gac n h = (grind arith, grind arith)

size_test : (kind : Kind) (n : ℕ) → IsLength kind n → is_length (type_of kind) n ≡ true
size_test Beacon n h = rw h refl
size_test Shb n h = grind arith
size_test Gbc n h = grind arith
size_test Gac n h = grind arith

-- the sub-type that is read is that of the shape
subtype_is : (kind : Kind) (u : ℕ) → is_subtype (type_of kind) u ≡ true
    → IsSubtype kind (shape_of u) × (u ≡ shape_code (shape_of u))
subtype_is Beacon u h = let e : u ≡ 0 = eqb-true _ _ h in rw e (refl, refl)
subtype_is Shb u h = let e : u ≡ 0 = eqb-true _ _ h in rw e (refl, refl)
subtype_is Gbc zero h = (tt, refl)
subtype_is Gbc (suc zero) h = (tt, refl)
subtype_is Gbc (suc (suc zero)) h = (tt, refl)
subtype_is Gbc (suc (suc (suc u))) h = absurd (grind arith)
subtype_is Gac zero h = (tt, refl)
subtype_is Gac (suc zero) h = (tt, refl)
subtype_is Gac (suc (suc zero)) h = (tt, refl)
subtype_is Gac (suc (suc (suc u))) h = absurd (grind arith)

subtype_test : (kind : Kind) (shape : Shape) → IsSubtype kind shape
    → is_subtype (type_of kind) (shape_code shape) ≡ true
subtype_test Beacon shape h = rw h refl
subtype_test Shb shape h = rw h refl
subtype_test Gbc Circle h = refl
subtype_test Gbc Rectangle h = refl
subtype_test Gbc Ellipse h = refl
subtype_test Gac Circle h = refl
subtype_test Gac Rectangle h = refl
subtype_test Gac Ellipse h = refl

shape_back : (shape : Shape) → shape_of (shape_code shape) ≡ shape
shape_back Circle = refl
shape_back Rectangle = refl
shape_back Ellipse = refl

shape_code-lt : (shape : Shape) → shape_code shape < 16
shape_code-lt Circle = omega arith
shape_code-lt Rectangle = omega arith
shape_code-lt Ellipse = omega arith

type_of-lt : (kind : Kind) → type_of kind < 16
type_of-lt Beacon = omega arith
type_of-lt Shb = omega arith
type_of-lt Gbc = omega arith
type_of-lt Gac = omega arith

next_of-lt : (kind : Kind) → next_of kind < 16
next_of-lt Beacon = omega arith
next_of-lt Shb = omega arith
next_of-lt Gbc = omega arith
next_of-lt Gac = omega arith

common_text : (n n' t t' class f f' size max : ℕ) → 16 * n + 0 ≡ n' → t ≡ t' → f ≡ f'
    → (16 * n + 0) ∷ t ∷ class ∷ f ∷ (big_bytes 2 size ++ max ∷ 0 ∷ []) ≡ n' ∷ t' ∷ class ∷ f'
    ∷ (big_bytes 2 size ++ max ∷ 0 ∷ [])
common_text n n' t t' class f f' size max e0 e1 e2 = rw (e0, e1, e2) refl

pub common_spelled : (left : ℕ) (c : Common) (s : List ℕ) → Spells (common_format left) c s
    → IsCommon left c s
unfolding type_format common_format
common_spelled left c s (
  n,
  r,
  t0,
  fn,
  fr,
  rn,
  rr,
  e0,
  (
    t,
    u,
    t1,
    ft,
    fu,
    rt,
    ru,
    e1,
    (
      class,
      t2,
      fc,
      rc,
      e2,
      (
        flags,
        t3,
        ff,
        rf,
        e3,
        (size, t4, fs, rs, e4, (max, t5, fm, rm, e5, (z, t6, fz, rz, e6, (is, nil)))),
      ),
    ),
  ),
) =
    let r0 : r ≡ 0 = eqb-true _ _ rr in
    let z0 : z ≡ 0 = eqb-true _ _ rz in
    let k = kind_is n t rn rt in
    let typed : t ≡ type_of k.0 = k.1.type in
    let sub = subtype_is k.0 u (subst (λ (x : ℕ). is_subtype x u ≡ true) typed ru) in
    let text : s ≡ (16 * n + 0) ∷ (16 * t + u) ∷ class ∷ flags
    ∷ (big_bytes 2 size ++ max ∷ 0 ∷ []) =
    rw (
      e0,
      e1,
      e2,
      e3,
      e4,
      e5,
      e6,
      nil,
      r0,
      z0,
      byte_is class (omega arith),
      byte_is flags (omega arith),
      byte_is max (omega arith),
    ) refl in
    let flagged : flags ≡ cond (nat_le 128 flags) 128 0 = flags_back flags (omega arith) rf in
    let made : Common =
    record {
      kind = k.0;
      shape = shape_of u;
      class = class;
      mobile = nat_le 128 flags;
      length = size;
      max_hops = max;
    } in
    let next : 16 * n + 0 ≡ 16 * next_of k.0 = omega (arith, k.1.next) in
    let type : 16 * t + u ≡ 16 * type_of k.0 + shape_code (shape_of u) =
    omega (arith, typed, sub.1) in
    let same : (16 * n + 0) ∷ (16 * t + u) ∷ class ∷ flags
    ∷ (big_bytes 2 size ++ max ∷ 0 ∷ []) ≡ common_octets made =
    common_text n _ _ _ class flags _ size max next type flagged in
    let fits : IsCommon left made s =
    record {
      class = omega arith;
      max_hops = omega arith;
      left_below = grind arith;
      shape = sub.0;
      size = length_is k.0 size (subst (λ (x : ℕ). is_length x size ≡ true) typed rs);
      octets = text ∙ same;
    } in
    let back : (let x : Common = record {
      kind = kind_of t;
      shape = shape_of u;
      class = class;
      mobile = nat_le 128 flags;
      length = size;
      max_hops = max;
    } in x) ≡ made = ap (λ (x : Kind). record made { kind = x }) k.1.kind_is in
    subst (λ c. IsCommon left c s) (sym back ∙ is) fits

type_test : (kind : Kind)
    → (is_next (next_of kind) ≡ true) × (is_type (next_of kind) (type_of kind) ≡ true)
    × (kind_of (type_of kind) ≡ kind)
type_test Beacon = (refl, refl, refl)
type_test Shb = (refl, refl, refl)
type_test Gbc = (refl, refl, refl)
type_test Gac = (refl, refl, refl)

-- the flags of a packet
pub record IsFlags (f : ℕ) (mobile : Bool) : Type 0 where
  pub fits : f < 256
  pub reserved : eqb (f % 128) 0 ≡ true
  pub says : nat_le 128 f ≡ mobile

flags_of : (mobile : Bool) → IsFlags (cond mobile 128 0) mobile
flags_of true = record { fits = omega arith; reserved = refl; says = refl }
flags_of false = record { fits = omega arith; reserved = refl; says = refl }

spells_common_with : (left f class size max : ℕ) (kind : Kind) (shape : Shape) (mobile : Bool)
    → IsSubtype kind shape → IsFlags f mobile
    → class < 256 → max < 256 → left ≤ max → size < 2 ^ 16 → IsLength kind size
    → Spells (common_format left) (record {
      kind = kind;
      shape = shape;
      class = class;
      mobile = mobile;
      length = size;
      max_hops = max;
    })
    ((16 * next_of kind + 0) ∷ (16 * type_of kind + shape_code shape) ∷ class ∷ f
    ∷ (big_bytes 2 size ++ max ∷ 0 ∷ []))
unfolding type_format common_format
spells_common_with left f class size max kind shape mobile sub flags fc fm le fs fits =
    let k = type_test kind in (
      next_of kind,
      0,
      (16 * type_of kind + shape_code shape) ∷ class ∷ f ∷ (big_bytes 2 size ++ max ∷ 0 ∷ []),
      next_of-lt kind,
      omega arith,
      k.0,
      refl,
      refl,
      (
        type_of kind,
        shape_code shape,
        class ∷ f ∷ (big_bytes 2 size ++ max ∷ 0 ∷ []),
        type_of-lt kind,
        shape_code-lt shape,
        k.1,
        subtype_test kind shape sub,
        refl,
        (
          class,
          f ∷ (big_bytes 2 size ++ max ∷ 0 ∷ []),
          omega arith,
          refl,
          ap (λ (x : ℕ). x ∷ f ∷ (big_bytes 2 size ++ max ∷ 0 ∷ [])) (sym (byte_is class fc)),
          (
            f,
            big_bytes 2 size ++ max ∷ 0 ∷ [],
            omega (arith, flags.fits),
            flags.reserved,
            ap (λ (x : ℕ). x ∷ (big_bytes 2 size ++ max ∷ 0 ∷ [])) (sym (byte_is f flags.fits)),
            (
              size,
              max ∷ 0 ∷ [],
              omega arith,
              size_test kind size fits,
              refl,
              (
                max,
                0 ∷ [],
                omega arith,
                grind arith,
                ap (λ (x : ℕ). x ∷ 0 ∷ []) (sym (byte_is max fm)),
                (
                  0,
                  [],
                  omega arith,
                  refl,
                  refl,
                  (
                    ap (λ (x : Kind). record {
                      kind = x;
                      shape = shape_of (shape_code shape);
                      class = class;
                      mobile = nat_le 128 f;
                      length = size;
                      max_hops = max;
                    }) k.2
                        ∙ ap (λ (x : Shape). record {
                          kind = kind;
                          shape = x;
                          class = class;
                          mobile = nat_le 128 f;
                          length = size;
                          max_hops = max;
                        }) (shape_back shape)
                        ∙ ap (λ (x : Bool). record {
                          kind = kind;
                          shape = shape;
                          class = class;
                          mobile = x;
                          length = size;
                          max_hops = max;
                        }) flags.says,
                    refl,
                  ),
                ),
              ),
            ),
          ),
        ),
      ),
    )

length-lt : (kind : Kind) (n : ℕ) → IsLength kind n → n < 2 ^ 16
length-lt Beacon n h = omega arith
length-lt Shb n h = omega arith
length-lt Gbc n h = omega arith
length-lt Gac n h = omega arith

pub spells_common : (left : ℕ) (c : Common) → c.class < 256 → c.max_hops < 256 → left ≤ c.max_hops
    → IsSubtype c.kind c.shape → IsLength c.kind c.length
    → Spells (common_format left) c (common_octets c)
unfolding type_format common_format
spells_common left c fc fm le sub size =
    let e : 16 * next_of c.kind + 0 ≡ 16 * next_of c.kind = omega arith in
    subst (λ (n : ℕ).
    Spells (common_format left) c (n ∷ type_octet c.kind c.shape ∷ c.class ∷ cond c.mobile 128 0
    ∷ (big_bytes 2 c.length ++ c.max_hops ∷ 0 ∷ []))) e
    (spells_common_with left
    (cond c.mobile 128 0) c.class c.length c.max_hops c.kind c.shape c.mobile sub
    (flags_of c.mobile) fc fm le (length-lt c.kind c.length size) size)

-- ---- messages

pub message_back : (w : List ℕ) → 4 ≤ length w → IsBytes w → message_octets (message_of w) ≡ w
message_back w le fits =
    let a = big_bytes-big_number 2 w (omega arith) fits in
    let b = big_bytes-big_number 2 (drop 2 w) (omega (arith, length-drop 2 w))
    (IsBytes-drop 2 w fits) in
    let c : take 2 (drop 2 w) ++ drop 4 w ≡ drop 2 w =
    ap (λ (t : List ℕ). take 2 (drop 2 w) ++ t) (sym (drop-drop 2 2 w))
    ∙ take-append-drop 2 (drop 2 w) in
    append_assoc (big_bytes 2 (big_number 2 w)) (big_bytes 2 (big_number 2 (drop 2 w))) (drop 4 w)
    ∙ ap (λ (t : List ℕ). t ++ (big_bytes 2 (big_number 2 (drop 2 w)) ++ drop 4 w)) a
    ∙ ap (λ (t : List ℕ). take 2 w ++ (t ++ drop 4 w)) b
    ∙ ap (λ (t : List ℕ). take 2 w ++ t) c
    ∙ take-append-drop 2 w

pub message_fits : (w : List ℕ) → 4 ≤ length w → length w ≤ 1398 → IsBytes w
    → IsMessage (message_of w)
message_fits w low high fits =
    record {
      port = big_from-lt 0 2 w fits;
      info = big_from-lt 0 2 (drop 2 w) (IsBytes-drop 2 w fits);
      size = omega (arith, length-drop 4 w);
      bytes = IsBytes-drop 4 w fits;
    }

pub message_again : (m : Message) → IsMessage m → message_of (message_octets m) ≡ m
message_again m fits =
    let port = big_number-reads_back 2 m.port (big_bytes 2 m.info ++ m.payload) fits.port in
    let info = big_number-reads_back 2 m.info m.payload fits.info in
    ap (λ (x : ℕ). record m {
      port = x;
      info = big_number 2 (big_bytes 2 m.info ++ m.payload);
    }) port
    ∙ ap (λ (x : ℕ). record m { info = x }) info

pub IsBytes-message : (m : Message) → IsMessage m → IsBytes (message_octets m)
IsBytes-message m fits =
    IsBytes-append (big_bytes 2 m.port ++ big_bytes 2 m.info) m.payload
    (IsBytes-append (big_bytes 2 m.port) (big_bytes 2 m.info) (IsBytes-big_bytes 2 m.port)
    (IsBytes-big_bytes 2 m.info)) fits.bytes

-- ---- what follows the common header

abbrev shb_end : PositionVector → ℕ → Format (PositionVector × Body)
shb_end v size = octets 4 λ media. octets size λ payload. ends (v, shb media (message_of payload))

pub record IsRest (k : Kind) (shape : Shape) (n : ℕ) (y : PositionVector × Body)
    (s : List ℕ) : Type 0 where
  pub vector : IsVector y.0
  pub body : IsBody y.1
  pub octets : s ≡ extended_header y.0 y.1
  pub next : next_of k ≡ common_next y.1
  pub type : type_octet k shape ≡ header_type y.1
  pub size : n ≡ payload_length y.1

shb_text : (s a b c d p p' v : List ℕ) → s ≡ a ++ b → a ≡ v → b ≡ c ++ d → d ≡ p ++ p' → p' ≡ []
    → s ≡ v ++ (c ++ (p ++ []))
shb_text s a b c d p p' v e0 e1 e2 e3 e4 = rw (e0, e1, e2, e3, e4) refl

area_packet_text : (n z zz : ℕ) (s t0 t1 a b c d e p p' v ar : List ℕ) → s ≡ big_bytes 2 n ++ t0
    → t0 ≡ big_bytes 2 z ++ t1 → t1 ≡ a ++ b → a ≡ v → b ≡ c ++ d → c ≡ ar → d ≡ big_bytes 2 zz ++ e
    → e ≡ p ++ p' → p' ≡ [] → z ≡ 0 → zz ≡ 0
    → s ≡ big_bytes 2 n ++ (big_bytes 2 0 ++ (v ++ (ar ++ (big_bytes 2 0 ++ (p ++ [])))))
area_packet_text n z zz s t0 t1 a b c d e p p' v ar e0 e1 e2 e3 e4 e5 e6 e7 e8 hz hzz =
    rw (e0, e1, e2, e3, e4, e5, e6, e7, e8, hz, hzz) refl

-- what a geobroadcast or a geoanycast says after the Common Header
record IsAreaPacketRest (kind : AreaKind) (shape : Shape) (n : ℕ) (y : PositionVector × Body)
    (s : List ℕ) : Type 0 where
  pub vector : PositionVector
  pub sequence : ℕ
  pub area : GeoArea
  pub message : Message
  pub is : (vector, area_body kind sequence area message) ≡ y
  pub fits : IsVector vector
  pub body : (sequence < 2 ^ 16) × IsArea area × IsMessage message
  pub octets : s ≡ area_packet_octets vector sequence area message
  pub shape_is : shape ≡ area.shape
  pub size : n ≡ 4 + length message.payload

area_packet_spelled : (kind : AreaKind) (shape : Shape) (n : ℕ) (y : PositionVector × Body)
    (s : List ℕ) → 4 ≤ n → n ≤ 1398 → Spells (area_packet_format kind shape n) y s
    → IsAreaPacketRest kind shape n y s
area_packet_spelled kind shape n y s low high (sequence, t0, fs, rs, e0, (z, t1, fz, rz, e1, h)) =
    let i = Spells-after vector_format _ y t1 h in
    let v = vector_spelled i.0 i.1 i.3 in
    let j = Spells-after (area_format shape) _ y i.2 i.4 in
    let a = area_spelled shape j.0 j.1 j.3 in
    let q = j.4 in
    let p = q.5 in
    let z0 : z ≡ 0 = eqb-true _ _ rz in
    let zz0 : q.0 ≡ 0 = eqb-true _ _ q.3 in
    let text : s ≡ area_packet_octets i.0 sequence j.0 (message_of p.0) =
    area_packet_text sequence z q.0 s t0 t1 i.1 i.2 j.1 j.2 q.1 p.0 p.1 (vector_octets i.0)
    (area_octets j.0) e0 e1 i.5 v.1 j.5 a.1 q.4 p.4 p.5.1 z0 zz0
    ∙ (ap (λ (t : List ℕ). big_bytes 2 sequence ++ big_bytes 2 0 ++ vector_octets i.0
    ++ area_octets j.0 ++ big_bytes 2 0 ++ t) (append-nil p.0
    ∙ sym (message_back p.0 (omega (arith, p.2)) p.3))) in
    record {
      vector = i.0;
      sequence = sequence;
      area = j.0;
      message = message_of p.0;
      is = p.5.0;
      fits = v.0;
      body = (omega arith, a.0, message_fits p.0 (omega (arith, p.2)) (omega (arith, p.2)) p.3);
      octets = text;
      shape_is = sym a.2;
      size = omega (arith, p.2, length-drop 4 p.0);
    }

pub rest_spelled : (k : Kind) (shape : Shape) (n : ℕ) (y : PositionVector × Body) (s : List ℕ)
    → IsSubtype k shape → IsLength k n → Spells (body_format k shape n) y s → IsRest k shape n y s
rest_spelled Beacon shape n y s sub size h =
    let i = Spells-after vector_format _ y s h in
    let v = vector_spelled i.0 i.1 i.3 in
    let text : s ≡ vector_octets i.0 =
    i.5 ∙ ap (λ (t : List ℕ). i.1 ++ t) i.4.1 ∙ append-nil i.1 ∙ v.1 in
    subst (λ y. IsRest Beacon shape n y s) i.4.0 (record {
      vector = v.0;
      body = tt;
      octets = text;
      next = refl;
      type = ap (λ (x : Shape). type_octet Beacon x) sub;
      size = size;
    })
rest_spelled Shb shape n y s sub size h =
    let i = Spells-after vector_format _ y s h in
    let v = vector_spelled i.0 i.1 i.3 in
    let m = i.4 in
    let p = m.5 in
    let text : s ≡ extended_header i.0 (shb m.0 (message_of p.0)) =
    shb_text s i.1 i.2 m.0 m.1 p.0 p.1 (vector_octets i.0) i.5 v.1 m.4 p.4 p.5.1
    ∙ ap (λ (t : List ℕ). vector_octets i.0 ++ (m.0 ++ t)) (append-nil p.0
    ∙ sym (message_back p.0 (omega (arith, p.2, size.0)) p.3))
    ∙ sym (append_assoc (vector_octets i.0) m.0 (message_octets (message_of p.0))) in
    subst (λ y. IsRest Shb shape n y s) p.5.0 (record {
      vector = v.0;
      body = (
        record { size = m.2; bytes = m.3 },
        message_fits p.0 (omega (arith, p.2, size.0)) (omega (arith, p.2, size.1)) p.3,
      );
      octets = text;
      next = refl;
      type = ap (λ (x : Shape). type_octet Shb x) sub;
      size = omega (arith, p.2, size.0, length-drop 4 p.0);
    })
rest_spelled Gbc shape n y s sub size h =
    let g = area_packet_spelled geobroadcast shape n y s size.0 size.1 h in
    subst (λ y. IsRest Gbc shape n y s) g.is (record {
      vector = g.fits;
      body = g.body;
      octets = g.octets;
      next = refl;
      type = ap (λ (x : Shape). type_octet Gbc x) g.shape_is;
      size = g.size;
    })
rest_spelled Gac shape n y s sub size h =
    let g = area_packet_spelled geoanycast shape n y s size.0 size.1 h in
    subst (λ y. IsRest Gac shape n y s) g.is (record {
      vector = g.fits;
      body = g.body;
      octets = g.octets;
      next = refl;
      type = ap (λ (x : Shape). type_octet Gac x) g.shape_is;
      size = g.size;
    })

-- ---- packets

length_of_body : (b : Body) → IsBody b → IsLength (kind_of_body b) (payload_length b)
length_of_body beacon h = refl
length_of_body (shb media message) h = (omega arith, omega (arith, h.1.size))
length_of_body (gbc sequence area message) h = (omega arith, omega (arith, h.2.size))
length_of_body (gac sequence area message) h = (omega arith, omega (arith, h.2.size))

subtype_of_body : (b : Body) → IsSubtype (kind_of_body b) (shape_of_body b)
subtype_of_body beacon = refl
subtype_of_body (shb media message) = refl
subtype_of_body (gbc sequence area message) = tt
subtype_of_body (gac sequence area message) = tt

spells_area_packet : (kind : AreaKind) (v : PositionVector) (sequence : ℕ) (area : GeoArea)
    (message : Message) → IsVector v → (sequence < 2 ^ 16) × IsArea area × IsMessage message
    → Spells (area_packet_format kind area.shape (4 + length message.payload)) (
      v,
      area_body kind sequence area message,
    ) (area_packet_octets v sequence area message)
spells_area_packet kind v sequence area message fv fb =
    let last : Spells (area_packet_rest kind v sequence area (4 + length message.payload)) (
      v,
      area_body kind sequence area message,
    ) (big_bytes 2 0 ++ message_octets message) = (
      0,
      message_octets message,
      omega arith,
      refl,
      refl,
      (
        message_octets message,
        [],
        omega arith,
        IsBytes-message message fb.2,
        sym (append-nil (message_octets message)),
        (
          ap (λ (m : Message). (v, area_body kind sequence area m)) (message_again message fb.2),
          refl,
        ),
      ),
    ) in
    let two = after-Spells (area_format area.shape)
    (λ a. area_packet_rest kind v sequence a (4 + length message.payload)) area (
      v,
      area_body kind sequence area message,
    ) (area_octets area) (big_bytes 2 0
    ++ message_octets message) (spells_area area fb.1) last in
    let one = after-Spells vector_format
    (λ w. after (area_format area.shape) λ a.
    area_packet_rest kind w sequence a (4 + length message.payload)) v (
      v,
      area_body kind sequence area message,
    ) (vector_octets v) (area_octets area
    ++ (big_bytes 2 0 ++ message_octets message)) (spells_vector v fv) two in (
      sequence,
      big_bytes 2 0
          ++ (vector_octets v ++ (area_octets area ++ (big_bytes 2 0 ++ message_octets message))),
      fb.0,
      refl,
      refl,
      (
        0,
        vector_octets v ++ (area_octets area ++ (big_bytes 2 0 ++ message_octets message)),
        omega arith,
        refl,
        refl,
        one,
      ),
    )

pub spells_rest : (v : PositionVector) (b : Body) → IsVector v → IsBody b
    → Spells (body_format (kind_of_body b) (shape_of_body b) (payload_length b)) (
      v,
      b,
    ) (extended_header v b)
spells_rest v beacon fv fb =
    subst (λ (t : List ℕ). Spells beacon_format (v, beacon) t) (append-nil (vector_octets v))
    (after-Spells vector_format _ v (v, beacon) (vector_octets v) [] (spells_vector v fv) (
      refl,
      refl,
    ))
spells_rest v (shb media message) fv fb =
    let last : Spells (shb_end v (4 + length message.payload)) (
      v,
      shb media message,
    ) (media ++ message_octets message) = (
      media,
      message_octets message,
      fb.0.size,
      fb.0.bytes,
      refl,
      (
        message_octets message,
        [],
        omega arith,
        IsBytes-message message fb.1,
        sym (append-nil (message_octets message)),
        (ap (λ (m : Message). (v, shb media m)) (message_again message fb.1), refl),
      ),
    ) in
    subst (λ (t : List ℕ). Spells (shb_format (4 + length message.payload)) (
      v,
      shb media message,
    ) t) (sym (append_assoc (vector_octets v) media (message_octets message)))
    (after-Spells vector_format (λ w. shb_end w (4 + length message.payload)) v (
      v,
      shb media message,
    ) (vector_octets v) (media ++ message_octets message)
    (spells_vector v fv) last)
spells_rest v (gbc sequence area message) fv fb =
    spells_area_packet geobroadcast v sequence area message fv fb
spells_rest v (gac sequence area message) fv fb =
    spells_area_packet geoanycast v sequence area message fv fb

same_heads : (class max l l' n n' t t' : ℕ) (mobile : Bool) → n ≡ n' → t ≡ t' → l ≡ l'
    → (16 * n) ∷ t ∷ class ∷ cond mobile 128 0 ∷ (big_bytes 2 l ++ max ∷ 0 ∷ []) ≡ (16 * n') ∷ t'
    ∷ class ∷ cond mobile 128 0 ∷ (big_bytes 2 l' ++ max ∷ 0 ∷ [])
same_heads class max l l' n n' t t' mobile e0 e1 e2 = rw (e0, e1, e2) refl

packet_text : (s a b c d e f x y z : List ℕ) → s ≡ a ++ b → a ≡ x → b ≡ c ++ d → c ≡ y → d ≡ e ++ f
    → e ≡ z → f ≡ [] → s ≡ x ++ (y ++ (z ++ []))
packet_text s a b c d e f x y z e0 e1 e2 e3 e4 e5 e6 = rw (e0, e1, e2, e3, e4, e5, e6) refl

pub packet_spelled : (x : Pdu × ℕ) (s : List ℕ) → Spells packet_format x s → Encodes x.0 x.1 s
packet_spelled x s h =
    let i = Spells-after basic_format _ x s h in
    let b = basic_spelled 1 i.0 i.1 i.3 in
    let j = Spells-after (common_format i.0.1) _ x i.2 i.4 in
    let c = common_spelled i.0.1 j.0 j.1 j.3 in
    let k = Spells-after (body_format j.0.kind j.0.shape j.0.length) _ x j.2 j.4 in
    let r = rest_spelled j.0.kind j.0.shape j.0.length k.0 k.1 c.shape c.size k.3 in
    let made : Pdu =
    record {
      vector = k.0.0;
      lifetime = i.0.0;
      class = j.0.class;
      mobile = j.0.mobile;
      max_hops = j.0.max_hops;
      body = k.0.1;
    } in
    let text : s ≡ basic_header made i.0.1
    ++ (common_octets j.0 ++ (extended_header k.0.0 k.0.1 ++ [])) =
    packet_text s i.1 i.2 j.1 j.2 k.1 k.2 (basic_header made i.0.1) (common_octets j.0)
    (extended_header k.0.0 k.0.1) i.5 b.octets j.5 c.octets k.5 r.octets k.4.1 in
    let head : common_octets j.0 ≡ common_header made =
    same_heads j.0.class j.0.max_hops j.0.length (payload_length k.0.1) (next_of j.0.kind)
    (common_next k.0.1) (type_octet j.0.kind j.0.shape)
    (header_type k.0.1) j.0.mobile r.next r.type r.size in
    let whole : s ≡ encoding made i.0.1 =
    text ∙ ap (λ (t : List ℕ). basic_header made i.0.1 ++ (common_octets j.0 ++ t))
    (append-nil (extended_header k.0.0 k.0.1))
    ∙ ap (λ (t : List ℕ). basic_header made i.0.1 ++ (t ++ extended_header k.0.0 k.0.1)) head
    ∙ sym (append_assoc (basic_header made i.0.1) (common_header made)
    (extended_header k.0.0 k.0.1)) in
    let fits : IsPacket made i.0.1 =
    record {
      lifetime = b.lifetime;
      class = c.class;
      some_left = b.some_left;
      left_below = c.left_below;
      max_hops = c.max_hops;
      vector = r.vector;
      body = r.body;
    } in
    subst (λ x. Encodes x.0 x.1 s) k.4.0 (record { fields = fits; octets = whole })

heads_of_body : (b : Body)
    → (next_of (kind_of_body b) ≡ common_next b)
    × (type_octet (kind_of_body b) (shape_of_body b) ≡ header_type b)
heads_of_body beacon = (refl, refl)
heads_of_body (shb media message) = (refl, refl)
heads_of_body (gbc sequence area message) = (refl, refl)
heads_of_body (gac sequence area message) = (refl, refl)

pub spells_packet : (p : Pdu) (left : ℕ) → IsPacket p left
    → Spells packet_format (p, left) (encoding p left)
spells_packet p left fits =
    let common : Common =
    record {
      kind = kind_of_body p.body;
      shape = shape_of_body p.body;
      class = p.class;
      mobile = p.mobile;
      length = payload_length p.body;
      max_hops = p.max_hops;
    } in
    let heads = heads_of_body p.body in
    let head : common_octets common ≡ common_header p =
    same_heads p.class p.max_hops (payload_length p.body) (payload_length p.body)
    (next_of (kind_of_body p.body)) (common_next p.body)
    (type_octet (kind_of_body p.body) (shape_of_body p.body))
    (header_type p.body) p.mobile heads.0 heads.1 refl in
    let c : Spells (common_format left) common (common_octets common) =
    spells_common left common fits.class fits.max_hops fits.left_below (subtype_of_body p.body)
    (length_of_body p.body fits.body) in
    let r = spells_rest p.vector p.body fits.vector fits.body in
    let last : Spells {K = FaultKind} (ends (p, left)) (p, left) [] = (refl, refl) in
    let three =
    after-Spells (body_format (kind_of_body p.body) (shape_of_body p.body) (payload_length p.body))
    (λ x. ends (
      record {
        vector = x.0;
        lifetime = p.lifetime;
        class = p.class;
        mobile = p.mobile;
        max_hops = p.max_hops;
        body = x.1;
      },
      left,
    )) (p.vector, p.body) (
      p,
      left,
    ) (extended_header p.vector p.body) [] r last in
    let two = after-Spells (common_format left)
    (λ common. after (body_format common.kind common.shape common.length) λ x. ends (
      record {
        vector = x.0;
        lifetime = p.lifetime;
        class = common.class;
        mobile = common.mobile;
        max_hops = common.max_hops;
        body = x.1;
      },
      left,
    )) common (
      p,
      left,
    ) (common_octets common) (extended_header p.vector p.body ++ []) c three in
    let one = after-Spells basic_format
    (λ basic. after (common_format basic.1) λ common.
    after (body_format common.kind common.shape common.length) λ x. ends (
      record {
        vector = x.0;
        lifetime = basic.0;
        class = common.class;
        mobile = common.mobile;
        max_hops = common.max_hops;
        body = x.1;
      },
      basic.1,
    )) (p.lifetime, left) (
      p,
      left,
    ) (basic_header p left) (common_octets common ++ (extended_header p.vector p.body ++ []))
    (spells_basic 1 (
      p.lifetime,
      left,
    ) (omega arith) refl fits.lifetime fits.some_left
    (omega (arith, fits.left_below, fits.max_hops))) two in
    let text : basic_header p left
    ++ (common_octets common ++ (extended_header p.vector p.body ++ [])) ≡ encoding p left =
    ap (λ (t : List ℕ). basic_header p left ++ (common_octets common ++ t))
    (append-nil (extended_header p.vector p.body))
    ∙ ap (λ (t : List ℕ). basic_header p left ++ (t ++ extended_header p.vector p.body)) head
    ∙ sym (append_assoc (basic_header p left) (common_header p)
    (extended_header p.vector p.body)) in
    subst (λ (t : List ℕ). Spells packet_format (p, left) t) text one

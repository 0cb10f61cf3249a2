-- The format of a packet spells the encodings of packets, and nothing else.
use Rattle.std.proofs.Common.{◌≡◌, ℕ, zero, suc, ◌+◌, ◌*◌, ◌^◌, ◌<◌, List, [], ◌++◌, length}
use Rattle.std.proofs.Common.{true, refl, sym, ap, subst, ◌∙◌, arith, ◌⊎◌, inl, inr}
use Rattle.std.proofs.lemmas.Bool.{eqb-true}
use Rattle.std.proofs.lemmas.List.{append-nil}
use Rattle.byteorder.specs.Endian.{big_bytes}
use Rattle.its_geometry.specs.declared.area.Shape.{Shape}
use Rattle.its_geometry.specs.declared.area.Shape.TheVariants.{Circle, Rectangle, Ellipse}
use Rattle.its_headers.specs.Encoding.{shape_code}
use Rattle.its_formats.specs.Format.{ends, number, octets, after}
use Rattle.its_headers.specs.Format.{Format}
use Rattle.its_headers.specs.Layout.{shape_of, any}
use Rattle.its_faults.specs.declared.packet.FaultKind.{FaultKind}
use Rattle.its_faults.specs.declared.packet.FaultKind.TheVariants.{Truncated}
use Rattle.its_formats.specs.Spells.{Spells}
use Rattle.its_formats.proofs.Spells.{Spells-after, after-Spells}
use Rattle.its_outside.specs.declared.kind.StandardKind.{StandardKind}
use Rattle.its_outside.specs.declared.kind.StandardKind.TheVariants as kinds
use Rattle.its_outside.specs.declared.fields.LongVector.{LongVector}
use Rattle.its_outside.specs.declared.fields.Sequence.{Sequence}
use Rattle.its_outside.specs.declared.fields.ExtendedFields.{ExtendedFields}
use Rattle.its_outside.specs.declared.fields.ExtendedFields.TheVariants as extended
use Rattle.its_outside.specs.Encoding.{Standard, type_code, basic_octets, common_octets}
use Rattle.its_outside.specs.Encoding.{long_octets, short_octets, sequence_octets, area_octets}
use Rattle.its_outside.specs.Encoding.{extended_octets, encoding, IsLongVector, IsShortVector}
use Rattle.its_outside.specs.Encoding.{IsSequence, IsAreaFields, IsExtended, IsSize, IsStandard}
use Rattle.its_outside.specs.Encoding.{Encodes}
use Rattle.its_outside.specs.Layout.{Common, basic_format, common_format, long_format, short_format}
use Rattle.its_outside.specs.Layout.{sequence_format, area_format, address_format}
use Rattle.its_outside.specs.Layout.{numbered_format, extended_format, standard_format}
use Rattle.its_outside.specs.Layout.{is_type, is_subtype, is_length, kind_of}
use Rattle.its_outside.proofs.Spelled.{basic_spelled, spells_basic, common_spelled, spells_common}
use Rattle.its_outside.proofs.Spelled.{long_spelled, spells_long, short_spelled, spells_short}
use Rattle.its_outside.proofs.Spelled.{sequence_spelled, spells_sequence, area_spelled, spells_area}
use Rattle.its_outside.proofs.Spelled.{common_with}

-- ---- types

-- header type and sub-type of a kind
abbrev pub kind_code : StandardKind → Shape → ℕ
kind_code kinds.Beacon shape = 16
kind_code kinds.Guc shape = 32
kind_code kinds.Gac shape = 48 + shape_code shape
kind_code kinds.Gbc shape = 64 + shape_code shape
kind_code kinds.Shb shape = 80
kind_code kinds.Tsb shape = 81
kind_code kinds.LsRequest shape = 96
kind_code kinds.LsReply shape = 97

-- the types that are read are those of the kind
named : (t u : ℕ) → is_type t ≡ true → is_subtype t u ≡ true
    → 16 * t + u ≡ kind_code (kind_of t u) (shape_of u)
named zero u ht hu = absurd (grind arith)
named (suc zero) zero ht hu = refl
named (suc zero) (suc u) ht hu = absurd (grind arith)
named (suc (suc zero)) zero ht hu = refl
named (suc (suc zero)) (suc u) ht hu = absurd (grind arith)
named (suc (suc (suc zero))) zero ht hu = refl
named (suc (suc (suc zero))) (suc zero) ht hu = refl
named (suc (suc (suc zero))) (suc (suc zero)) ht hu = refl
named (suc (suc (suc zero))) (suc (suc (suc u))) ht hu = absurd (grind arith)
named (suc (suc (suc (suc zero)))) zero ht hu = refl
named (suc (suc (suc (suc zero)))) (suc zero) ht hu = refl
named (suc (suc (suc (suc zero)))) (suc (suc zero)) ht hu = refl
named (suc (suc (suc (suc zero)))) (suc (suc (suc u))) ht hu = absurd (grind arith)
named (suc (suc (suc (suc (suc zero))))) zero ht hu = refl
named (suc (suc (suc (suc (suc zero))))) (suc zero) ht hu = refl
named (suc (suc (suc (suc (suc zero))))) (suc (suc u)) ht hu = absurd (grind arith)
named (suc (suc (suc (suc (suc (suc zero)))))) zero ht hu = refl
named (suc (suc (suc (suc (suc (suc zero)))))) (suc zero) ht hu = refl
named (suc (suc (suc (suc (suc (suc zero)))))) (suc (suc u)) ht hu = absurd (grind arith)
named (suc (suc (suc (suc (suc (suc (suc t))))))) u ht hu = absurd (grind arith)

abbrev pub type_of : ExtendedFields → ℕ
type_of extended.Beacon = 1
type_of (extended.Guc s d) = 2
type_of (extended.Gac s a) = 3
type_of (extended.Gbc s a) = 4
type_of (extended.Shb media) = 5
type_of (extended.Tsb s) = 5
type_of (extended.LsRequest s sought) = 6
type_of (extended.LsReply s d) = 6

abbrev pub subtype_of : ExtendedFields → ℕ
subtype_of extended.Beacon = 0
subtype_of (extended.Guc s d) = 0
subtype_of (extended.Gac s a) = shape_code a.shape
subtype_of (extended.Gbc s a) = shape_code a.shape
subtype_of (extended.Shb media) = 0
subtype_of (extended.Tsb s) = 1
subtype_of (extended.LsRequest s sought) = 0
subtype_of (extended.LsReply s d) = 1

-- header type and sub-type of an extended header
record AreTypes (e : ExtendedFields) : Type 0 where
  pub small : type_of e < 16
  pub small_sub : subtype_of e < 16
  pub type_is : is_type (type_of e) ≡ true
  pub subtype_is : is_subtype (type_of e) (subtype_of e) ≡ true
  pub code : 16 * type_of e + subtype_of e ≡ type_code e

shape_small : (shape : Shape) → (shape_code shape < 16) × (is_subtype 3 (shape_code shape) ≡ true)
    × (is_subtype 4 (shape_code shape) ≡ true)
shape_small Circle = (omega arith, refl, refl)
shape_small Rectangle = (omega arith, refl, refl)
shape_small Ellipse = (omega arith, refl, refl)

shape_back : (shape : Shape) → shape_of (shape_code shape) ≡ shape
shape_back Circle = refl
shape_back Rectangle = refl
shape_back Ellipse = refl

types_of : (e : ExtendedFields) → AreTypes e
types_of extended.Beacon = record {
  small = omega arith;
  small_sub = omega arith;
  type_is = refl;
  subtype_is = refl;
  code = refl;
}
types_of (extended.Guc s d) = record {
  small = omega arith;
  small_sub = omega arith;
  type_is = refl;
  subtype_is = refl;
  code = refl;
}
types_of (extended.Gac s a) = record {
  small = omega arith;
  small_sub = (shape_small a.shape).0;
  type_is = refl;
  subtype_is = (shape_small a.shape).1;
  code = omega arith;
}
types_of (extended.Gbc s a) = record {
  small = omega arith;
  small_sub = (shape_small a.shape).0;
  type_is = refl;
  subtype_is = (shape_small a.shape).2;
  code = omega arith;
}
types_of (extended.Shb media) = record {
  small = omega arith;
  small_sub = omega arith;
  type_is = refl;
  subtype_is = refl;
  code = refl;
}
types_of (extended.Tsb s) = record {
  small = omega arith;
  small_sub = omega arith;
  type_is = refl;
  subtype_is = refl;
  code = refl;
}
types_of (extended.LsRequest s sought) = record {
  small = omega arith;
  small_sub = omega arith;
  type_is = refl;
  subtype_is = refl;
  code = refl;
}
types_of (extended.LsReply s d) = record {
  small = omega arith;
  small_sub = omega arith;
  type_is = refl;
  subtype_is = refl;
  code = refl;
}

-- ---- sizes of payloads

nothing_sent : (t n : ℕ) → (t ≡ 1) ⊎ (t ≡ 6) → is_length t n ≡ true → n ≡ 0
nothing_sent t n (inl e) h = eqb-true _ _ (subst (λ (x : ℕ). is_length x n ≡ true) e h)
nothing_sent t n (inr e) h = eqb-true _ _ (subst (λ (x : ℕ). is_length x n ≡ true) e h)

size_is : (e : ExtendedFields) (t u n : ℕ) → u < 16 → 16 * t + u ≡ type_code e
    → is_length t n ≡ true → n < 2 ^ 16 → IsSize e n
size_is extended.Beacon t u n fu code h fits = nothing_sent t n (inl (omega arith)) h
size_is (extended.Guc s d) t u n fu code h fits = fits
size_is (extended.Gac s a) t u n fu code h fits = fits
size_is (extended.Gbc s a) t u n fu code h fits = fits
size_is (extended.Shb media) t u n fu code h fits = fits
size_is (extended.Tsb s) t u n fu code h fits = fits
size_is (extended.LsRequest s sought) t u n fu code h fits =
    nothing_sent t n (inr (omega arith)) h
size_is (extended.LsReply s d) t u n fu code h fits = nothing_sent t n (inr (omega arith)) h

none_sent : (n : ℕ) → n ≡ 0 → (n < 2 ^ 16) × (is_length 1 n ≡ true) × (is_length 6 n ≡ true)
none_sent n e = (omega arith, rw e refl, rw e refl)

size_test : (e : ExtendedFields) (n : ℕ) → IsSize e n
    → (n < 2 ^ 16) × (is_length (type_of e) n ≡ true)
size_test extended.Beacon n h = let z = none_sent n h in (z.0, z.1)
size_test (extended.Guc s d) n h = (h, refl)
size_test (extended.Gac s a) n h = (h, refl)
size_test (extended.Gbc s a) n h = (h, refl)
size_test (extended.Shb media) n h = (h, refl)
size_test (extended.Tsb s) n h = (h, refl)
size_test (extended.LsRequest s sought) n h = let z = none_sent n h in (z.0, z.2)
size_test (extended.LsReply s d) n h = let z = none_sent n h in (z.0, z.2)

-- ---- extended headers

-- what a sequence number, the source's vector and something else are read from
record IsNumbered {A : Type 0} (Fits : A → Type 0) (text : A → List ℕ) (made : Sequence → A
    → ExtendedFields) (y : LongVector × ExtendedFields) (s : List ℕ) : Type 0 where
  pub sequence : Sequence
  pub vector : LongVector
  pub rest : A
  pub is : (vector, made sequence rest) ≡ y
  pub sequence_fits : IsSequence sequence
  pub vector_fits : IsLongVector vector
  pub rest_fits : Fits rest
  pub octets : s ≡ sequence_octets sequence ++ (long_octets vector ++ text rest)

three_parts : (s a b c d e f x y z : List ℕ) → s ≡ a ++ b → a ≡ x → b ≡ c ++ d → c ≡ y → d ≡ e ++ f
    → e ≡ z → f ≡ [] → s ≡ x ++ (y ++ (z ++ []))
three_parts s a b c d e f x y z e0 e1 e2 e3 e4 e5 e6 = rw (e0, e1, e2, e3, e4, e5, e6) refl

numbered_spelled : {A : Type 0} (rest : Format A) (made : Sequence → A
    → ExtendedFields) (Fits : A → Type 0) (text : A → List ℕ)
    → ((x : A) (s : List ℕ) → Spells rest x s → Fits x × (s ≡ text x))
    → (y : LongVector × ExtendedFields) (s : List ℕ) → Spells (numbered_format rest made) y s
    → IsNumbered Fits text made y s
numbered_spelled rest made Fits text rest_is y s h =
    let i = Spells-after sequence_format _ y s h in
    let q = sequence_spelled i.0 i.1 i.3 in
    let j = Spells-after long_format _ y i.2 i.4 in
    let v = long_spelled j.0 j.1 j.3 in
    let k = Spells-after rest _ y j.2 j.4 in
    let r = rest_is k.0 k.1 k.3 in
    record {
      sequence = i.0;
      vector = j.0;
      rest = k.0;
      is = k.4.0;
      sequence_fits = q.0;
      vector_fits = v.0;
      rest_fits = r.0;
      octets = three_parts s i.1 i.2 j.1 j.2 k.1 k.2 (sequence_octets i.0) (long_octets j.0)
          (text k.0) i.5 q.1 j.5 v.1 k.5 r.1 k.4.1
          ∙ ap (λ (t : List ℕ). sequence_octets i.0 ++ (long_octets j.0 ++ t))
          (append-nil (text k.0));
    }

spells_numbered : {A : Type 0} (rest : Format A) (made : Sequence → A → ExtendedFields)
    (q : Sequence) (v : LongVector) (x : A) (text : List ℕ) → IsSequence q → IsLongVector v
    → Spells rest x text
    → Spells (numbered_format rest made) (
      v,
      made q x,
    ) (sequence_octets q ++ (long_octets v ++ text))
spells_numbered rest made q v x text fq fv h =
    let last : Spells {K = FaultKind} (ends (v, made q x)) (v, made q x) [] = (refl, refl) in
    let c = after-Spells rest (λ x. ends (v, made q x)) x (v, made q x) text [] h last in
    let b = after-Spells long_format (λ v. after rest λ x. ends (v, made q x)) v (
      v,
      made q x,
    ) (long_octets v) (text ++ []) (spells_long v fv) c in
    let a = after-Spells sequence_format
    (λ q. after long_format λ v. after rest λ x. ends (v, made q x)) q (
      v,
      made q x,
    ) (sequence_octets q) (long_octets v ++ (text ++ [])) (spells_sequence q fq) b in
    subst (λ (t : List ℕ). Spells (numbered_format rest made) (
      v,
      made q x,
    ) (sequence_octets q ++ (long_octets v ++ t))) (append-nil text) a

address_spelled : (x : ℕ) (s : List ℕ) → Spells address_format x s → (x < 2 ^ 64)
    × (s ≡ big_bytes 8 x)
address_spelled x s (v, t, fv, rv, e, (is, nil)) =
    let text : s ≡ big_bytes 8 v = rw (e, nil) refl in
    subst (λ (x : ℕ). (x < 2 ^ 64) × (s ≡ big_bytes 8 x)) is (omega arith, text)

spells_address : (x : ℕ) → x < 2 ^ 64 → Spells address_format x (big_bytes 8 x)
spells_address x fits = (x, [], fits, refl, refl, (refl, refl))

-- what follows the Common Header of a packet of this kind, for this shape
pub record IsRead (k : StandardKind) (shape : Shape) (y : LongVector × ExtendedFields)
    (s : List ℕ) : Type 0 where
  pub source : IsLongVector y.0
  pub extended : IsExtended y.1
  pub octets : s ≡ extended_octets y.0 y.1
  pub code : kind_code k shape ≡ type_code y.1

two_parts : (s a b c d x y : List ℕ) → s ≡ a ++ b → a ≡ x → b ≡ c ++ d → c ≡ y → d ≡ []
    → s ≡ x ++ (y ++ [])
two_parts s a b c d x y e0 e1 e2 e3 e4 = rw (e0, e1, e2, e3, e4) refl

pub extended_spelled : (k : StandardKind) (shape : Shape) (y : LongVector × ExtendedFields)
    (s : List ℕ) → Spells (extended_format k shape) y s → IsRead k shape y s
extended_spelled kinds.Beacon shape y s h =
    let i = Spells-after long_format _ y s h in
    let v = long_spelled i.0 i.1 i.3 in
    let text : s ≡ long_octets i.0 =
    i.5 ∙ ap (λ (t : List ℕ). i.1 ++ t) i.4.1 ∙ append-nil i.1 ∙ v.1 in
    subst (λ y. IsRead kinds.Beacon shape y s) i.4.0
    (record { source = v.0; extended = tt; octets = text; code = refl })
extended_spelled kinds.Guc shape y s h =
    let n = numbered_spelled short_format extended.Guc IsShortVector short_octets short_spelled y s
    h in
    subst (λ y. IsRead kinds.Guc shape y s) n.is (record {
      source = n.vector_fits;
      extended = (n.sequence_fits, n.rest_fits);
      octets = n.octets;
      code = refl;
    })
extended_spelled kinds.Gac shape y s h =
    let n = numbered_spelled (area_format shape) extended.Gac
    (λ a. IsAreaFields a × (a.shape ≡ shape)) area_octets (area_spelled shape) y s h in
    subst (λ y. IsRead kinds.Gac shape y s) n.is (record {
      source = n.vector_fits;
      extended = (n.sequence_fits, n.rest_fits.0);
      octets = n.octets;
      code = ap (λ (x : Shape). 48 + shape_code x) (sym n.rest_fits.1);
    })
extended_spelled kinds.Gbc shape y s h =
    let n = numbered_spelled (area_format shape) extended.Gbc
    (λ a. IsAreaFields a × (a.shape ≡ shape)) area_octets (area_spelled shape) y s h in
    subst (λ y. IsRead kinds.Gbc shape y s) n.is (record {
      source = n.vector_fits;
      extended = (n.sequence_fits, n.rest_fits.0);
      octets = n.octets;
      code = ap (λ (x : Shape). 64 + shape_code x) (sym n.rest_fits.1);
    })
extended_spelled kinds.Shb shape y s h =
    let i = Spells-after long_format _ y s h in
    let v = long_spelled i.0 i.1 i.3 in
    let m = i.4 in
    let text : s ≡ long_octets i.0 ++ big_bytes 4 m.0 =
    two_parts s i.1 i.2 (big_bytes 4 m.0) m.1 (long_octets i.0) (big_bytes 4 m.0) i.5 v.1 m.4 refl
    m.5.1
    ∙ ap (λ (t : List ℕ). long_octets i.0 ++ t) (append-nil (big_bytes 4 m.0)) in
    subst (λ y. IsRead kinds.Shb shape y s) m.5.0
    (record { source = v.0; extended = m.2; octets = text; code = refl })
extended_spelled kinds.Tsb shape y s h =
    let i = Spells-after sequence_format _ y s h in
    let q = sequence_spelled i.0 i.1 i.3 in
    let j = Spells-after long_format _ y i.2 i.4 in
    let v = long_spelled j.0 j.1 j.3 in
    let text : s ≡ sequence_octets i.0 ++ long_octets j.0 =
    two_parts s i.1 i.2 j.1 j.2 (sequence_octets i.0) (long_octets j.0) i.5 q.1 j.5 v.1 j.4.1
    ∙ ap (λ (t : List ℕ). sequence_octets i.0 ++ t) (append-nil (long_octets j.0)) in
    subst (λ y. IsRead kinds.Tsb shape y s) j.4.0
    (record { source = v.0; extended = q.0; octets = text; code = refl })
extended_spelled kinds.LsRequest shape y s h =
    let n = numbered_spelled address_format extended.LsRequest (λ (x : ℕ). x < 2 ^ 64)
    (λ (x : ℕ). big_bytes 8 x) address_spelled y s h in
    subst (λ y. IsRead kinds.LsRequest shape y s) n.is (record {
      source = n.vector_fits;
      extended = (n.sequence_fits, n.rest_fits);
      octets = n.octets;
      code = refl;
    })
extended_spelled kinds.LsReply shape y s h =
    let n = numbered_spelled short_format extended.LsReply IsShortVector short_octets short_spelled
    y s h in
    subst (λ y. IsRead kinds.LsReply shape y s) n.is (record {
      source = n.vector_fits;
      extended = (n.sequence_fits, n.rest_fits);
      octets = n.octets;
      code = refl;
    })

-- the format of an extended header is that of its type and sub-type
abbrev pub format_of : ExtendedFields → Format (LongVector × ExtendedFields)
format_of e = extended_format (kind_of (type_of e) (subtype_of e)) (shape_of (subtype_of e))

pub spells_extended : (v : LongVector) (e : ExtendedFields) → IsLongVector v → IsExtended e
    → Spells (format_of e) (v, e) (extended_octets v e)
spells_extended v extended.Beacon fv fe =
    subst (λ (t : List ℕ). Spells (format_of extended.Beacon) (
      v,
      extended.Beacon,
    ) t) (append-nil (long_octets v))
    (after-Spells long_format _ v (v, extended.Beacon) (long_octets v) [] (spells_long v fv) (
      refl,
      refl,
    ))
spells_extended v (extended.Guc s d) fv fe =
    spells_numbered short_format extended.Guc s v d (short_octets d) fe.0 fv (spells_short d fe.1)
spells_extended v (extended.Gac s a) fv fe =
    subst (λ (shape : Shape). Spells (numbered_format (area_format shape) extended.Gac) (
      v,
      extended.Gac s a,
    ) (extended_octets v (extended.Gac s a))) (sym (shape_back a.shape))
    (spells_numbered (area_format a.shape) extended.Gac s v a (area_octets a) fe.0 fv
    (spells_area a fe.1))
spells_extended v (extended.Gbc s a) fv fe =
    subst (λ (shape : Shape). Spells (numbered_format (area_format shape) extended.Gbc) (
      v,
      extended.Gbc s a,
    ) (extended_octets v (extended.Gbc s a))) (sym (shape_back a.shape))
    (spells_numbered (area_format a.shape) extended.Gbc s v a (area_octets a) fe.0 fv
    (spells_area a fe.1))
spells_extended v (extended.Shb media) fv fe =
    after-Spells long_format (λ v. number 4 Truncated any λ media. ends (v, extended.Shb media)) v (
      v,
      extended.Shb media,
    ) (long_octets v) (big_bytes 4 media) (spells_long v fv) (
      media,
      [],
      fe,
      refl,
      sym (append-nil (big_bytes 4 media)),
      (refl, refl),
    )
spells_extended v (extended.Tsb s) fv fe =
    let last : Spells {K = FaultKind} (ends (v, extended.Tsb s)) (v, extended.Tsb s) [] = (refl, refl) in
    let b = after-Spells long_format (λ v. ends (v, extended.Tsb s)) v (
      v,
      extended.Tsb s,
    ) (long_octets v) [] (spells_long v fv) last in
    let a = after-Spells sequence_format (λ s. after long_format λ v. ends (v, extended.Tsb s)) s (
      v,
      extended.Tsb s,
    ) (sequence_octets s) (long_octets v ++ []) (spells_sequence s fe) b in
    subst (λ (t : List ℕ). Spells (format_of (extended.Tsb s)) (
      v,
      extended.Tsb s,
    ) (sequence_octets s ++ t)) (append-nil (long_octets v)) a
spells_extended v (extended.LsRequest s sought) fv fe =
    spells_numbered address_format extended.LsRequest s v sought (big_bytes 8 sought) fe.0 fv
    (spells_address sought fe.1)
spells_extended v (extended.LsReply s d) fv fe =
    spells_numbered short_format extended.LsReply s v d (short_octets d) fe.0 fv
    (spells_short d fe.1)

-- ---- packets

four_parts : (s a b c d e f g h x y z : List ℕ) → s ≡ a ++ b → a ≡ x → b ≡ c ++ d → c ≡ y
    → d ≡ e ++ f → e ≡ z → f ≡ g ++ h → h ≡ [] → s ≡ x ++ (y ++ (z ++ (g ++ [])))
four_parts s a b c d e f g h x y z e0 e1 e2 e3 e4 e5 e6 e7 =
    rw (e0, e1, e2, e3, e4, e5, e6, e7) refl

pub packet_spelled : (x : Standard) (s : List ℕ) → Spells standard_format x s → Encodes x s
packet_spelled x s h =
    let i = Spells-after basic_format _ x s h in
    let b = basic_spelled i.0 i.1 i.3 in
    let j = Spells-after (common_format i.0.left) _ x i.2 i.4 in
    let c = common_spelled i.0.left j.0 j.1 j.3 in
    let k = Spells-after (extended_format j.0.kind j.0.shape) _ x j.2 j.4 in
    let r = extended_spelled j.0.kind j.0.shape k.0 k.1 k.3 in
    let p = k.4 in
    let made : Standard =
    record {
      fields = record {
        basic = i.0;
        common = j.0.fields;
        source = k.0.0;
        extended = k.0.1;
      };
      payload = p.0;
    } in
    let code : 16 * c.type + c.subtype ≡ type_code k.0.1 =
    named c.type c.subtype c.type_is c.subtype_is
    ∙ ap (λ (z : StandardKind). kind_code z (shape_of c.subtype)) (sym c.kind)
    ∙ ap (λ (z : Shape). kind_code j.0.kind z) (sym c.shape) ∙ r.code in
    let text : s ≡ basic_octets i.0
    ++ (common_octets j.0.fields (16 * c.type + c.subtype) j.0.length
    ++ (extended_octets k.0.0 k.0.1 ++ (p.0 ++ []))) =
    four_parts s i.1 i.2 j.1 j.2 k.1 k.2 p.0 p.1 (basic_octets i.0)
    (common_octets j.0.fields (16 * c.type + c.subtype) j.0.length)
    (extended_octets k.0.0 k.0.1) i.5 b.1 j.5 c.octets k.5 r.octets p.4 p.5.1 in
    let whole : s ≡ encoding made =
    text ∙ ap (λ (t : List ℕ). basic_octets i.0
    ++ (common_octets j.0.fields (16 * c.type + c.subtype) j.0.length
    ++ (extended_octets k.0.0 k.0.1 ++ t))) (append-nil p.0)
    ∙ ap (λ (z : ℕ). basic_octets i.0
    ++ (common_octets j.0.fields z j.0.length
    ++ (extended_octets k.0.0 k.0.1 ++ p.0))) code
    ∙ ap (λ (z : ℕ). basic_octets i.0
    ++ (common_octets j.0.fields (type_code k.0.1) z
    ++ (extended_octets k.0.0 k.0.1 ++ p.0))) (sym p.2) in
    let size : IsSize k.0.1 (length p.0) =
    subst (λ (n : ℕ). IsSize k.0.1 n) (sym p.2)
    (size_is k.0.1 c.type c.subtype j.0.length c.small code c.length_is c.size) in
    let fits : IsStandard made =
    record {
      basic = b.0;
      common = c.fields;
      source = r.source;
      extended = r.extended;
      size = size;
      payload = p.3;
    } in
    subst (λ x. Encodes x s) p.5.0 (record { fields = fits; octets = whole })

pub spells_packet : (p : Standard) → IsStandard p → Spells standard_format p (encoding p)
spells_packet p fits =
    let b = p.fields.basic in
    let c = p.fields.common in
    let v = p.fields.source in
    let e = p.fields.extended in
    let n = length p.payload in
    let types = types_of e in
    let size = size_test e n fits.size in
    let common : Common = common_with c (type_of e) (subtype_of e) n in
    let head : Spells (common_format b.left) common (common_octets c (type_code e) n) =
    subst (λ (z : ℕ). Spells (common_format b.left) common (common_octets c z n)) types.code
    (spells_common b.left c (type_of e) (subtype_of e) n fits.common types.small types.small_sub
    types.type_is types.subtype_is size.0 size.1) in
    let last : Spells {K = FaultKind} (octets n λ payload. ends (
    let x : Standard = record {
      fields = record { basic = b; common = c; source = v; extended = e };
      payload = payload;
    } in x
    )) p p.payload = (
      p.payload,
      [],
      refl,
      fits.payload,
      sym (append-nil p.payload),
      (refl, refl),
    ) in
    let three = after-Spells (format_of e)
    (λ x. octets n λ payload. ends (
    let y : Standard = record {
      fields = record { basic = b; common = c; source = x.0; extended = x.1 };
      payload = payload;
    } in y
    )) (v, e) p (extended_octets v e) p.payload (spells_extended v e fits.source fits.extended)
    last in
    let two = after-Spells (common_format b.left)
    (λ common. after (extended_format common.kind common.shape) λ x.
    octets common.length λ payload. ends (
    let y : Standard = record {
      fields = record { basic = b; common = common.fields; source = x.0; extended = x.1 };
      payload = payload;
    } in y
    )) common p (common_octets c (type_code e) n) (extended_octets v e ++ p.payload) head three in
    after-Spells basic_format
    (λ basic. after (common_format basic.left) λ common.
    after (extended_format common.kind common.shape) λ x.
    octets common.length λ payload. ends (
    let y : Standard = record {
      fields = record { basic = basic; common = common.fields; source = x.0; extended = x.1 };
      payload = payload;
    } in y
    )) b p (basic_octets b) (common_octets c (type_code e) n ++ (extended_octets v e ++ p.payload))
    (spells_basic b fits.basic) two

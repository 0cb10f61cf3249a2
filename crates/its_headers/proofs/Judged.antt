-- Octets whose fields were judged are read.
use Rattle.std.proofs.Common.{◌≡◌, ℕ, ◌+◌, ◌%◌, ◌^◌, ◌<◌, ◌≤◌, ℤ, List, length, drop, true, nat_le}
use Rattle.std.proofs.Common.{eqb, Result, Ok, refl, ap, ◌∙◌, arith, eq-eqb}
use Rattle.std.proofs.lemmas.Bool.{lt-ltb}
use Rattle.byteorder.specs.Endian.{big_number}
use Rattle.std.proofs.lemmas.Int.{of_z-to_z}
use Rattle.std.specs.Int.{w32, cast_signed, cast_unsigned}
use Rattle.its_gnvalue.specs.Values.{PositionVector, Position}
use Rattle.its_geometry.specs.declared.area.Shape.{Shape}
use Rattle.its_geometry.specs.Area.{GeoArea}
use Rattle.its_faults.specs.declared.packet.Fault.{Fault}
use Rattle.its_formats.specs.Format.{after}
use Rattle.its_headers.specs.Format.{walk, number_at}
use Rattle.its_headers.specs.Layout.{Common, vector_format, vector_from, vector_at, area_format}
use Rattle.its_headers.specs.Layout.{area_at, common_format, type_format, rest_format}
use Rattle.its_headers.specs.Layout.{is_individual, is_latitude, is_longitude, is_second, is_angle}
use Rattle.its_headers.specs.Layout.{is_length, is_zero, kind_of, shape_of, speed_of}
use Rattle.its_headers.specs.Layout.{area_packet_format, area_packet_rest}
use Rattle.its_model.specs.Packet.{AreaKind}
use Rattle.its_formats.proofs.Walks.{walk_after}
use Rattle.its_formats.proofs.Found.{number_at-here}
use Rattle.its_headers.specs.Format.{packet_faults}

pub same_vector : (w : List ℕ) (address timestamp p q r s p' q' r' s' : ℕ) → p ≡ p' → q ≡ q'
    → r ≡ r' → s ≡ s'
    → vector_from address timestamp (big_number 4 (drop p w)) (big_number 4 (drop q w))
    (big_number 2 (drop r w)) (big_number 2 (drop s w))
    ≡ vector_from address timestamp (big_number 4 (drop p' w)) (big_number 4 (drop q' w))
    (big_number 2 (drop r' w)) (big_number 2 (drop s' w))
same_vector w address timestamp p q r s p' q' r' s' ep eq er es = rw (ep, eq, er, es) refl

abbrev vector_reading : PositionVector → ℕ → Result (PositionVector × ℕ) Fault
vector_reading v n = Ok (v, n)

pub vector_judged : (at : ℕ) (w : List ℕ) → at + 24 ≤ length w
    → is_individual (big_number 8 (drop at w)) ≡ true
    → is_latitude (big_number 4 (drop (at + 12) w)) ≡ true
    → is_longitude (big_number 4 (drop (at + 16) w)) ≡ true
    → walk vector_format at w ≡ Ok (vector_at at w, at + 24)
unfolding vector_format
vector_judged at w room individual latitude longitude =
    let p : at + 8 + 4 ≡ at + 12 = omega arith in
    let q : at + 8 + 4 + 4 ≡ at + 16 = omega arith in
    let r : at + 8 + 4 + 4 + 4 ≡ at + 20 = omega arith in
    let s : at + 8 + 4 + 4 + 4 + 2 ≡ at + 22 = omega arith in
    let e : at + 8 + 4 + 4 + 4 + 2 + 2 ≡ at + 24 = omega arith in
    let la : is_latitude (big_number 4 (drop (at + 8 + 4) w)) ≡ true =
    ap (λ (t : ℕ). is_latitude (big_number 4 (drop t w))) p ∙ latitude in
    let lo : is_longitude (big_number 4 (drop (at + 8 + 4 + 4) w)) ≡ true =
    ap (λ (t : ℕ). is_longitude (big_number 4 (drop t w))) q ∙ longitude in
    let n0 = number_at-here packet_faults 8 at w (omega arith) in
    let n1 = number_at-here packet_faults 4 (at + 8) w (omega arith) in
    let n2 = number_at-here packet_faults 4 (at + 8 + 4) w (omega arith) in
    let n3 = number_at-here packet_faults 4 (at + 8 + 4 + 4) w (omega arith) in
    let n4 = number_at-here packet_faults 2 (at + 8 + 4 + 4 + 4) w (omega arith) in
    let n5 = number_at-here packet_faults 2 (at + 8 + 4 + 4 + 4 + 2) w (omega arith) in
    rw (n0, individual, n1, n2, la, n3, lo, n4, n5)
    (ap (λ (v : PositionVector). vector_reading v (at + 8 + 4 + 4 + 4 + 2 + 2))
    (same_vector w (big_number 8 (drop at w))
    (big_number 4 (drop (at + 8) w)) _ _ _ _ _ _ _ _ p q r s)
    ∙ ap (vector_reading (vector_at at w)) e)

pub area_judged : (shape : Shape) (w : List ℕ) → 54 ≤ length w
    → is_latitude (big_number 4 (drop 40 w)) ≡ true → is_longitude (big_number 4 (drop 44 w)) ≡ true
    → 1 ≤ big_number 2 (drop 48 w) → is_second shape (big_number 2 (drop 50 w)) ≡ true
    → is_angle shape (big_number 2 (drop 52 w)) ≡ true
    → walk (area_format shape) 40 w ≡ Ok (area_at shape w, 54)
unfolding area_format
area_judged shape w room latitude longitude some second angle =
    let n0 = number_at-here packet_faults 4 40 w (omega arith) in
    let n1 = number_at-here packet_faults 4 44 w (omega arith) in
    let n2 = number_at-here packet_faults 2 48 w (omega arith) in
    let n3 = number_at-here packet_faults 2 50 w (omega arith) in
    let n4 = number_at-here packet_faults 2 52 w (omega arith) in
    rw (n0, latitude, n1, longitude, n2, lt-ltb 0 _ some, n3, second, n4, angle) refl

pub types_then : (left : ℕ) (w : List ℕ) (types : ℕ × ℕ) → walk type_format 4 w ≡ Ok (types, 6)
    → walk (common_format left) 4 w ≡ walk (rest_format left types) 6 w
unfolding common_format
types_then left w types is = walk_after packet_faults type_format (rest_format left) 4 w ∙ rw is refl

-- what the Common Header says, once its types are known
abbrev pub common_at : ℕ × ℕ → List ℕ → Common
common_at types w =
    record {
      kind = kind_of types.0;
      shape = shape_of types.1;
      class = big_number 1 (drop 6 w);
      mobile = nat_le 128 (big_number 1 (drop 7 w));
      length = big_number 2 (drop 8 w);
      max_hops = big_number 1 (drop 10 w);
    }

pub common_judged : (left : ℕ) (w : List ℕ) (types : ℕ × ℕ) → walk type_format 4 w ≡ Ok (types, 6)
    → 12 ≤ length w → big_number 1 (drop 7 w) % 128 ≡ 0
    → is_length types.0 (big_number 2 (drop 8 w)) ≡ true → left ≤ big_number 1 (drop 10 w)
    → big_number 1 (drop 11 w) ≡ 0
    → walk (common_format left) 4 w ≡ Ok (common_at types w, 12)
common_judged left w types is room flags size hops reserved =
    let n0 = number_at-here packet_faults 1 6 w (omega arith) in
    let n1 = number_at-here packet_faults 1 7 w (omega arith) in
    let n2 = number_at-here packet_faults 2 8 w (omega arith) in
    let n3 = number_at-here packet_faults 1 10 w (omega arith) in
    let n4 = number_at-here packet_faults 1 11 w (omega arith) in
    let f : eqb (big_number 1 (drop 7 w) % 128) 0 ≡ true = eq-eqb _ _ flags in
    let h : nat_le left (big_number 1 (drop 10 w)) ≡ true = grind arith in
    let z : is_zero (big_number 1 (drop 11 w)) ≡ true = eq-eqb _ _ reserved in
    types_then left w types is ∙ rw (n0, n1, f, n2, size, n3, h, n4, z) refl

-- a packet for an area, up to the end of its area
pub area_packet_then : (kind : AreaKind) (shape : Shape) (size : ℕ) (w : List ℕ) (n z : ℕ)
    (v : PositionVector) (a : GeoArea) → number_at 2 12 w ≡ Ok n → number_at 2 14 w ≡ Ok z → z ≡ 0
    → walk vector_format 16 w ≡ Ok (v, 40) → walk (area_format shape) 40 w ≡ Ok (a, 54)
    → walk (area_packet_format kind shape size) 12 w ≡ walk (area_packet_rest kind v n a size) 54 w
area_packet_then kind shape size w n z v a number_is reserved zero vector_is area_is =
    rw (number_is, reserved, zero)
    (walk_after packet_faults vector_format
    (λ v. after (area_format shape) λ a. area_packet_rest kind v n a size) 16 w
    ∙ rw vector_is (walk_after packet_faults (area_format shape) (λ a. area_packet_rest kind v n a size) 40 w
    ∙ rw area_is refl))

signed_again : (z : ℤ) (n : ℕ) → n < 2 ^ 32 → z ≡ cast_signed w32 n
    → cast_signed w32 (cast_unsigned w32 z) ≡ cast_signed w32 n
signed_again z n fits e =
    ap (λ (x : ℤ). cast_signed w32 (cast_unsigned w32 x)) e
    ∙ ap (λ (x : ℕ). cast_signed w32 x) (of_z-to_z w32 n fits)

-- a vector of numbers that stand at a place
pub vector_of_fields : (w : List ℕ) (at a t la lo m h : ℕ) (lat lon : ℤ) (place : Position)
    → la < 2 ^ 32 → lo < 2 ^ 32
    → place ≡ record {
      latitude = cast_signed w32 (cast_unsigned w32 lat);
      longitude = cast_signed w32 (cast_unsigned w32 lon);
    } → lat ≡ cast_signed w32 la → lon ≡ cast_signed w32 lo
    → a ≡ big_number 8 (drop (at + 0) w) → t ≡ big_number 4 (drop (at + 8) w)
    → la ≡ big_number 4 (drop (at + 12) w) → lo ≡ big_number 4 (drop (at + 16) w)
    → m ≡ big_number 2 (drop (at + 20) w) → h ≡ big_number 2 (drop (at + 22) w)
    → (let v : PositionVector = record {
      address = a;
      timestamp = t;
      place = place;
      accurate = nat_le (2 ^ 15) m;
      speed = speed_of (m % 2 ^ 15);
      heading = h;
    } in v) ≡ vector_at at w
vector_of_fields w at a t la lo m h lat lon place fla flo ep elat elon ea et ela elo em eh =
    let first : at + 0 ≡ at = omega arith in
    let ea' : a ≡ big_number 8 (drop at w) = ea ∙ ap (λ (n : ℕ). big_number 8 (drop n w)) first in
    rw (
      ep,
      signed_again lat la fla elat,
      signed_again lon lo flo elon,
      ea',
      et,
      ela,
      elo,
      em,
      eh,
    ) refl

-- an area of numbers that stand in a packet
pub area_of_fields : (shape : Shape) (w : List ℕ) (la lo a b g : ℕ) (lat lon : ℤ) (place : Position)
    → la < 2 ^ 32 → lo < 2 ^ 32
    → place ≡ record {
      latitude = cast_signed w32 (cast_unsigned w32 lat);
      longitude = cast_signed w32 (cast_unsigned w32 lon);
    } → lat ≡ cast_signed w32 la → lon ≡ cast_signed w32 lo
    → la ≡ big_number 4 (drop 40 w) → lo ≡ big_number 4 (drop 44 w) → a ≡ big_number 2 (drop 48 w)
    → b ≡ big_number 2 (drop 50 w) → g ≡ big_number 2 (drop 52 w)
    → (let x : GeoArea = record { shape = shape; centre = place; a = a; b = b; angle = g } in
    x) ≡ area_at shape w
area_of_fields shape w la lo a b g lat lon place fla flo ep elat elon ela elo ea eb eg =
    rw (ep, signed_again lat la fla elat, signed_again lon lo flo elon, ela, elo, ea, eb, eg) refl

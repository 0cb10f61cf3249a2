-- Each packet of the profile is one of the standard.
use Rattle.std.proofs.Common.{◌≡◌, ℕ, ◌+◌, ◌*◌, ◌^◌, ◌<◌, ℤ, List, [], ◌∷◌, ◌++◌, length}
use Rattle.std.proofs.Common.{Bool, true, false, cond, refl, sym, ap, ◌∙◌, arith}
use Rattle.std.proofs.lemmas.Int.{ints}
use Rattle.std.proofs.lemmas.List.{append-nil, take_all}
use Rattle.byteorder.specs.Endian.{big_number, big_bytes}
use Rattle.byteorder.specs.Numbers.{big_from-lt}
use Rattle.its_gnvalue.specs.Values.{PositionVector, IsLongitude}
use Rattle.its_geometry.specs.declared.area.Shape.{Shape}
use Rattle.its_geometry.specs.declared.area.Shape.TheVariants.{Circle, Rectangle, Ellipse}
use Rattle.its_geometry.specs.Area.{GeoArea, HasMeasures}
use Rattle.its_model.specs.Packet.{Pdu, Body, beacon, shb, gbc, gac, Message}
use Rattle.its_formats.specs.Bytes.{IsBytes}
use Rattle.its_headers.specs.Encoding.{Encodes as EncodesPdu, encoding as encoding_of_pdu, IsPacket}
use Rattle.its_headers.specs.Encoding.{IsVector, IsArea, IsBody, IsMedia, IsMessage, payload_of}
use Rattle.its_headers.specs.Encoding.{message_octets, basic_header, common_header, extended_header}
use Rattle.its_headers.specs.Encoding.{payload_length, vector_octets, header_type, common_next}
use Rattle.its_headers.proofs.FieldTests.{longitude_from_latitude}
use Rattle.its_formats.proofs.Numbers.{big_bytes-big_number}
use Rattle.its_headers.proofs.Packets.{IsBytes-message}
use Rattle.its_outside.specs.declared.fields.BasicNext.TheVariants as basics
use Rattle.its_outside.specs.declared.fields.NextHeader.{NextHeader}
use Rattle.its_outside.specs.declared.fields.NextHeader.TheVariants as nexts
use Rattle.its_outside.specs.declared.fields.CommonFields.{CommonFields}
use Rattle.its_outside.specs.declared.fields.LongVector.{LongVector}
use Rattle.its_outside.specs.declared.fields.AreaFields.{AreaFields}
use Rattle.its_outside.specs.declared.fields.ExtendedFields.{ExtendedFields}
use Rattle.its_outside.specs.declared.fields.ExtendedFields.TheVariants as extended
use Rattle.its_outside.specs.Encoding.{Standard, encoding, Encodes, IsStandard, IsSigned32}
use Rattle.its_outside.specs.Encoding.{IsLongVector, IsAreaFields, IsExtended, IsSize, next_code}
use Rattle.its_outside.specs.Encoding.{type_code, common_octets, extended_octets}

abbrev long_of : PositionVector → LongVector
long_of v = record {
  address = v.address;
  timestamp = v.timestamp;
  latitude = v.place.latitude;
  longitude = v.place.longitude;
  accurate = v.accurate;
  speed = v.speed;
  heading = v.heading;
}

abbrev area_of : GeoArea → AreaFields
area_of a = record {
  shape = a.shape;
  latitude = a.centre.latitude;
  longitude = a.centre.longitude;
  a = a.a;
  b = a.b;
  angle = a.angle;
  reserved = 0;
}

abbrev extended_of : Body → ExtendedFields
extended_of beacon = extended.Beacon
extended_of (shb media message) = extended.Shb (big_number 4 media)
extended_of (gbc n area message) = extended.Gbc (record { number = n; reserved = 0 }) (area_of area)
extended_of (gac n area message) = extended.Gac (record { number = n; reserved = 0 }) (area_of area)

abbrev next_of_body : Body → NextHeader
next_of_body beacon = nexts.Unspecified
next_of_body (shb media message) = nexts.BtpB
next_of_body (gbc n area message) = nexts.BtpB
next_of_body (gac n area message) = nexts.BtpB

abbrev common_of : Pdu → CommonFields
common_of p = record {
  next = next_of_body p.body;
  next_reserved = 0;
  class = p.class;
  mobile = p.mobile;
  flags_reserved = 0;
  max_hops = p.max_hops;
  reserved = 0;
}

abbrev standard_of : Pdu → ℕ → Standard
standard_of p left = record {
  fields = record {
    basic = record {
      next = basics.CommonHeader;
      reserved = 0;
      lifetime = p.lifetime;
      left = left;
    };
    common = common_of p;
    source = long_of p.vector;
    extended = extended_of p.body;
  };
  payload = payload_of p.body;
}

-- ---- ranges

signed_from_longitude : (z : ℤ) → IsLongitude z → IsSigned32 z
signed_from_longitude z h = (omega (arith, ints), omega (arith, ints))

angle_small : (shape : Shape) (a b angle : ℕ) → HasMeasures shape a b angle → angle < 2 ^ 16
angle_small Circle a b angle h = omega (arith, h.2)
angle_small Rectangle a b angle h = omega (arith, h.2)
angle_small Ellipse a b angle h = omega (arith, h.2)

long_fits : (v : PositionVector) → IsVector v → IsLongVector (long_of v)
long_fits v h = record {
  address = h.address;
  timestamp = h.timestamp;
  latitude = signed_from_longitude v.place.latitude
      (longitude_from_latitude v.place.latitude h.latitude);
  longitude = signed_from_longitude v.place.longitude h.longitude;
  speed = h.speed;
  heading = h.heading;
}

area_fits : (a : GeoArea) → IsArea a → IsAreaFields (area_of a)
area_fits a h = record {
  latitude = signed_from_longitude a.centre.latitude
      (longitude_from_latitude a.centre.latitude h.latitude);
  longitude = signed_from_longitude a.centre.longitude h.longitude;
  a = h.a;
  b = h.b;
  angle = angle_small a.shape a.a a.b a.angle h.measures;
  reserved = omega arith;
}

extended_fits : (b : Body) → IsBody b → IsExtended (extended_of b)
extended_fits beacon h = tt
extended_fits (shb media message) h = big_from-lt 0 4 media h.0.bytes
extended_fits (gbc n area message) h =
    (record { number = h.0; reserved = omega arith }, area_fits area h.1)
extended_fits (gac n area message) h =
    (record { number = h.0; reserved = omega arith }, area_fits area h.1)

message_small : (m : Message) → IsMessage m → length (message_octets m) < 2 ^ 16
message_small m h = omega (arith, h.size)

size_fits : (b : Body) → IsBody b → IsSize (extended_of b) (length (payload_of b))
size_fits beacon h = refl
size_fits (shb media message) h = message_small message h.1
size_fits (gbc n area message) h = message_small message h.2
size_fits (gac n area message) h = message_small message h.2

no_bytes : IsBytes []
no_bytes i = omega arith

payload_fits : (b : Body) → IsBody b → IsBytes (payload_of b)
payload_fits beacon h = no_bytes
payload_fits (shb media message) h = IsBytes-message message h.1
payload_fits (gbc n area message) h = IsBytes-message message h.2
payload_fits (gac n area message) h = IsBytes-message message h.2

fits : (p : Pdu) (left : ℕ) → IsPacket p left → IsStandard (standard_of p left)
fits p left h = record {
  basic = record {
    reserved = omega arith;
    lifetime = h.lifetime;
    left = omega (arith, h.left_below, h.max_hops);
  };
  common = record {
    next_reserved = omega arith;
    class = h.class;
    flags_reserved = omega arith;
    max_hops = h.max_hops;
    left_below = h.left_below;
    reserved = omega arith;
  };
  source = long_fits p.vector h.vector;
  extended = extended_fits p.body h.body;
  size = size_fits p.body h.body;
  payload = payload_fits p.body h.body;
}

-- ---- octets

media_back : (media : List ℕ) → IsMedia media → big_bytes 4 (big_number 4 media) ≡ media
media_back media h =
    big_bytes-big_number 4 media (omega (arith, h.size)) h.bytes
    ∙ take_all 4 media (omega (arith, h.size))

-- what follows the Common Header
rest_same : (v : PositionVector) (b : Body) → IsBody b
    → extended_header v b ≡ extended_octets (long_of v) (extended_of b) ++ payload_of b
rest_same v beacon h = sym (append-nil (vector_octets v))
rest_same v (shb media message) h =
    ap (λ (t : List ℕ). vector_octets v ++ (t ++ message_octets message))
    (sym (media_back media h.0))
rest_same v (gbc n area message) h = refl
rest_same v (gac n area message) h = refl

size_same : (b : Body) → payload_length b ≡ length (payload_of b)
size_same beacon = refl
size_same (shb media message) = omega arith
size_same (gbc n area message) = omega arith
size_same (gac n area message) = omega arith

heads_same : (b : Body)
    → (16 * common_next b ≡ 16 * next_code (next_of_body b) + 0)
    × (header_type b ≡ type_code (extended_of b))
heads_same beacon = (refl, refl)
heads_same (shb media message) = (refl, refl)
heads_same (gbc n area message) = (refl, refl)
heads_same (gac n area message) = (refl, refl)

flags_same : (mobile : Bool) → cond mobile 128 0 ≡ cond mobile 128 0 + 0
flags_same true = refl
flags_same false = refl

common_text : (n n' t t' class f f' l l' max : ℕ) → n ≡ n' → t ≡ t' → f ≡ f' → l ≡ l'
    → n ∷ t ∷ class ∷ f ∷ (big_bytes 2 l ++ max ∷ 0 ∷ []) ≡ n' ∷ t' ∷ class ∷ f'
    ∷ (big_bytes 2 l' ++ max ∷ 0 ∷ [])
common_text n n' t t' class f f' l l' max e0 e1 e2 e3 = rw (e0, e1, e2, e3) refl

common_same : (p : Pdu)
    → common_header p ≡ common_octets (common_of p) (type_code (extended_of p.body))
    (length (payload_of p.body))
common_same p =
    let heads = heads_same p.body in
    common_text _ _ _ _ p.class _ _ _ _ p.max_hops heads.0 heads.1 (flags_same p.mobile)
    (size_same p.body)

same : (p : Pdu) (left : ℕ) → IsPacket p left
    → encoding_of_pdu p left ≡ encoding (standard_of p left)
same p left h =
    ap (λ (t : List ℕ). basic_header p left ++ (t ++ extended_header p.vector p.body))
    (common_same p)
    ∙ ap (λ (t : List ℕ). basic_header p left
    ++ (common_octets (common_of p) (type_code (extended_of p.body)) (length (payload_of p.body))
    ++ t)) (rest_same p.vector p.body h.body)

pub profile_is_standard : (p : Pdu) (left : ℕ) (w : List ℕ) → EncodesPdu p left w
    → (q : Standard) × Encodes q w
profile_is_standard p left w e = (
  standard_of p left,
  record { fields = fits p left e.fields; octets = e.octets ∙ same p left e.fields },
)

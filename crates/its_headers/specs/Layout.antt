-- The formats of packets: each field with its width, its fault and its test, in the order of the
-- wire. Contracts of private functions cite them; public clauses cite Encoding and FirstFault.
use Rattle.std.specs.Prelude.{ℕ, ◌+◌, ◌-◌, ◌/◌, ◌%◌, ◌^◌, ℤ, pos, negsuc, suc, int_lt, Bool, true}
use Rattle.std.specs.Prelude.{◌&&◌, nat_lt, nat_le, ◌==◌, ◌||◌, if◌then◌else◌, List, drop}
use Rattle.byteorder.specs.Endian.{big_number}
use Rattle.std.specs.Int.{w32, cast_signed}
use Rattle.its_gnvalue.specs.Values.{PositionVector}
use Rattle.its_faults.specs.declared.packet.FaultKind.TheVariants.{Truncated, Version, BasicNext}
use Rattle.its_faults.specs.declared.packet.FaultKind.TheVariants.{Reserved, HopZero, CommonNext}
use Rattle.its_faults.specs.declared.packet.FaultKind.TheVariants.{HeaderType, SubType, HopAboveMax}
use Rattle.its_faults.specs.declared.packet.FaultKind.TheVariants.{PayloadLength}
use Rattle.its_faults.specs.declared.packet.FaultKind.TheVariants.{Position as BadPosition}
use Rattle.its_faults.specs.declared.packet.FaultKind.TheVariants.{Area as BadArea}
use Rattle.its_formats.specs.Format.{ends, number, halves, octets, after}
use Rattle.its_headers.specs.Format.{Format}
use Rattle.its_geometry.specs.declared.area.Shape.{Shape}
use Rattle.its_geometry.specs.declared.area.Shape.TheVariants.{Circle, Rectangle, Ellipse}
use Rattle.its_geometry.specs.Area.{GeoArea}
use Rattle.its_model.specs.Packet.{Pdu, Body, beacon, shb, AreaKind, geobroadcast, geoanycast}
use Rattle.its_model.specs.Packet.{area_body}
use Rattle.its_headers.specs.Fields.{message_of}
use Rattle.its_headers.specs.declared.kind.Kind.{Kind}
use Rattle.its_headers.specs.declared.kind.Kind.TheVariants.{Beacon, Shb, Gbc, Gac}

-- a field that is never wrong
abbrev pub any : ℕ → Bool
any _ = true

-- a reserved field
abbrev pub is_zero : ℕ → Bool
is_zero n = n == 0

-- the Basic Header in front of what this next header names says lifetime and hops left
unfoldable pub basic_format_of : ℕ → Format (ℕ × ℕ)
basic_format_of next =
    halves Version (λ v. v == 1) BasicNext (λ _ n. n == next) λ _ _.
    number 1 Reserved is_zero λ _.
    number 1 Truncated any λ lifetime.
    number 1 HopZero (λ left. nat_lt 0 left) λ left.
    ends (lifetime, left)

-- the Basic Header in front of a Common Header
abbrev pub basic_format : Format (ℕ × ℕ)
basic_format = basic_format_of 1

-- a secured packet: a Basic Header, and behind it at least one octet of a message
abbrev pub secured_format : Format (ℕ × ℕ)
secured_format =
    after (basic_format_of 2) λ basic.
    number 1 Truncated any λ _.
    ends basic

-- what stands in the common header
pub record Common : Type 0 where
  pub kind : Kind
  pub shape : Shape
  pub class : ℕ
  pub mobile : Bool
  pub length : ℕ
  pub max_hops : ℕ

-- the next headers: nothing, or BTP-B
abbrev pub is_next : ℕ → Bool
is_next n = n == 0 || n == 2

-- the header types that may stand after a next header
abbrev pub is_type : ℕ → ℕ → Bool
is_type next t = if next == 0 then t == 1 else t == 3 || t == 4 || t == 5

-- the sub-types of a header type: the shapes of a geobroadcast or geoanycast, else 0
abbrev pub is_subtype : ℕ → ℕ → Bool
is_subtype type s = if type == 3 || type == 4 then nat_le s 2 else s == 0

-- the payload lengths of a header type
abbrev pub is_length : ℕ → ℕ → Bool
is_length type n = if type == 1 then n == 0 else nat_le 4 n && nat_le n 1398

-- the next header of a kind
abbrev pub next_of : Kind → ℕ
next_of Beacon = 0
next_of Shb = 2
next_of Gbc = 2
next_of Gac = 2

-- the header type of a kind
abbrev pub type_of : Kind → ℕ
type_of Beacon = 1
type_of Shb = 5
type_of Gbc = 4
type_of Gac = 3

-- the kind that a header type names
abbrev pub kind_of : ℕ → Kind
kind_of type =
    if type == 1 then Beacon else if type == 5 then Shb else if type == 3 then Gac else Gbc

-- the shape that a sub-type names
abbrev pub shape_of : ℕ → Shape
shape_of s = if s == 0 then Circle else if s == 1 then Rectangle else Ellipse

-- the next header of the Common Header, and then header type and sub-type
unfoldable pub type_format : Format (ℕ × ℕ)
type_format =
    halves CommonNext is_next Reserved (λ _ r. r == 0) λ next _.
    halves HeaderType (is_type next) SubType is_subtype λ type s.
    ends (type, s)

-- what follows header type and sub-type in the Common Header
abbrev pub rest_format : ℕ → ℕ × ℕ → Format Common
rest_format left types =
    number 1 Truncated any λ class.
    number 1 Reserved (λ flags. flags % 128 == 0) λ flags.
    number 2 PayloadLength (is_length types.0) λ length.
    number 1 HopAboveMax (λ max. nat_le left max) λ max.
    number 1 Reserved is_zero λ _.
    ends (record {
      kind = kind_of types.0;
      shape = shape_of types.1;
      class = class;
      mobile = nat_le 128 flags;
      length = length;
      max_hops = max;
    })

-- the Common Header of a packet with so many hops left
unfoldable pub common_format : ℕ → Format Common
common_format left = after type_format (rest_format left)

-- tenths of a microdegree
abbrev pub latitude_test : ℤ → Bool
latitude_test z = int_lt (negsuc 900000000) z && int_lt z (pos 900000001)

-- tenths of a microdegree
abbrev pub longitude_test : ℤ → Bool
longitude_test z = int_lt (negsuc 1800000000) z && int_lt z (pos 1800000001)

-- an address whose MID is no group
abbrev pub is_individual : ℕ → Bool
is_individual address = address / 2 ^ 40 % 2 == 0

-- four octets that are a latitude, in two's complement
abbrev pub is_latitude : ℕ → Bool
is_latitude n = latitude_test (cast_signed w32 n)

-- four octets that are a longitude, in two's complement
abbrev pub is_longitude : ℕ → Bool
is_longitude n = longitude_test (cast_signed w32 n)

-- the speed of which 15 bits are the two's complement
abbrev pub speed_of : ℕ → ℤ
speed_of n = if nat_lt n (2 ^ 14) then pos n else negsuc (2 ^ 15 - suc n)

-- the vector of which these numbers stand on the wire
abbrev pub vector_from : ℕ → ℕ → ℕ → ℕ → ℕ → ℕ → PositionVector
vector_from address timestamp latitude longitude motion heading =
    record {
      address = address;
      timestamp = timestamp;
      place = record { latitude = cast_signed w32 latitude; longitude = cast_signed w32 longitude };
      accurate = nat_le (2 ^ 15) motion;
      speed = speed_of (motion % 2 ^ 15);
      heading = heading;
    }

-- the vector of which the octets begin at a place
abbrev pub vector_at : ℕ → List ℕ → PositionVector
vector_at at w =
    vector_from (big_number 8 (drop at w)) (big_number 4 (drop (at + 8) w))
    (big_number 4 (drop (at + 12) w)) (big_number 4 (drop (at + 16) w))
    (big_number 2 (drop (at + 20) w)) (big_number 2 (drop (at + 22) w))

-- a long position vector
unfoldable pub vector_format : Format PositionVector
vector_format =
    number 8 BadPosition is_individual λ address.
    number 4 Truncated any λ timestamp.
    number 4 BadPosition is_latitude λ latitude.
    number 4 BadPosition is_longitude λ longitude.
    number 2 Truncated any λ motion.
    number 2 Truncated any λ heading.
    ends (vector_from address timestamp latitude longitude motion heading)

-- a circle has b 0, and the other shapes have another
abbrev pub is_second : Shape → ℕ → Bool
is_second Circle b = is_zero b
is_second Rectangle b = nat_lt 0 b
is_second Ellipse b = nat_lt 0 b

-- a circle has angle 0, and the other shapes one below 360 degrees
abbrev pub is_angle : Shape → ℕ → Bool
is_angle Circle angle = is_zero angle
is_angle Rectangle angle = nat_lt angle 360
is_angle Ellipse angle = nat_lt angle 360

-- the area of this shape of which these numbers stand on the wire
abbrev pub area_from : Shape → ℕ → ℕ → ℕ → ℕ → ℕ → GeoArea
area_from shape latitude longitude a b angle =
    record {
      shape = shape;
      centre = record {
        latitude = cast_signed w32 latitude;
        longitude = cast_signed w32 longitude;
      };
      a = a;
      b = b;
      angle = angle;
    }

-- the area, of this shape, of the octets of a packet
abbrev pub area_at : Shape → List ℕ → GeoArea
area_at shape w =
    area_from shape (big_number 4 (drop 40 w)) (big_number 4 (drop 44 w))
    (big_number 2 (drop 48 w)) (big_number 2 (drop 50 w)) (big_number 2 (drop 52 w))

-- the area of a geobroadcast or geoanycast
unfoldable pub area_format : Shape → Format GeoArea
area_format shape =
    number 4 BadArea is_latitude λ latitude.
    number 4 BadArea is_longitude λ longitude.
    number 2 BadArea (λ a. nat_lt 0 a) λ a.
    number 2 BadArea (is_second shape) λ b.
    number 2 BadArea (is_angle shape) λ angle.
    ends (area_from shape latitude longitude a b angle)

-- what follows the Common Header: a vector and what the kind has beside it
abbrev pub beacon_format : Format (PositionVector × Body)
beacon_format = after vector_format λ vector. ends (vector, beacon)

-- a payload of so many octets
abbrev pub shb_format : ℕ → Format (PositionVector × Body)
shb_format length =
    after vector_format λ vector.
    octets 4 λ media.
    octets length λ payload.
    ends (vector, shb media (message_of payload))

-- what follows the area: two reserved octets, and a payload of so many
abbrev pub area_packet_rest : AreaKind → PositionVector → ℕ → GeoArea → ℕ
    → Format (PositionVector × Body)
area_packet_rest kind vector sequence area length =
    number 2 Reserved is_zero λ _.
    octets length λ payload.
    ends (vector, area_body kind sequence area (message_of payload))

-- a packet for an area of this shape, and a payload of so many octets
abbrev pub area_packet_format : AreaKind → Shape → ℕ → Format (PositionVector × Body)
area_packet_format kind shape length =
    number 2 Truncated any λ sequence.
    number 2 Reserved is_zero λ _.
    after vector_format λ vector.
    after (area_format shape) λ area.
    area_packet_rest kind vector sequence area length

-- what follows the Common Header, by the kind that it names
abbrev pub body_format : Kind → Shape → ℕ → Format (PositionVector × Body)
body_format Beacon shape length = beacon_format
body_format Shb shape length = shb_format length
body_format Gbc shape length = area_packet_format geobroadcast shape length
body_format Gac shape length = area_packet_format geoanycast shape length

-- what follows a Basic Header that says lifetime and hops left: the rest of the packet
abbrev pub plain_format : ℕ × ℕ → Format (Pdu × ℕ)
plain_format basic =
    after (common_format basic.1) λ common.
    after (body_format common.kind common.shape common.length) λ x.
    ends (
      record {
        vector = x.0;
        lifetime = basic.0;
        class = common.class;
        mobile = common.mobile;
        max_hops = common.max_hops;
        body = x.1;
      },
      basic.1,
    )

-- a packet, and how many hops it has left
abbrev pub packet_format : Format (Pdu × ℕ)
packet_format = after basic_format plain_format

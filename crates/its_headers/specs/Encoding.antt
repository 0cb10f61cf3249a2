-- The octets of a packet on the wire (EN 302 636-4-1 clause 9, EN 302 636-5-1). All numbers of
-- several octets go highest first.
use Rattle.std.specs.Prelude.{◌≡◌, ◌≤◌, ◌<◌, ℕ, ◌+◌, ◌*◌, ◌-◌, ◌^◌, suc, ℤ, pos, negsuc, Bool, List}
use Rattle.std.specs.Prelude.{length, [], ◌∷◌, ◌++◌, if◌then◌else◌}
use Rattle.std.specs.Int.{w32, cast_unsigned}
use Rattle.byteorder.specs.Endian.{big_bytes}
use Rattle.its_gnvalue.specs.Values.{PositionVector, IsIndividual, IsLatitude, IsLongitude, IsSpeed}
use Rattle.its_geometry.specs.declared.area.Shape.{Shape}
use Rattle.its_geometry.specs.declared.area.Shape.TheVariants.{Circle, Rectangle, Ellipse}
use Rattle.its_geometry.specs.Area.{GeoArea, HasMeasures}
use Rattle.its_model.specs.Packet.{Message, Body, beacon, shb, gbc, gac, Pdu}
pub use Rattle.its_formats.specs.Bytes.{IsBytes}

-- the next header of the Common Header: nothing after a beacon, else BTP-B
abbrev pub common_next : Body → ℕ
common_next beacon = 0
common_next (shb media message) = 2
common_next (gbc number area message) = 2
common_next (gac number area message) = 2

-- the sub-type of a geobroadcast or geoanycast
abbrev pub shape_code : Shape → ℕ
shape_code Circle = 0
shape_code Rectangle = 1
shape_code Ellipse = 2

-- header type and sub-type, a half octet each: BEACON 1 0, TSB 5 0 (single-hop), GBC 4 and the
-- shape, GAC 3 and the shape
abbrev pub header_type : Body → ℕ
header_type beacon = 16
header_type (shb media message) = 80
header_type (gbc number area message) = 64 + shape_code area.shape
header_type (gac number area message) = 48 + shape_code area.shape

-- the length of what follows the extended header: a BTP-B header of four octets and its payload
abbrev pub payload_length : Body → ℕ
payload_length beacon = 0
payload_length (shb media message) = 4 + length message.payload
payload_length (gbc number area message) = 4 + length message.payload
payload_length (gac number area message) = 4 + length message.payload

-- Basic Header: version 1 and next header 1, a reserved octet, lifetime, hops left
abbrev pub basic_header : Pdu → ℕ → List ℕ
basic_header p left = 17 ∷ 0 ∷ p.lifetime ∷ left ∷ []

-- Common Header: next header and a reserved half octet, type and sub-type, class, flags (mobile is
-- the highest), payload length, greatest hops, a reserved octet
abbrev pub common_header : Pdu → List ℕ
common_header p =
    (16 * common_next p.body) ∷ header_type p.body ∷ p.class ∷ (if p.mobile then 128 else 0)
    ∷ (big_bytes 2 (payload_length p.body) ++ p.max_hops ∷ 0 ∷ [])

-- a speed in 15 bits, as two's complement
abbrev pub speed_bits : ℤ → ℕ
speed_bits (pos n) = n
speed_bits (negsuc n) = 2 ^ 15 - suc n

-- the accuracy bit (PAI), then the speed
abbrev pub motion : Bool → ℤ → ℕ
motion accurate speed = (if accurate then 2 ^ 15 else 0) + speed_bits speed

-- a long position vector: address, timestamp, latitude and longitude, accuracy and speed, heading
abbrev pub vector_octets : PositionVector → List ℕ
vector_octets v =
    big_bytes 8 v.address ++ big_bytes 4 v.timestamp
    ++ big_bytes 4 (cast_unsigned w32 v.place.latitude)
    ++ big_bytes 4 (cast_unsigned w32 v.place.longitude) ++ big_bytes 2 (motion v.accurate v.speed)
    ++ big_bytes 2 v.heading

-- latitude and longitude of the centre, distances a and b, angle
abbrev pub area_octets : GeoArea → List ℕ
area_octets a =
    big_bytes 4 (cast_unsigned w32 a.centre.latitude)
    ++ big_bytes 4 (cast_unsigned w32 a.centre.longitude) ++ big_bytes 2 a.a ++ big_bytes 2 a.b
    ++ big_bytes 2 a.angle

-- BTP-B: destination port, destination port info, and what is sent to the port
abbrev pub message_octets : Message → List ℕ
message_octets m = big_bytes 2 m.port ++ big_bytes 2 m.info ++ m.payload

-- the payload of a packet, where there is one
abbrev pub payload_of : Body → List ℕ
payload_of beacon = []
payload_of (shb media message) = message_octets message
payload_of (gbc number area message) = message_octets message
payload_of (gac number area message) = message_octets message

-- of a packet for an area: number, two reserved octets, vector, area, two reserved octets, payload
abbrev pub area_packet_octets : PositionVector → ℕ → GeoArea → Message → List ℕ
area_packet_octets v number area message =
    big_bytes 2 number ++ big_bytes 2 0 ++ vector_octets v ++ area_octets area ++ big_bytes 2 0
    ++ message_octets message

-- What follows the Common Header. An SHB: vector, media-dependent data, payload. A GBC and a GAC
-- are laid out alike.
abbrev pub extended_header : PositionVector → Body → List ℕ
extended_header v beacon = vector_octets v
extended_header v (shb media message) = vector_octets v ++ media ++ message_octets message
extended_header v (gbc number area message) = area_packet_octets v number area message
extended_header v (gac number area message) = area_packet_octets v number area message

-- the octets of a packet with so many hops left
abbrev pub encoding : Pdu → ℕ → List ℕ
encoding p left = basic_header p left ++ common_header p ++ extended_header p.vector p.body

-- a vector whose fields are in range
pub record IsVector (v : PositionVector) : Type 0 where
  pub address : v.address < 2 ^ 64
  pub individual : IsIndividual v.address
  pub timestamp : v.timestamp < 2 ^ 32
  pub latitude : IsLatitude v.place.latitude
  pub longitude : IsLongitude v.place.longitude
  pub speed : IsSpeed v.speed
  pub heading : v.heading < 2 ^ 16

-- an area whose fields are in range
pub record IsArea (area : GeoArea) : Type 0 where
  pub latitude : IsLatitude area.centre.latitude
  pub longitude : IsLongitude area.centre.longitude
  pub a : area.a < 2 ^ 16
  pub b : area.b < 2 ^ 16
  pub measures : HasMeasures area.shape area.a area.b area.angle

-- a message whose fields are in range: with its header it is 4 to 1398 octets long
pub record IsMessage (m : Message) : Type 0 where
  pub port : m.port < 2 ^ 16
  pub info : m.info < 2 ^ 16
  pub size : length m.payload ≤ 1394
  pub bytes : IsBytes m.payload

-- four octets of media-dependent data
pub record IsMedia (media : List ℕ) : Type 0 where
  pub size : length media ≡ 4
  pub bytes : IsBytes media

-- a body whose fields are in range
abbrev pub IsBody : Body → Type 0
IsBody beacon = Unit {0}
IsBody (shb media message) = IsMedia media × IsMessage message
IsBody (gbc number area message) = (number < 2 ^ 16) × IsArea area × IsMessage message
IsBody (gac number area message) = (number < 2 ^ 16) × IsArea area × IsMessage message

-- a packet whose fields are in range, with so many hops left
pub record IsPacket (p : Pdu) (left : ℕ) : Type 0 where
  pub lifetime : p.lifetime < 256
  pub class : p.class < 256
  pub some_left : 0 < left
  pub left_below : left ≤ p.max_hops
  pub max_hops : p.max_hops < 256
  pub vector : IsVector p.vector
  pub body : IsBody p.body

-- The octets are the one encoding of the packet with so many hops left.
pub record Encodes (p : Pdu) (left : ℕ) (w : List ℕ) : Type 0 where
  pub fields : IsPacket p left
  pub octets : w ≡ encoding p left

-- The octets of a packet as EN 302 636-4-1 clause 9 lays it out, in the profile or not. All numbers
-- of several octets go highest first. Each field has all values that its bits can have, but for
-- these: the version is 1, the Basic Header is followed by a Common Header or by something
-- unspecified, the next header is one of four, no more hops are left than there were at most, and a
-- BEACON and the packets of the location service have no payload.
use Rattle.std.specs.Prelude.{◌≡◌, ◌≤◌, ◌<◌, ℕ, ◌+◌, ◌*◌, ◌^◌, ℤ, pos, negsuc, ◌≤ℤ◌, List}
use Rattle.std.specs.Prelude.{length, [], ◌∷◌, ◌++◌, if◌then◌else◌}
use Rattle.std.specs.Int.{w32, cast_unsigned}
use Rattle.byteorder.specs.Endian.{big_bytes}
use Rattle.its_gnvalue.specs.Values.{IsSpeed}
use Rattle.its_headers.specs.Encoding.{IsBytes, motion, shape_code}
use Rattle.its_outside.specs.declared.fields.BasicNext.{BasicNext}
use Rattle.its_outside.specs.declared.fields.BasicNext.TheVariants as basics
use Rattle.its_outside.specs.declared.fields.NextHeader.{NextHeader}
use Rattle.its_outside.specs.declared.fields.NextHeader.TheVariants as nexts
use Rattle.its_outside.specs.declared.fields.BasicFields.{BasicFields}
use Rattle.its_outside.specs.declared.fields.CommonFields.{CommonFields}
use Rattle.its_outside.specs.declared.fields.LongVector.{LongVector}
use Rattle.its_outside.specs.declared.fields.ShortVector.{ShortVector}
use Rattle.its_outside.specs.declared.fields.Sequence.{Sequence}
use Rattle.its_outside.specs.declared.fields.AreaFields.{AreaFields}
use Rattle.its_outside.specs.declared.fields.ExtendedFields.{ExtendedFields}
use Rattle.its_outside.specs.declared.fields.ExtendedFields.TheVariants as extended
use Rattle.its_outside.specs.declared.fields.Fields.{Fields}

-- a packet: its fields and its payload
pub record Standard : Type 0 where
  pub fields : Fields
  pub payload : List ℕ

-- what follows the Basic Header
abbrev pub basic_code : BasicNext → ℕ
basic_code basics.Unspecified = 0
basic_code basics.CommonHeader = 1

-- what follows the extended header
abbrev pub next_code : NextHeader → ℕ
next_code nexts.Unspecified = 0
next_code nexts.BtpA = 1
next_code nexts.BtpB = 2
next_code nexts.Ipv6 = 3

-- header type and sub-type, a half octet each: BEACON 1 0, GEOUNICAST 2 0, GEOANYCAST 3 and the
-- shape, GEOBROADCAST 4 and the shape, TSB 5 0 (single-hop) and 5 1 (multi-hop), LS 6 0 (request)
-- and 6 1 (reply)
abbrev pub type_code : ExtendedFields → ℕ
type_code extended.Beacon = 16
type_code (extended.Guc s d) = 32
type_code (extended.Gac s a) = 48 + shape_code a.shape
type_code (extended.Gbc s a) = 64 + shape_code a.shape
type_code (extended.Shb media) = 80
type_code (extended.Tsb s) = 81
type_code (extended.LsRequest s sought) = 96
type_code (extended.LsReply s d) = 97

-- Basic Header: version 1 and next header, a reserved octet, lifetime, hops left
abbrev pub basic_octets : BasicFields → List ℕ
basic_octets b = (16 + basic_code b.next) ∷ b.reserved ∷ b.lifetime ∷ b.left ∷ []

-- Common Header of such a type and with a payload of so many octets: next header and a reserved
-- half octet, type and sub-type, class, flags (mobile is the highest), payload length, greatest
-- hops, a reserved octet
abbrev pub common_octets : CommonFields → ℕ → ℕ → List ℕ
common_octets c type size =
    (16 * next_code c.next + c.next_reserved) ∷ type ∷ c.class
    ∷ ((if c.mobile then 128 else 0) + c.flags_reserved)
    ∷ (big_bytes 2 size ++ c.max_hops ∷ c.reserved ∷ [])

-- a long position vector: address, timestamp, latitude and longitude, accuracy and speed, heading
abbrev pub long_octets : LongVector → List ℕ
long_octets v =
    big_bytes 8 v.address ++ big_bytes 4 v.timestamp ++ big_bytes 4 (cast_unsigned w32 v.latitude)
    ++ big_bytes 4 (cast_unsigned w32 v.longitude) ++ big_bytes 2 (motion v.accurate v.speed)
    ++ big_bytes 2 v.heading

-- a short position vector: address, timestamp, latitude and longitude
abbrev pub short_octets : ShortVector → List ℕ
short_octets v =
    big_bytes 8 v.address ++ big_bytes 4 v.timestamp ++ big_bytes 4 (cast_unsigned w32 v.latitude)
    ++ big_bytes 4 (cast_unsigned w32 v.longitude)

-- a sequence number, and two reserved octets
abbrev pub sequence_octets : Sequence → List ℕ
sequence_octets s = big_bytes 2 s.number ++ big_bytes 2 s.reserved

-- latitude and longitude of the centre, distances a and b, angle, two reserved octets
abbrev pub area_octets : AreaFields → List ℕ
area_octets a =
    big_bytes 4 (cast_unsigned w32 a.latitude) ++ big_bytes 4 (cast_unsigned w32 a.longitude)
    ++ big_bytes 2 a.a ++ big_bytes 2 a.b ++ big_bytes 2 a.angle ++ big_bytes 2 a.reserved

-- the extended header of a packet from this source
abbrev pub extended_octets : LongVector → ExtendedFields → List ℕ
extended_octets v extended.Beacon = long_octets v
extended_octets v (extended.Guc s d) = sequence_octets s ++ long_octets v ++ short_octets d
extended_octets v (extended.Gac s a) = sequence_octets s ++ long_octets v ++ area_octets a
extended_octets v (extended.Gbc s a) = sequence_octets s ++ long_octets v ++ area_octets a
extended_octets v (extended.Shb media) = long_octets v ++ big_bytes 4 media
extended_octets v (extended.Tsb s) = sequence_octets s ++ long_octets v
extended_octets v (extended.LsRequest s sought) =
    sequence_octets s ++ long_octets v ++ big_bytes 8 sought
extended_octets v (extended.LsReply s d) = sequence_octets s ++ long_octets v ++ short_octets d

-- the octets of a packet
abbrev pub encoding : Standard → List ℕ
encoding p =
    basic_octets p.fields.basic
    ++ common_octets p.fields.common (type_code p.fields.extended) (length p.payload)
    ++ extended_octets p.fields.source p.fields.extended ++ p.payload

-- a signed number of 32 bits
abbrev pub IsSigned32 : ℤ → Type 0
IsSigned32 z = (negsuc 2147483647 ≤ℤ z) × (z ≤ℤ pos 2147483647)

-- the fields of a Basic Header
pub record IsBasicFields (b : BasicFields) : Type 0 where
  pub reserved : b.reserved < 256
  pub lifetime : b.lifetime < 256
  pub left : b.left < 256

-- the fields of a Common Header after a Basic Header that has so many hops left
pub record IsCommonFields (left : ℕ) (c : CommonFields) : Type 0 where
  pub next_reserved : c.next_reserved < 16
  pub class : c.class < 256
  pub flags_reserved : c.flags_reserved < 128
  pub max_hops : c.max_hops < 256
  pub left_below : left ≤ c.max_hops
  pub reserved : c.reserved < 256

-- a long position vector
pub record IsLongVector (v : LongVector) : Type 0 where
  pub address : v.address < 2 ^ 64
  pub timestamp : v.timestamp < 2 ^ 32
  pub latitude : IsSigned32 v.latitude
  pub longitude : IsSigned32 v.longitude
  pub speed : IsSpeed v.speed
  pub heading : v.heading < 2 ^ 16

-- a short position vector
pub record IsShortVector (v : ShortVector) : Type 0 where
  pub address : v.address < 2 ^ 64
  pub timestamp : v.timestamp < 2 ^ 32
  pub latitude : IsSigned32 v.latitude
  pub longitude : IsSigned32 v.longitude

-- a sequence number and its reserved octets
pub record IsSequence (s : Sequence) : Type 0 where
  pub number : s.number < 2 ^ 16
  pub reserved : s.reserved < 2 ^ 16

-- an area and its reserved octets
pub record IsAreaFields (area : AreaFields) : Type 0 where
  pub latitude : IsSigned32 area.latitude
  pub longitude : IsSigned32 area.longitude
  pub a : area.a < 2 ^ 16
  pub b : area.b < 2 ^ 16
  pub angle : area.angle < 2 ^ 16
  pub reserved : area.reserved < 2 ^ 16

-- what an extended header has besides the source's vector
abbrev pub IsExtended : ExtendedFields → Type 0
IsExtended extended.Beacon = Unit {0}
IsExtended (extended.Guc s d) = IsSequence s × IsShortVector d
IsExtended (extended.Gac s a) = IsSequence s × IsAreaFields a
IsExtended (extended.Gbc s a) = IsSequence s × IsAreaFields a
IsExtended (extended.Shb media) = media < 2 ^ 32
IsExtended (extended.Tsb s) = IsSequence s
IsExtended (extended.LsRequest s sought) = IsSequence s × (sought < 2 ^ 64)
IsExtended (extended.LsReply s d) = IsSequence s × IsShortVector d

-- the sizes of a payload: none in a BEACON and in the packets of the location service
abbrev pub IsSize : ExtendedFields → ℕ → Type 0
IsSize extended.Beacon n = n ≡ 0
IsSize (extended.Guc s d) n = n < 2 ^ 16
IsSize (extended.Gac s a) n = n < 2 ^ 16
IsSize (extended.Gbc s a) n = n < 2 ^ 16
IsSize (extended.Shb media) n = n < 2 ^ 16
IsSize (extended.Tsb s) n = n < 2 ^ 16
IsSize (extended.LsRequest s sought) n = n ≡ 0
IsSize (extended.LsReply s d) n = n ≡ 0

-- a packet of the standard
pub record IsStandard (p : Standard) : Type 0 where
  pub basic : IsBasicFields p.fields.basic
  pub common : IsCommonFields p.fields.basic.left p.fields.common
  pub source : IsLongVector p.fields.source
  pub extended : IsExtended p.fields.extended
  pub size : IsSize p.fields.extended (length p.payload)
  pub payload : IsBytes p.payload

-- The octets are the one encoding of the packet.
pub record Encodes (p : Standard) (w : List ℕ) : Type 0 where
  pub fields : IsStandard p
  pub octets : w ≡ encoding p

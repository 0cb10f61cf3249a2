-- What the kinds of packet have beside the rest, and where it stands.
use Rattle.std.specs.Prelude.{◌≡◌, ◌≤◌, ℕ, List, [], drop, Option, Some, None}
use Rattle.byteorder.specs.Endian.{big_number}
use Rattle.its_geometry.specs.declared.area.Shape.{Shape}
use Rattle.its_geometry.specs.declared.area.Shape.TheVariants.{Circle}
use Rattle.its_geometry.specs.Area.{GeoArea}
use Rattle.its_model.specs.Packet.{Body, beacon, shb, gbc, gac, Message}
use Rattle.its_headers.specs.declared.kind.Kind.{Kind}
use Rattle.its_headers.specs.declared.kind.Kind.TheVariants.{Beacon, Shb, Gbc, Gac}

-- the kind of packet that has this body
abbrev pub kind_of_body : Body → Kind
kind_of_body beacon = Beacon
kind_of_body (shb media message) = Shb
kind_of_body (gbc number area message) = Gbc
kind_of_body (gac number area message) = Gac

-- only a geobroadcast and a geoanycast have a sub-type other than 0
abbrev pub shape_of_body : Body → Shape
shape_of_body beacon = Circle
shape_of_body (shb media message) = Circle
shape_of_body (gbc number area message) = area.shape
shape_of_body (gac number area message) = area.shape

-- the offset of the vector
abbrev pub vector_place : Body → ℕ
vector_place beacon = 12
vector_place (shb media message) = 12
vector_place (gbc number area message) = 16
vector_place (gac number area message) = 16

-- the media-dependent data of a single-hop broadcast
abbrev pub media_in : Body → Option (List ℕ)
media_in beacon = None
media_in (shb media message) = Some media
media_in (gbc number area message) = None
media_in (gac number area message) = None

-- the area of a geobroadcast or geoanycast
abbrev pub area_in : Body → Option GeoArea
area_in beacon = None
area_in (shb media message) = None
area_in (gbc number area message) = Some area
area_in (gac number area message) = Some area

-- a BTP-B header and its payload: 4 to 1398 octets (profile)
abbrev pub IsPayloadLength : ℕ → Type 0
IsPayloadLength n = (4 ≤ n) × (n ≤ 1398)

-- the payload lengths of a kind (PL)
abbrev pub IsLength : Kind → ℕ → Type 0
IsLength Beacon n = n ≡ 0
IsLength Shb n = IsPayloadLength n
IsLength Gbc n = IsPayloadLength n
IsLength Gac n = IsPayloadLength n

-- the message of a payload: two octets of port, two of info (BTP-B), and the rest
abbrev pub message_of : List ℕ → Message
message_of w = record { port = big_number 2 w; info = big_number 2 (drop 2 w); payload = drop 4 w }

-- a packet for an area: a geobroadcast or a geoanycast
abbrev pub IsForArea : Body → Type 0
IsForArea beacon = ⊥
IsForArea (shb media message) = ⊥
IsForArea (gbc number area message) = Unit {0}
IsForArea (gac number area message) = Unit {0}

-- The octets are the BTP-B header and the payload of the packet's message, or none for a beacon.
abbrev pub SaysMessage : Body → List ℕ → Type 0
SaysMessage beacon w = w ≡ []
SaysMessage (shb media message) w = message_of w ≡ message
SaysMessage (gbc number area message) w = message_of w ≡ message
SaysMessage (gac number area message) w = message_of w ≡ message

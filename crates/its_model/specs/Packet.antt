-- What a packet says (EN 302 636-4-1 clause 9, EN 302 636-5-1), apart from its octets.
use Rattle.std.specs.Prelude.{ℕ, ◌-◌, List, Bool, Option, Some, None}
use Rattle.its_gnvalue.specs.Values.{PositionVector}
use Rattle.its_geometry.specs.Area.{GeoArea}

-- what is sent to a port (BTP-B): the destination port, its info, and the octets for it
pub record Message : Type 0 where
  pub port : ℕ
  pub info : ℕ
  pub payload : List ℕ

-- What the kinds of packet have beside the rest. A beacon: nothing. A single-hop broadcast: four
-- octets of media-dependent data and a message. A geobroadcast, and a geoanycast: a sequence
-- number, an area and a message.
pub data Body : Type 0 where
  beacon : Body
  shb : (media : List ℕ) (message : Message) → Body
  gbc : (number : ℕ) (area : GeoArea) (message : Message) → Body
  gac : (number : ℕ) (area : GeoArea) (message : Message) → Body

-- What stays the same from hop to hop: the source's vector, the octets of lifetime and traffic
-- class, whether the source is mobile, the greatest number of hops, and the body.
pub record Pdu : Type 0 where
  pub vector : PositionVector
  pub lifetime : ℕ
  pub class : ℕ
  pub mobile : Bool
  pub max_hops : ℕ
  pub body : Body

-- a packet on the air: with the hops that it has left, from one link address to another
pub record Transmission : Type 0 where
  pub pdu : Pdu
  pub hops_left : ℕ
  pub link_source : ℕ
  pub link_target : ℕ

-- only a packet for an area has a number
abbrev pub number_in : Body → Option ℕ
number_in beacon = None
number_in (shb media message) = None
number_in (gbc number area message) = Some number
number_in (gac number area message) = Some number

-- The two kinds of packet for an area: a geobroadcast is for all stations inside, and a geoanycast
-- for any one of them.
pub data AreaKind : Type 0 where
  geobroadcast : AreaKind
  geoanycast : AreaKind

-- the body of a packet of the kind
abbrev pub area_body : AreaKind → ℕ → GeoArea → Message → Body
area_body geobroadcast number area message = gbc number area message
area_body geoanycast number area message = gac number area message

-- the same packet, one hop fewer, with link addresses of its own
abbrev pub relay : Transmission → ℕ → ℕ → Transmission
relay t source target =
    record { pdu = t.pdu; hops_left = t.hops_left - 1; link_source = source; link_target = target }

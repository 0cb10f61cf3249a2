-- What packets say.
use Rattle.std.specs.Prelude.{◌≡◌, ℕ, Some}
use Rattle.its_headers.specs.declared.packet.Packet.{Packet}
use Rattle.its_headers.specs.declared.packet.Packet.TheVariants as packets
use Rattle.its_headers.specs.declared.packet.Header.{Header}
use Rattle.its_headers.specs.declared.packet.AreaPacket.{AreaPacket}
use Rattle.its_model.specs.Packet.{Pdu, Body, beacon, shb, AreaKind, geobroadcast, geoanycast}
use Rattle.its_model.specs.Packet.{area_body, number_in}
use Rattle.its_headers.specs.Fields.{message_of, area_in, SaysMessage}
use Rattle.its_headers.specs.Seen.{Seen}

-- what a packet with this header and body says
abbrev pub with_body : Header → Body → Pdu
with_body h body =
    record {
      vector = h.vector;
      lifetime = h.lifetime;
      class = h.class;
      mobile = h.mobile;
      max_hops = h.hops.max;
      body = body;
    }

-- what a packet for an area says
abbrev pub pdu_for_area : AreaKind → AreaPacket → Pdu
pdu_for_area kind a = with_body a.header (area_body kind a.number a.area (message_of a.payload))

-- what a packet says, apart from how many hops it has left
abbrev pub pdu_of_packet : Packet → Pdu
pdu_of_packet (packets.Beacon h) = with_body h beacon
pdu_of_packet (packets.Shb s) = with_body s.header (shb s.media (message_of s.payload))
pdu_of_packet (packets.Gbc a) = pdu_for_area geobroadcast a
pdu_of_packet (packets.Gac a) = pdu_for_area geoanycast a

-- what each kind of packet has
abbrev pub header_of : Packet → Header
header_of (packets.Beacon h) = h
header_of (packets.Shb s) = s.header
header_of (packets.Gbc a) = a.header
header_of (packets.Gac a) = a.header

-- how many hops a packet has left
abbrev pub hops_left : Packet → ℕ
hops_left p = (header_of p).hops.left

-- the header has what each packet has
pub record IsHeaderOf (h : Header) (s : Seen) : Type 0 where
  pub left : h.hops.left ≡ s.left
  pub max : h.hops.max ≡ s.pdu.max_hops
  pub lifetime : h.lifetime ≡ s.pdu.lifetime
  pub class : h.class ≡ s.pdu.class
  pub mobile : h.mobile ≡ s.pdu.mobile
  pub vector : h.vector ≡ s.pdu.vector

-- the packet has what each packet for an area has
pub record IsAreaPacketOf (a : AreaPacket) (s : Seen) : Type 0 where
  pub header : IsHeaderOf a.header s
  pub number : number_in s.pdu.body ≡ Some a.number
  pub area : area_in s.pdu.body ≡ Some a.area
  pub message : SaysMessage s.pdu.body a.payload

-- Frames of the link layer (profile): target, source, the type 0x8947 of GeoNetworking, a packet,
-- and nothing more.
use Rattle.std.specs.Prelude.{◌≡◌, ℕ, ◌^◌, ◌<◌, List, [], ◌∷◌, ◌++◌}
use Rattle.byteorder.specs.Endian.{big_bytes}
use Rattle.its_model.specs.Packet.{Transmission}
use Rattle.its_headers.specs.Encoding.{IsPacket, encoding}
use Rattle.its_headers.specs.Seen.{Seen}
use Rattle.its_headers.specs.Packets.{pdu_of_packet, hops_left}
use Rattle.its_headers.specs.declared.packet.Packet.{Packet}
use Rattle.its_linkframe.specs.declared.frame.FrameView.{FrameView}

-- the octets in front of a packet
unfoldable pub link_header : ℕ → ℕ → List ℕ
link_header target source = big_bytes 6 target ++ big_bytes 6 source ++ 137 ∷ 71 ∷ []

abbrev pub frame_octets : Transmission → List ℕ
frame_octets t = link_header t.link_target t.link_source ++ encoding t.pdu t.hops_left

-- a packet on the air whose fields are in range
pub record IsTransmission (t : Transmission) : Type 0 where
  pub target : t.link_target < 2 ^ 48
  pub source : t.link_source < 2 ^ 48
  pub packet : IsPacket t.pdu t.hops_left

-- The octets are the one frame of the packet on the air.
pub record EncodesFrame (t : Transmission) (w : List ℕ) : Type 0 where
  pub fields : IsTransmission t
  pub octets : w ≡ frame_octets t

-- the octets are a frame
pub record IsFrame (w : List ℕ) : Type 0 where
  pub transmission : Transmission
  pub encodes : EncodesFrame transmission w

-- a packet, with the hops that it has left, from one link address to another
abbrev pub sent_from_to : ℕ → ℕ → Seen → Transmission
sent_from_to source target s =
    record { pdu = s.pdu; hops_left = s.left; link_source = source; link_target = target }

-- what a frame that was read says
abbrev pub transmission_of : FrameView → Transmission
transmission_of v = sent_from_to v.from v.to v.packet

-- what the frame of a packet says
abbrev pub sent_packet : ℕ → ℕ → Packet → Transmission
sent_packet source target p =
    sent_from_to source target (record { pdu = pdu_of_packet p; left = hops_left p })

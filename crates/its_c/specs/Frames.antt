-- What C is told of a frame.
use Rattle.std.specs.Prelude.{◌≡◌, ◌+◌, ℕ, pos, ◌∷◌, [], List, length, drop, Option, Some, None}
use Rattle.byteorder.specs.Endian.{big_bytes}
use Rattle.its_faults.specs.declared.frame.FrameFault.{FrameFault}
use Rattle.its_geometry.specs.Area.{GeoArea}
use Rattle.its_model.specs.Packet.{Message, Body, beacon, shb, gbc, gac, Transmission, number_in}
use Rattle.its_headers.specs.Fields.{kind_of_body, media_in, area_in}
use Rattle.its_c.specs.declared.layout.Packet.{Packet}
use Rattle.its_c.specs.declared.layout.PacketArea.{PacketArea}
use Rattle.its_c.specs.declared.layout.PacketMessage.{PacketMessage}
use Rattle.its_c.specs.Arguments.{number_of_shape}
use Rattle.its_c.specs.Lookups.{as_number, shown_vector, no_vector}
use Rattle.its_c.specs.Told.{layer_of, kind_of, place_in, kind_number, shown_media, shown_number}

-- the area, or zeros
abbrev pub shown_area : Option GeoArea → PacketArea
shown_area None =
    record { latitude = pos 0; longitude = pos 0; a = 0; b = 0; angle = 0; shape = 0 }
shown_area (Some area) =
    record {
      latitude = area.centre.latitude;
      longitude = area.centre.longitude;
      a = area.a;
      b = area.b;
      angle = area.angle;
      shape = number_of_shape area.shape;
    }

abbrev pub no_message : PacketMessage
no_message = record { payload_start = 0; payload_length = 0; port = 0; info = 0 }

-- the port, its info, and where in the frame the payload lies, to its end
pub record TellsMessage (w : List ℕ) (m : Message) (told : PacketMessage) : Type 0 where
  pub port : told.port ≡ m.port
  pub info : told.info ≡ m.info
  pub size : told.payload_length ≡ length m.payload
  pub start : drop told.payload_start w ≡ m.payload
  pub end : told.payload_start + told.payload_length ≡ length w

-- the message of a packet, or zeros
abbrev pub ShowsMessage : List ℕ → Body → PacketMessage → Type 0
ShowsMessage w beacon told = told ≡ no_message
ShowsMessage w (shb media message) told = TellsMessage w message told
ShowsMessage w (gbc number area message) told = TellsMessage w message told
ShowsMessage w (gac number area message) told = TellsMessage w message told

-- all fields of a packet on the air, with this message
abbrev pub shown_packet : Transmission → PacketMessage → Packet
shown_packet t message =
    record {
      target = big_bytes 6 t.link_target;
      source = big_bytes 6 t.link_source;
      kind = kind_number (kind_of_body t.pdu.body);
      vector = shown_vector t.pdu.vector;
      hops_left = t.hops_left;
      max_hops = t.pdu.max_hops;
      lifetime = t.pdu.lifetime;
      traffic_class = t.pdu.class;
      mobile = as_number t.pdu.mobile;
      media = shown_media (media_in t.pdu.body);
      number = shown_number (number_in t.pdu.body);
      area = shown_area (area_in t.pdu.body);
      message = message;
      fault = 0;
      fault_kind = 0;
      fault_at = 0;
    }

-- C is told all fields of the frame with these octets.
pub record TellsFrame (w : List ℕ) (t : Transmission) (told : Packet) : Type 0 where
  pub fields : told ≡ shown_packet t told.message
  pub message : ShowsMessage w t.pdu.body told.message

-- the octets are no frame, and this is their first fault: all else is 0
abbrev pub faulty_packet : FrameFault → Packet
faulty_packet fault =
    record {
      target = 0 ∷ 0 ∷ 0 ∷ 0 ∷ 0 ∷ 0 ∷ [];
      source = 0 ∷ 0 ∷ 0 ∷ 0 ∷ 0 ∷ 0 ∷ [];
      kind = 0;
      vector = no_vector;
      hops_left = 0;
      max_hops = 0;
      lifetime = 0;
      traffic_class = 0;
      mobile = 0;
      media = 0 ∷ 0 ∷ 0 ∷ 0 ∷ [];
      number = 0;
      area = shown_area None;
      message = no_message;
      fault = layer_of fault;
      fault_kind = kind_of fault;
      fault_at = place_in fault;
    }

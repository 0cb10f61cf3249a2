-- What the octets of a packet say.
use Rattle.std.specs.Prelude.{ℕ, List, pos, false, Result, Ok, Err}
use Rattle.its_faults.specs.declared.packet.Fault.{Fault}
use Rattle.its_model.specs.Packet.{Pdu, beacon}
use Rattle.its_headers.specs.Encoding.{Encodes}
use Rattle.its_headers.specs.Format.{walk}
use Rattle.its_headers.specs.Inner.{Basic}
use Rattle.its_headers.specs.Layout.{packet_format}

-- a packet, and how many hops it has left
pub record Seen : Type 0 where
  pub pdu : Pdu
  pub left : ℕ

-- what the Basic Header of a packet says that has so many hops left
abbrev pub basic_of : Seen → Basic
basic_of s = record { lifetime = s.pdu.lifetime; left = s.left }

-- a filler: octets of which this would be said are no view's
abbrev nothing : Pdu
nothing = record {
  vector = record {
    address = 0;
    timestamp = 0;
    place = record { latitude = pos 0; longitude = pos 0 };
    accurate = false;
    speed = pos 0;
    heading = 0;
  };
  lifetime = 0;
  class = 0;
  mobile = false;
  max_hops = 0;
  body = beacon;
}

-- what was read, or the filler
abbrev pub seen : Result ((Pdu × ℕ) × ℕ) Fault → Seen
seen (Ok (x, end)) = record { pdu = x.0; left = x.1 }
seen (Err e) = record { pdu = nothing; left = 0 }

-- what the octets say
unfoldable pub seen_of : List ℕ → Seen
seen_of w = seen (walk packet_format 0 w)

-- The octets are an encoding.
abbrev pub IsEncoding : List ℕ → Type 0
IsEncoding w = Encodes (seen_of w).pdu (seen_of w).left w

-- What is asked of a station, in the model; and what it gives.
use Rattle.std.specs.Prelude.{◌≡◌, ℕ, Vec, Option, Some, None, Bool}
use Rattle.std.specs.declared.alloc.Global.{Global}
use Rattle.its_gnvalue.specs.Values.{PositionVector}
use Rattle.its_model.specs.Packet.{Pdu, Transmission, AreaKind, geobroadcast, geoanycast, area_body}
use Rattle.its_model.specs.Calls as model
use Rattle.its_model.specs.Calls.{Answer, GbcRequest as ModelGbc, ShbRequest as ModelShb}
use Rattle.its_headers.specs.declared.kind.Kind.{Kind}
use Rattle.its_headers.specs.declared.kind.Kind.TheVariants as kinds
use Rattle.its_linkframe.specs.Frames.{EncodesFrame}
use Rattle.its_station.specs.declared.requests.GbcRequest.{GbcRequest}
use Rattle.its_station.specs.declared.requests.ShbRequest.{ShbRequest}
use Rattle.its_station.specs.declared.requests.OwnedGbcRequest.{OwnedGbcRequest}
use Rattle.its_station.specs.declared.requests.OwnedShbRequest.{OwnedShbRequest}
use Rattle.its_station.specs.declared.sending.AreaCast.{AreaCast}
use Rattle.its_station.specs.declared.sending.AreaCast.TheVariants as casts

-- a request for an area
abbrev pub gbc_request : GbcRequest → ModelGbc
gbc_request r =
    record {
      class = r.class;
      lifetime = r.lifetime;
      max_hops = r.max_hops;
      area = r.area;
      message = record { port = r.port; info = r.info; payload = r.payload.now };
    }

-- a request for all in reach
abbrev pub shb_request : ShbRequest → ModelShb
shb_request r = record {
  class = r.class;
  message = record { port = r.port; info = r.info; payload = r.payload.now };
}

-- the same that own their payload
abbrev pub owned_gbc : OwnedGbcRequest → ModelGbc
owned_gbc r =
    record {
      class = r.class;
      lifetime = r.lifetime;
      max_hops = r.max_hops;
      area = r.area;
      message = record { port = r.port; info = r.info; payload = r.payload.items };
    }

-- and for all in reach
abbrev pub owned_shb : OwnedShbRequest → ModelShb
owned_shb r = record {
  class = r.class;
  message = record { port = r.port; info = r.info; payload = r.payload.items };
}

-- a kind of packet for an area
abbrev pub kind_of_cast : AreaCast → AreaKind
kind_of_cast casts.Geobroadcast = geobroadcast
kind_of_cast casts.Geoanycast = geoanycast

-- the same, as the kind of its packets
abbrev pub kind_cast : AreaCast → Kind
kind_cast casts.Geobroadcast = kinds.Gbc
kind_cast casts.Geoanycast = kinds.Gac

-- the packet of a station with this vector, mobile or not, for an area
abbrev pub area_pdu : PositionVector → Bool → ℕ → AreaKind → ModelGbc → Pdu
area_pdu vector mobile number kind r =
    record {
      vector = vector;
      lifetime = r.lifetime;
      class = r.class;
      mobile = mobile;
      max_hops = r.max_hops;
      body = area_body kind number r.area r.message;
    }

-- the octets are the frame that is sent
pub record TellsSent (w : Vec ℕ Global) (answer : Answer Transmission) : Type 0 where
  pub sent : Transmission
  pub is : answer ≡ model.Answer.Sent sent
  pub frame : EncodesFrame sent w.items

-- a beacon that is sent, or none
abbrev pub TellsTick : Option (Vec ℕ Global) → Answer Transmission → Type 0
TellsTick None answer = answer ≡ model.Answer.Quiet
TellsTick (Some w) answer = TellsSent w answer

-- A station, and what each call answers and makes of it (EN 302 636-4-1 clauses 8 and 10, in this
-- profile). A call is checked first, and then done by what that gave.
use Rattle.std.specs.Prelude.{ℕ, ◌+◌, ◌%◌, ◌^◌, pos, List, [], ◌∷◌, length, filter, Bool, true}
use Rattle.std.specs.Prelude.{false, not, ◌&&◌, ◌||◌, Option, Some, None, if◌then◌else◌, ◌==◌}
use Rattle.std.specs.Prelude.{nat_lt, nat_le}
use Rattle.its_gnvalue.specs.Values.{Position, PositionVector, mid_of, broadcast}
use Rattle.its_geometry.specs.Area.{GeoArea, area_holds}
use Rattle.its_model.specs.Packet.{Message, Body, Transmission, number_in, relay}
use Rattle.its_model.specs.Packet.Body.{beacon, shb, gbc, gac}
use Rattle.its_model.specs.History.{Reception, is_among, is_remembered}
use Rattle.its_model.specs.Stations.{stations_at, is_full}
use Rattle.its_model.specs.Decision.{Decision, decision}
use Rattle.its_model.specs.Decision.Decision.{Broadcast, To, Drop}
use Rattle.its_model.specs.Calls.{ShbRequest, GbcRequest, OwnCall, Call, Why, Refusal, Answer}
use Rattle.its_model.specs.Calls.OwnCall.{Move, Open, Close, Tick, SendShb, SendGbc, SendGac}
use Rattle.its_model.specs.Calls.OwnCall.{Restart}
use Rattle.its_model.specs.Calls.Call.{Own, Receive, Junk}
use Rattle.its_model.specs.Calls.Why.{NotForMe, OwnSource, SenderMismatch, Duplicate}
use Rattle.its_model.specs.Calls.Refusal.{MomentEarlier, MomentTooLate, JitterRange, BadFrame}
use Rattle.its_model.specs.Calls.Refusal.{AlreadyOpen, PortsFull, NotOpen, PayloadTooLong}
use Rattle.its_model.specs.Calls.Refusal.{HopLimitZero, TableFull}
use Rattle.its_model.specs.Calls.Answer.{Moved, Opened, Closed, Restarted, Quiet, Sent, Ignored}
use Rattle.its_model.specs.Calls.Answer.{Accepted, Refused}
use Rattle.its_faults.specs.declared.frame.FrameFault.{FrameFault}

-- The clock is the moment of the last call that wasn't refused, and no beacon is due before
-- `beacon_from`. There is no table: what is known of others is a function of the history.
pub record StationModel : Type 0 where
  pub address : ℕ
  pub capacity : ℕ  -- of how many sources it can know at once
  pub remember : ℕ  -- how many numbers of a source it remembers
  pub clock : ℕ
  pub vector : PositionVector  -- its own
  pub mobile : Bool  -- whether its own packets say that it is mobile
  pub next_number : ℕ
  pub ports : List ℕ  -- those that are open, each once
  pub beacon_from : ℕ
  -- every packet that it accepted since its last restart, the newest first
  pub history : List Reception

-- a station to which nothing happened yet; it is mobile (profile)
abbrev pub new_station : ℕ → Position → ℕ → ℕ → StationModel
new_station address place capacity remember =
    record {
      address = address;
      capacity = capacity;
      remember = remember;
      clock = 0;
      vector = record {
        address = address;
        timestamp = 0;
        place = place;
        accurate = false;
        speed = pos 0;
        heading = 0;
      };
      mobile = true;
      next_number = 0;
      ports = [];
      beacon_from = 0;
      history = [];
    }

-- what a call answers, and the station after it
pub record Step : Type 0 where
  pub answer : Answer Transmission
  pub station : StationModel

-- ---- limits (profile)

-- in milliseconds
abbrev pub last_moment : ℕ
last_moment = 2 ^ 62

-- how much later than due a beacon may be asked for, in milliseconds
abbrev pub max_jitter : ℕ
max_jitter = 750

-- how many ports may be open at once
abbrev pub max_open_ports : ℕ
max_open_ports = 64

-- of what an application hands in, in octets
abbrev pub max_request_payload : ℕ
max_request_payload = 1394

-- from one packet of a station's own to its next beacon, in milliseconds
abbrev pub beacon_wait : ℕ
beacon_wait = 3000

-- ---- the station's own calls

-- The moment of a call is checked before all else.
abbrev pub moment_refusal : StationModel → ℕ → Option Refusal
moment_refusal s moment =
    if nat_lt moment s.clock then Some MomentEarlier
    else if nat_lt last_moment moment then Some MomentTooLate
    else None

-- too long to be sent
abbrev pub payload_refusal : Message → Option Refusal
payload_refusal message =
    if nat_lt max_request_payload (length message.payload) then Some PayloadTooLong else None

-- of two refusals the first one that applies
abbrev pub first : Option Refusal → Option Refusal → Option Refusal
first (Some refusal) other = Some refusal
first None other = other

-- a packet for an area: too long, or over no hops
abbrev pub area_refusal : GbcRequest → Option Refusal
area_refusal r =
    first (payload_refusal r.message) (if r.max_hops == 0 then Some HopLimitZero else None)

-- what else a call of its own is refused for: the port, the jitter, the payload, or no hops
abbrev pub own_refusal : StationModel → OwnCall → Option Refusal
own_refusal s (Move place accurate speed heading) = None
own_refusal s (Open port) =
    if is_among port s.ports then Some AlreadyOpen
    else if nat_le max_open_ports (length s.ports) then Some PortsFull
    else None
own_refusal s (Close port) = if is_among port s.ports then None else Some NotOpen
own_refusal s (Tick jitter) = if nat_lt max_jitter jitter then Some JitterRange else None
own_refusal s (SendShb r) = payload_refusal r.message
own_refusal s (SendGbc r) = area_refusal r
own_refusal s (SendGac r) = area_refusal r
own_refusal s (Restart number) = None

-- a beacon: over one hop, to all, with the lifetime octet of 60 s (profile); as each packet of its
-- own it says whether the station is mobile
abbrev pub beacon_of : StationModel → Transmission
beacon_of s =
    record {
      pdu = record {
        vector = s.vector;
        lifetime = 26;
        class = 0;
        mobile = s.mobile;
        max_hops = 1;
        body = beacon;
      };
      hops_left = 1;
      link_source = mid_of s.address;
      link_target = broadcast;
    }

-- a single-hop broadcast: the same, with media-dependent data of zeros
abbrev pub shb_of : StationModel → ShbRequest → Transmission
shb_of s r =
    record {
      pdu = record {
        vector = s.vector;
        lifetime = 26;
        class = r.class;
        mobile = s.mobile;
        max_hops = 1;
        body = shb (0 ∷ 0 ∷ 0 ∷ 0 ∷ []) r.message;
      };
      hops_left = 1;
      link_source = mid_of s.address;
      link_target = broadcast;
    }

-- the link address that a decision names; without a sender no decision is to drop
abbrev pub target_of : Decision → ℕ
target_of Broadcast = broadcast
target_of (To mac) = mac
target_of Drop = broadcast

-- to whom a packet for an area goes from where the station is, by what it knows of others at a
-- moment
abbrev pub decided : StationModel → ℕ → GeoArea → Option ℕ → Decision
decided s moment area sender =
    decision (stations_at s.remember moment s.history) s.vector.place area sender

-- a packet for an area: with all its hops
abbrev pub area_packet : StationModel → ℕ → GbcRequest → Body → Transmission
area_packet s moment r body =
    record {
      pdu = record {
        vector = s.vector;
        lifetime = r.lifetime;
        class = r.class;
        mobile = s.mobile;
        max_hops = r.max_hops;
        body = body;
      };
      hops_left = r.max_hops;
      link_source = mid_of s.address;
      link_target = target_of (decided s moment r.area None);
    }

-- a geobroadcast, with the station's next number
abbrev pub gbc_of : StationModel → ℕ → GbcRequest → Transmission
gbc_of s moment r = area_packet s moment r (gbc s.next_number r.area r.message)

-- a geoanycast, with the next number of the same count
abbrev pub gac_of : StationModel → ℕ → GbcRequest → Transmission
gac_of s moment r = area_packet s moment r (gac s.next_number r.area r.message)

-- the station after a packet of its own: from then on its next beacon waits
abbrev pub after_sending : StationModel → ℕ → StationModel
after_sending s moment = record s { clock = moment; beacon_from = moment + beacon_wait }

-- the number after this one: from 65535 to 0 (profile)
abbrev pub number_after : ℕ → ℕ
number_after number = (number + 1) % 65536

-- the station after a packet with its next number
abbrev pub after_numbering : StationModel → ℕ → StationModel
after_numbering s moment =
    record (after_sending s moment) { next_number = number_after s.next_number }

-- the station after a restart: what it heard is gone and its ports are closed, but it stands where
-- it stood
abbrev pub after_restart : StationModel → ℕ → ℕ → StationModel
after_restart s moment next =
    record s { clock = moment; next_number = next; ports = []; beacon_from = moment; history = [] }

-- A call of its own that isn't refused. A move takes the moment for the vector's timestamp
-- (profile).
abbrev pub performed : StationModel → ℕ → OwnCall → Step
performed s moment (Move place accurate speed heading) =
    record {
      answer = Moved;
      station = record s {
        clock = moment;
        vector = record {
          address = s.address;
          timestamp = moment % 2 ^ 32;
          place = place;
          accurate = accurate;
          speed = speed;
          heading = heading;
        };
      };
    }
performed s moment (Open port) =
    record { answer = Opened; station = record s { clock = moment; ports = port ∷ s.ports } }
performed s moment (Close port) =
    record {
      answer = Closed;
      station = record s {
        clock = moment;
        ports = filter (λ other. not (other == port)) s.ports;
      };
    }
performed s moment (Tick jitter) =
    if nat_le (s.beacon_from + jitter) moment
    then record { answer = Sent (beacon_of s); station = after_sending s moment }
    else record { answer = Quiet; station = record s { clock = moment } }
performed s moment (SendShb r) =
    record { answer = Sent (shb_of s r); station = after_sending s moment }
performed s moment (SendGbc r) =
    record { answer = Sent (gbc_of s moment r); station = after_numbering s moment }
performed s moment (SendGac r) =
    record { answer = Sent (gac_of s moment r); station = after_numbering s moment }
performed s moment (Restart number) =
    record { answer = Restarted; station = after_restart s moment number }

-- by what the check gave: refused, and then nothing changes, or performed
abbrev pub own_step_by : StationModel → ℕ → OwnCall → Option Refusal → Step
own_step_by s moment call (Some refusal) = record { answer = Refused refusal; station = s }
own_step_by s moment call None = performed s moment call

-- a call of its own: the moment is checked first
unfoldable pub own_step : StationModel → ℕ → OwnCall → Step
own_step s moment call =
    own_step_by s moment call (first (moment_refusal s moment) (own_refusal s call))

-- ---- a frame

-- what is done with a frame
pub data Verdict : Type 0 where
  Refuse : (refusal : Refusal) → Verdict
  Ignore : (why : Why) → Verdict
  Accept : Verdict

-- refused, or else what the rest says
abbrev pub or_else : Option Refusal → Verdict → Verdict
or_else (Some refusal) verdict = Refuse refusal
or_else None verdict = verdict

-- it was sent to this station or to all
abbrev pub is_for : StationModel → Transmission → Bool
is_for s t = (t.link_target == mid_of s.address) || (t.link_target == broadcast)

-- A beacon or a single-hop broadcast has to come from its source's own link address (profile).
abbrev pub is_sender_wrong : Transmission → Body → Bool
is_sender_wrong t beacon = not (mid_of t.pdu.vector.address == t.link_source)
is_sender_wrong t (shb media message) = not (mid_of t.pdu.vector.address == t.link_source)
is_sender_wrong t (gbc number area message) = false
is_sender_wrong t (gac number area message) = false

-- a packet with a number that is remembered of its source
abbrev pub is_repeated : ℕ → Option ℕ → ℕ → ℕ → List Reception → Bool
is_repeated remember None source moment history = false
is_repeated remember (Some number) source moment history =
    is_remembered remember source number moment history

-- The first that applies: a frame for another station, a packet of its own, one from a wrong sender
-- or one that it remembers is ignored; one for which there is no room is refused (profile, in this
-- order).
unfoldable pub verdict : StationModel → ℕ → Transmission → Verdict
verdict s moment t =
    or_else (moment_refusal s moment)
    (if not (is_for s t) then Ignore NotForMe
    else if t.pdu.vector.address == s.address then Ignore OwnSource
    else if is_sender_wrong t t.pdu.body then Ignore SenderMismatch
    else if is_repeated s.remember (number_in t.pdu.body) t.pdu.vector.address moment s.history
    then Ignore Duplicate
    else if is_full s.capacity t.pdu.vector.address (stations_at s.remember moment s.history)
    then Refuse TableFull
    else Accept)

-- a packet, as it is put into the history
abbrev pub reception : ℕ → Transmission → Reception
reception moment t =
    record { moment = moment; vector = t.pdu.vector; number = number_in t.pdu.body }

-- the station after it accepted a packet
abbrev pub after_hearing : StationModel → ℕ → Transmission → StationModel
after_hearing s moment t = record s { clock = moment; history = reception moment t ∷ s.history }

-- a message for an area is delivered where its port is open and the area holds the station where
-- it is now
abbrev pub handed_inside : StationModel → GeoArea → Message → Option Message
handed_inside s area message =
    if is_among message.port s.ports && area_holds area s.vector.place then Some message else None

-- What is delivered: the message of a single-hop broadcast whose port is open, and a message for
-- an area inside of it.
abbrev pub handing : StationModel → Body → Option Message
handing s beacon = None
handing s (shb media message) = if is_among message.port s.ports then Some message else None
handing s (gbc number area message) = handed_inside s area message
handing s (gac number area message) = handed_inside s area message

-- the packet with one hop fewer, to whom the decision says
abbrev pub sent_on : StationModel → Transmission → Decision → Option Transmission
sent_on s t Broadcast = Some (relay t (mid_of s.address) broadcast)
sent_on s t (To mac) = Some (relay t (mid_of s.address) mac)
sent_on s t Drop = None

-- a packet for an area that has another hop left
abbrev pub passed_on : StationModel → ℕ → Transmission → GeoArea → Option Transmission
passed_on s moment t area =
    if nat_le 2 t.hops_left then sent_on s t (decided s moment area (Some t.link_source)) else None

-- What is sent on: a geobroadcast, and outside of its area a geoanycast. One that has come inside
-- has arrived. The station has accepted the packet, so it knows of its source.
abbrev pub relayed : StationModel → ℕ → Transmission → Body → Option Transmission
relayed s moment t beacon = None
relayed s moment t (shb media message) = None
relayed s moment t (gbc number area message) = passed_on s moment t area
relayed s moment t (gac number area message) =
    if area_holds area s.vector.place then None else passed_on s moment t area

-- By its verdict: a frame that is ignored sets the clock alone. One that is accepted is put into
-- the history before it is decided to whom it goes on.
abbrev pub receive_step_by : StationModel → ℕ → Transmission → Verdict → Step
receive_step_by s moment t (Refuse refusal) = record { answer = Refused refusal; station = s }
receive_step_by s moment t (Ignore why) =
    record { answer = Ignored why; station = record s { clock = moment } }
receive_step_by s moment t Accept =
    record {
      answer = Accepted (handing s t.pdu.body)
          (relayed (after_hearing s moment t) moment t t.pdu.body);
      station = after_hearing s moment t;
    }

-- a frame that came
unfoldable pub receive_step : StationModel → ℕ → Transmission → Step
receive_step s moment t = receive_step_by s moment t (verdict s moment t)

-- ---- any call

-- octets that are no frame are refused for their first fault, unless the moment is refused before
abbrev pub junk_step_by : StationModel → FrameFault → Option Refusal → Step
junk_step_by s fault (Some refusal) = record { answer = Refused refusal; station = s }
junk_step_by s fault None = record { answer = Refused (BadFrame fault); station = s }

-- a call
abbrev pub station_step : StationModel → ℕ → Call → Step
station_step s moment (Own call) = own_step s moment call
station_step s moment (Receive t) = receive_step s moment t
station_step s moment (Junk fault) = junk_step_by s fault (moment_refusal s moment)

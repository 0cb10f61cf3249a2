-- What holds of a world after every run.
use Rattle.std.proofs.Common.{◌≡◌, ◌≢◌, ℕ, ◌+◌, ◌<◌, ◌≤◌, List, [], ◌∷◌, length, Option, Some, None}
use Rattle.std.proofs.Common.{true, false}
use Rattle.std.specs.Prelude.{slice_get}
use Rattle.its_gnvalue.specs.Values.{Position, mid_of}
use Rattle.its_geometry.specs.Area.{GeoArea, area_holds}
use Rattle.its_model.specs.Packet.{Body, Message, Pdu, Transmission, AreaKind, number_in, relay}
use Rattle.its_model.specs.Packet.{area_body}
use Rattle.its_model.specs.Packet.Body.{gbc, gac}
use Rattle.its_model.specs.Packet.AreaKind.{geobroadcast, geoanycast}
use Rattle.its_model.specs.History.{is_remembered}
use Rattle.its_model.specs.Calls.{Answer, GbcRequest, OwnCall}
use Rattle.its_model.specs.Calls.OwnCall.{SendGbc, SendGac}
use Rattle.its_model.specs.Calls.Why.{Duplicate}
use Rattle.its_model.specs.Calls.Answer.{Accepted, Ignored, Sent}
use Rattle.its_model.specs.Station.{StationModel, Step, is_repeated}
use Rattle.its_model.specs.World.{Config, Event, LogLine, What, WorldModel, entry_of, frame_of}
use Rattle.its_model.specs.World.{with_one_more}
use Rattle.its_model.specs.World.What.{Calls, Deliver}
use Rattle.its_model.specs.Log.{Origin, heard_in, moved_by, renumbered_by, origin_by, origins}
use Rattle.its_model.specs.Log.{place_of, position_at, receptions_at, sequence_number_at}

-- the packet is what the request asks for, from there
abbrev pub IsAreaPacket : AreaKind → GbcRequest → ℕ → List LogLine → Pdu → Type 0
IsAreaPacket kind r station before p =
    (p.body ≡ area_body kind (sequence_number_at station before) r.area r.message)
    × (p.max_hops ≡ r.max_hops)

-- the packet is what the call sends from there
abbrev pub IsPacketOf : What → ℕ → List LogLine → Pdu → Type 0
IsPacketOf (Calls (SendGbc r)) station before p = IsAreaPacket geobroadcast r station before p
IsPacketOf (Calls (SendGac r)) station before p = IsAreaPacket geoanycast r station before p
IsPacketOf (Calls call) station before p = number_in p.body ≡ None
IsPacketOf (Deliver k) station before p = ⊥

-- the frame's packet was sent by this origin
pub record IsSentBy (configs : List Config) (log : List LogLine) (t : Transmission)
    (o : Origin) : Type 0 where
  pub config : Config
  pub sender : slice_get configs o.event.station ≡ Some config
  pub source : t.pdu.vector.address ≡ config.address
  pub earlier : length o.before < length log
  pub packet : IsPacketOf o.event.what o.event.station o.before t.pdu
  pub hops : t.hops_left + o.depth ≡ t.pdu.max_hops
  pub left : 0 < t.hops_left

-- what was handed out is this message, and the area holds the place
abbrev pub InsideFact : Option Message → GeoArea → Message → Position → Type 0
InsideFact None area message place = Unit {0}
InsideFact (Some m) area message place = (message ≡ m) × (area_holds area place ≡ true)

-- what was handed out of a packet for an area was in it, and its area holds the place
abbrev pub HandingFact : Option Message → Body → Position → Type 0
HandingFact handed (gbc number area message) place = InsideFact handed area message place
HandingFact handed (gac number area message) place = InsideFact handed area message place
HandingFact handed body place = Unit {0}

-- nothing was given for a geoanycast whose area holds the place
abbrev pub StopFact : Option ℕ → Body → Position → Type 0
StopFact given (gac number area message) place = area_holds area place ≡ true → given ≡ None
StopFact given body place = Unit {0}

-- the frame that was given for a delivery is the relay
abbrev pub RelayFact : Option ℕ → List Transmission → Config → Transmission → Type 0
RelayFact None air config t = Unit {0}
RelayFact (Some m) air config t =
    (2 ≤ t.hops_left) × (target : ℕ)
    × (slice_get air m ≡ Some (relay t (mid_of config.address) target))

-- an acceptance
pub record AcceptedFact (configs : List Config) (air : List Transmission) (e : Event)
    (before : List LogLine) (delivered : Option Transmission) (handed : Option Message)
    (given : Option ℕ) : Type 0 where
  pub frame : ℕ
  pub packet : Transmission
  pub config : Config
  pub origin : Origin
  pub what : e.what ≡ Deliver frame
  pub delivered_is : delivered ≡ Some packet
  pub in_air : slice_get air frame ≡ Some packet
  pub receiver : slice_get configs e.station ≡ Some config
  pub came_from : slice_get (origins before) frame ≡ Some origin
  pub sent_by : IsSentBy configs before packet origin
  pub foreign : packet.pdu.vector.address ≢ config.address
  pub is_new : is_repeated config.remember
      (number_in packet.pdu.body) packet.pdu.vector.address e.moment
      (receptions_at e.station before) ≡ false
  pub handing : HandingFact handed packet.pdu.body (position_at config.place e.station before)
  pub relayed : RelayFact given air config packet
  pub stops : StopFact given packet.pdu.body (position_at config.place e.station before)

-- a frame that was ignored as a duplicate
pub record DuplicateFact (configs : List Config) (air : List Transmission) (e : Event)
    (before : List LogLine) : Type 0 where
  pub frame : ℕ
  pub packet : Transmission
  pub number : ℕ
  pub config : Config
  pub what : e.what ≡ Deliver frame
  pub receiver : slice_get configs e.station ≡ Some config
  pub in_air : slice_get air frame ≡ Some packet
  pub number_is : number_in packet.pdu.body ≡ Some number
  pub remembered : is_remembered config.remember packet.pdu.vector.address number e.moment
      (receptions_at e.station before) ≡ true

-- a line of the log, by its entry
abbrev pub LineFact : Answer ℕ → List Config → List Transmission → Event → Option Transmission
    → List LogLine → Type 0
LineFact (Accepted handed given) configs air e delivered before =
    AcceptedFact configs air e before delivered handed given
LineFact (Ignored Duplicate) configs air e delivered before = DuplicateFact configs air e before
LineFact (Sent k) configs air e delivered before = (call : OwnCall) × (e.what ≡ Calls call)
LineFact entry configs air e delivered before = Unit {0}

-- each line has its fact
abbrev pub EachLine : List Config → List Transmission → List LogLine → Type 0
EachLine configs air [] = Unit {0}
EachLine configs air (line ∷ before) =
    LineFact line.entry configs air line.event line.delivered before × EachLine configs air before

-- a station is where its log leaves it
pub record StationSound (configs : List Config) (log : List LogLine) (j : ℕ)
    (s : StationModel) : Type 0 where
  pub config : Config
  pub is_config : slice_get configs j ≡ Some config
  pub address : s.address ≡ config.address
  pub capacity : s.capacity ≡ config.capacity
  pub remember : s.remember ≡ config.remember
  pub mobile : s.mobile ≡ true
  pub source : s.vector.address ≡ config.address
  pub place : s.vector.place ≡ position_at config.place j log
  pub number : s.next_number ≡ sequence_number_at j log
  pub history : s.history ≡ receptions_at j log

-- a frame has an origin by which it was sent
pub record FrameSound (configs : List Config) (all : List Origin) (log : List LogLine) (k : ℕ)
    (t : Transmission) : Type 0 where
  pub origin : Origin
  pub is : slice_get all k ≡ Some origin
  pub sent_by : IsSentBy configs log t origin

-- frames of one origin carry one packet
abbrev pub SamePackets : List Transmission → List Origin → Type 0
SamePackets air all =
    (k m : ℕ) (t u : Transmission) (o p : Origin)
    → slice_get air k ≡ Some t → slice_get air m ≡ Some u → slice_get all k ≡ Some o
    → slice_get all m ≡ Some p
    → place_of o ≡ place_of p → t.pdu ≡ u.pdu

-- frames and origins go together
pub record FramesSound (configs : List Config) (air : List Transmission) (all : List Origin)
    (log : List LogLine) : Type 0 where
  pub even : length all ≡ length air
  pub each : (k : ℕ) (t : Transmission) → slice_get air k ≡ Some t → FrameSound configs all log k t
  pub same : SamePackets air all

-- each frame that the log names has the next number, and an origin
abbrev pub NamedBy : Option ℕ → Event → List LogLine → Type 0
NamedBy None e before = Unit {0}
NamedBy (Some k) e before =
    (k ≡ length (origins before)) × (o : Origin)
    × (origin_by e.what e before (origins before) ≡ Some o)

-- of each line
abbrev pub EachNamed : List LogLine → Type 0
EachNamed [] = Unit {0}
EachNamed (line ∷ before) = NamedBy (frame_of line.entry) line.event before × EachNamed before

-- what each event keeps
pub record Sound (configs : List Config) (w : WorldModel) : Type 0 where
  pub count : length w.stations ≡ length configs
  pub each : (j : ℕ) (s : StationModel) → slice_get w.stations j ≡ Some s
      → StationSound configs w.log j s
  pub frames : FramesSound configs w.air (origins w.log) w.log
  pub lines : EachLine configs w.air w.log
  pub names : EachNamed w.log

-- ---- What a station's answer to an event has to be, for the world to stay sound.

-- the frame that an answer gives has an origin, and the packet of its other frames
pub record GivenFits (configs : List Config) (w : WorldModel) (e : Event) (what : What)
    (t : Transmission) : Type 0 where
  pub origin : Origin
  pub is : origin_by what e w.log (origins w.log) ≡ Some origin
  pub sent_by : (log : List LogLine) → length w.log < length log → IsSentBy configs log t origin
  pub same : (k : ℕ) (u : Transmission) (p : Origin) → slice_get w.air k ≡ Some u
      → slice_get (origins w.log) k ≡ Some p → place_of p ≡ place_of origin → u.pdu ≡ t.pdu

-- the same where there is a frame
abbrev pub FrameFits : Option Transmission → List Config → WorldModel → Event → What → Type 0
FrameFits None configs w e what = Unit {0}
FrameFits (Some t) configs w e what = GivenFits configs w e what t

-- what a station's step has to be
pub record Fits (configs : List Config) (w : WorldModel) (e : Event) (what : What)
    (s : StationModel) (delivered : Option Transmission) (step : Step) : Type 0 where
  pub address : step.station.address ≡ s.address
  pub capacity : step.station.capacity ≡ s.capacity
  pub remember : step.station.remember ≡ s.remember
  pub mobile : step.station.mobile ≡ s.mobile
  pub source : s.vector.address ≡ s.address → step.station.vector.address ≡ s.address
  pub place : step.station.vector.place
      ≡ moved_by (entry_of (length w.air) step.answer) what s.vector.place
  pub number : step.station.next_number
      ≡ renumbered_by (entry_of (length w.air) step.answer) what s.next_number
  pub history : step.station.history
      ≡ heard_in (entry_of (length w.air) step.answer) delivered e.moment s.history
  pub frame : FrameFits (frame_of step.answer) configs w e what
  pub fact : LineFact (entry_of (length w.air) step.answer) configs
      (with_one_more w.air (frame_of step.answer)) e delivered w.log

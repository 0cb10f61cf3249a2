-- What holds of every fleet: its units' stations are those of a world.
use Rattle.std.specs.Prelude.{◌≡◌, ◌⊎◌, ℕ, ◌-◌, ◌≤◌, List, [], map, filter, slice_get, Bool, true}
use Rattle.std.specs.Prelude.{false, Option, Some, None}
use Rattle.std.specs.Option.{option_map}
use Rattle.std.specs.List.{AllZip}
use Rattle.its_gnvalue.specs.Values.{Position, mid_of}
use Rattle.its_geometry.specs.Area.{GeoArea, area_holds}
use Rattle.its_model.specs.Packet.{AreaKind, Message, Transmission, area_body}
use Rattle.its_model.specs.Calls as model
use Rattle.its_model.specs.Calls.{Answer, GbcRequest, OwnCall, area_call}
use Rattle.its_model.specs.World as world
use Rattle.its_model.specs.World.{Config, LogLine, What, WorldModel, entry_of, opening, station_of}
use Rattle.its_model.specs.World.{with_one_more, world_run}
use Rattle.its_model.specs.EverySchedule.{HoldsOfSchedules}
use Rattle.its_unit.specs.Unit.{UnitModel, UnitAnswer, step_within}
use Rattle.its_unit.specs.Runs.{IsPartOf, UnitCallAt, unit_run}
use Rattle.its_unit.specs.Fleets.{NumberedFrame, Sending, UnitKind, numbered, unit_kind, FleetWhat}
use Rattle.its_unit.specs.Fleets.{FleetEvent, FleetLine, FleetModel, new_fleet, Asked, asked}
use Rattle.its_unit.specs.Fleets.{whole_answer}
use Rattle.its_unit.specs.Fleets.{fleet_run, world_events, calls_of, at_time}

-- ---- words of the laws

-- the list has this element
abbrev pub IsIn : {X : Type 0} → List X → X → Type 0
IsIn xs x = (k : ℕ) × (slice_get xs k ≡ Some x)

-- each element of the first list is one of the second
abbrev pub AreAmong : {X : Type 0} → List X → List X → Type 0
AreAmong {X} xs ys = (x : X) → IsIn xs x → IsIn ys x

-- each of these frames is the one of its number
abbrev pub AreNumbered : List Transmission → List NumberedFrame → Type 0
AreNumbered air frames = (f : NumberedFrame) → IsIn frames f → slice_get air f.number ≡ Some f.frame

-- ---- kinds of units whose frames are late or lost, and no more

-- The frame that is sent, and those that wait afterwards, waited before or were made in this step.
abbrev pub SendsOwn : {U : Type 0} → UnitKind U → U → Option NumberedFrame → Sending U → Type 0
SendsOwn kind u made s =
    AreAmong (with_one_more (kind.waiting s.unit) s.sent) (with_one_more (kind.waiting u) made)

-- a call that the station makes: it makes that very call, and a part of its answer passes
pub record IsMade {U : Type 0} (kind : UnitKind U) (n : ℕ) (u : U) (c : UnitCallAt) : Type 0 where
  pub station : kind.station (kind.call n u c).unit
      ≡ (step_within (kind.station u) c.now c.call).station
  pub answer : IsPartOf (kind.answer u c) (whole_answer kind u c)
  pub frames : SendsOwn kind u (numbered n (world.frame_of (whole_answer kind u c)))
      (kind.call n u c)

-- a call that is withheld from the station: it is over its rate, and the station stays as it is
pub record IsKeptBack {U : Type 0} (kind : UnitKind U) (n : ℕ) (u : U) (c : UnitCallAt) :
    Type 0 where
  pub station : kind.station (kind.call n u c).unit ≡ kind.station u
  pub answer : kind.answer u c ≡ UnitAnswer.OverRate
  pub frames : SendsOwn kind u None (kind.call n u c)

-- a release: the station stays as it is
pub record IsRelease {U : Type 0} (kind : UnitKind U) (u : U) (now : ℕ) : Type 0 where
  pub station : kind.station (kind.release u now).unit ≡ kind.station u
  pub frames : SendsOwn kind u None (kind.release u now)

-- The frames of units of this kind are late or lost, and no more. In each step the station makes
-- that very call or none, and a unit sends only frames that its station made. A unit that holds
-- frames, and sends them later or never, is of such a kind.
pub record IsLateOrLost {U : Type 0} (kind : UnitKind U) : Type 0 where
  pub made : (n : ℕ) (u : U) (c : UnitCallAt) → kind.is_withheld u c ≡ false → IsMade kind n u c
  pub withheld : (n : ℕ) (u : U) (c : UnitCallAt) → kind.is_withheld u c ≡ true
      → IsKeptBack kind n u c
  pub released : (u : U) (now : ℕ) → IsRelease kind u now

-- ---- a fleet is a world

-- the delivery of frame n of the fleet is, in the world, that of the frame with its number
pub record IsDelivery (sent : List NumberedFrame) (n : ℕ) (what : What) : Type 0 where
  pub frame : NumberedFrame
  pub is : slice_get sent n ≡ Some frame
  pub what_is : what ≡ What.Deliver frame.number

-- what happens to a unit is this in the world
abbrev pub IsSameWhat : List NumberedFrame → FleetWhat → What → Type 0
IsSameWhat sent (FleetWhat.Calls call) what = what ≡ What.Calls call
IsSameWhat sent (FleetWhat.Deliver n) what = IsDelivery sent n what
IsSameWhat sent (FleetWhat.DeliverVerified n message) what = IsDelivery sent n what
IsSameWhat sent FleetWhat.Release what = ⊥

-- The line of the world is that of this call of a unit: the same call or delivery at the same time,
-- and of its answer a part passed. `whole` is that answer, with the frame for its number.
pub record IsLineOf (sent : List NumberedFrame) (air : List Transmission) (mine : FleetLine)
    (line : LogLine) : Type 0 where
  pub station : line.event.station ≡ mine.event.unit
  pub moment : line.event.moment ≡ mine.event.moment
  pub what : IsSameWhat sent mine.event.what line.event.what
  pub whole : Answer Transmission
  pub entry : line.entry ≡ entry_of mine.number whole
  pub frame : (t : Transmission) → world.frame_of whole ≡ Some t
      → slice_get air mine.number ≡ Some t
  pub part : IsPartOf mine.answer whole

-- a call that its station made
abbrev pub is_made : UnitAnswer → Bool
is_made (UnitAnswer.Passed answer) = true
is_made UnitAnswer.Repeated = true
is_made UnitAnswer.OverRate = false

-- the calls that stations made
abbrev pub made_lines : List FleetLine → List FleetLine
made_lines log = filter (λ line. is_made line.answer) log

-- The fleet did what this world did:
-- - `stations`: the stations within are those of the world
-- - `made`: they made the frames of the world
-- - `sent`, `waiting`: each frame that a unit sent, or that waits in one, is the frame of the world
--   with its number
-- - `log`: the calls that stations made are the world's log, line for line, and a part of each
--   entry passed
pub record IsLikeWorld {U : Type 0} (kind : UnitKind U) (f : FleetModel U) (w : WorldModel) :
    Type 0 where
  pub stations : map kind.station f.units ≡ w.stations
  pub made : f.made ≡ w.air
  pub sent : AreNumbered w.air f.sent
  pub waiting : (u : U) → IsIn f.units u → AreNumbered w.air (kind.waiting u)
  pub log : AllZip (IsLineOf f.sent w.air) (made_lines f.log) w.log

-- units whose stations are new, of these configs, and in which no frame waits
pub record AreNewUnits {U : Type 0} (kind : UnitKind U) (configs : List Config)
    (units : List U) : Type 0 where
  pub stations : map kind.station units ≡ map station_of configs
  pub waiting : (u : U) → IsIn units u → kind.waiting u ≡ []

-- a fleet of these units after events, and the world in which the stations within do the same
abbrev pub fleet_after : {U : Type 0} → UnitKind U → List U → List FleetEvent → FleetModel U
fleet_after kind units events = fleet_run kind (new_fleet units) events

abbrev pub world_after : {U : Type 0} → UnitKind U → List Config → List U → List FleetEvent
    → WorldModel
world_after kind configs units events =
    world_run (opening configs) (world_events kind (new_fleet units) events)

-- So each fleet did what a run of the world did.
abbrev pub FleetIsWorld : {U : Type 0} → UnitKind U → List Config → List U → Type 0
FleetIsWorld kind configs units =
    (events : List FleetEvent)
    → IsLikeWorld kind (fleet_after kind units events) (world_after kind configs units events)

-- and all that holds after every schedule holds of that world
abbrev pub FleetHoldsOfSchedules : {U : Type 0} → UnitKind U → List Config → List U → Type 0
FleetHoldsOfSchedules kind configs units =
    (events : List FleetEvent) → HoldsOfSchedules configs (world_after kind configs units events)

-- Each unit of a fleet is a unit after the calls that the fleet makes of it, one after the other.
-- So its limits hold, and what else `IsLawful` says.
abbrev pub UnitsRun : List UnitModel → Type 0
UnitsRun units =
    (events : List FleetEvent) (j : ℕ)
    → slice_get (fleet_after unit_kind units events).units j
    ≡ option_map (λ (u : UnitModel). unit_run u (calls_of unit_kind j (new_fleet units) events))
    (slice_get units j)

-- No frame is sent twice: two frames that units sent have two numbers of the world.
abbrev pub SendsOnce : List UnitModel → Type 0
SendsOnce units =
    (events : List FleetEvent) (m n : ℕ) (a b : NumberedFrame)
    → let f = fleet_after unit_kind units events in
    slice_get f.sent m ≡ Some a → slice_get f.sent n ≡ Some b → a.number ≡ b.number → m ≡ n

-- ---- what a reader wants of a fleet

-- A unit sent a packet by this line, with this message for an area that holds this position.
pub record WasSent (kind : AreaKind) (log : List FleetLine) (message : Message)
    (here : Position) : Type 0 where
  pub line : FleetLine
  pub request : GbcRequest
  pub frame : Transmission
  pub logged : IsIn log line
  pub call : line.event.what ≡ FleetWhat.Calls (area_call kind request)
  pub answer : line.answer ≡ UnitAnswer.Passed (model.Answer.Sent frame)
  pub same : request.message ≡ message
  pub inside : area_holds request.area here ≡ true

-- an event delivers this frame of the fleet, plain or as a secured frame
abbrev pub Brings : List NumberedFrame → FleetWhat → Transmission → Type 0
Brings sent (FleetWhat.Calls call) t = ⊥
Brings sent (FleetWhat.Deliver n) t =
    (number : ℕ) × (slice_get sent n ≡ Some (record { number = number; frame = t }))
Brings sent (FleetWhat.DeliverVerified n message) t =
    (number : ℕ) × (slice_get sent n ≡ Some (record { number = number; frame = t }))
Brings sent FleetWhat.Release t = ⊥

-- What a unit delivers to a port of a packet for an area was sent before by a unit of the fleet, to
-- that port, for an area that holds the receiver's position at that time.
abbrev pub DeliversAsSent : {U : Type 0} → UnitKind U → List U → Type 0
DeliversAsSent {U} kind units =
    (events : List FleetEvent) (next : FleetEvent) (u : U) (a : Asked) (t : Transmission)
    (area_kind : AreaKind) (number : ℕ) (area : GeoArea) (sent message : Message)
    (relayed : Option Transmission)
    → let f = fleet_after kind units events in
    slice_get f.units next.unit ≡ Some u → asked f.sent next.what ≡ Some a
    → Brings f.sent next.what t → t.pdu.body ≡ area_body area_kind number area sent
    → kind.answer u (at_time next a)
    ≡ UnitAnswer.Passed (model.Answer.Accepted (Some message) relayed)
    → WasSent area_kind f.log message (kind.station u).vector.place

-- a unit sent the frame as its own packet
pub record IsOwnPacket (log : List FleetLine) (t : Transmission) : Type 0 where
  pub line : FleetLine
  pub call : OwnCall
  pub logged : IsIn log line
  pub is : line.event.what ≡ FleetWhat.Calls call
  pub answer : line.answer ≡ UnitAnswer.Passed (model.Answer.Sent t)

-- the frame is one that a unit sent, forwarded by one that received it: the same packet with one
-- hop fewer left, from the forwarding unit's own link address
pub record IsForwarded (configs : List Config) (f : List NumberedFrame) (log : List FleetLine)
    (t : Transmission) : Type 0 where
  pub line : FleetLine
  pub packet : Transmission
  pub config : Config
  pub target : ℕ
  pub logged : IsIn log line
  pub brought : Brings f line.event.what packet
  pub hops : 2 ≤ packet.hops_left
  pub forwarder : slice_get configs line.event.unit ≡ Some config
  pub same : t ≡ record {
    pdu = packet.pdu;
    hops_left = packet.hops_left - 1;
    link_source = mid_of config.address;
    link_target = target;
  }

-- Each frame that a unit of the fleet sends is its own packet, or a faithful forwarding.
abbrev pub FramesAreFaithful : {U : Type 0} → UnitKind U → List Config → List U → Type 0
FramesAreFaithful kind configs units =
    (events : List FleetEvent) (sent : NumberedFrame)
    → let f = fleet_after kind units events in
    IsIn f.sent sent
    → IsOwnPacket f.log sent.frame ⊎ IsForwarded configs f.sent f.log sent.frame

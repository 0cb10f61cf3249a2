-- A fleet: units that exchange the frames that they send, in every order, with losses. A frame that
-- is delivered to nobody is lost. One may be delivered often, late, and to any unit.
use Rattle.std.specs.Prelude.{ℕ, List, [], ◌∷◌, ◌++◌, length, slice_get, slice_set}
use Rattle.std.specs.Prelude.{Bool, ◌==◌, if◌then◌else◌, Option, Some, None}
use Rattle.its_model.specs.Packet.{Transmission}
use Rattle.its_model.specs.Calls as model
use Rattle.its_model.specs.Calls.{Answer, OwnCall}
use Rattle.its_model.specs.Station.{StationModel}
use Rattle.its_model.specs.World as world
use Rattle.its_model.specs.World.{Event, What, with_one_more}
use Rattle.its_station.specs.Receiving.{VerifiedCall}
use Rattle.its_unit.specs.Unit.{UnitModel, UnitCall, UnitAnswer, step_within, unit_step}
use Rattle.its_unit.specs.Runs.{UnitCallAt, is_withheld}

-- ---- a unit, as a fleet sees it

-- A frame that a station of the fleet made, with its number: how many frames all stations had made
-- before. A station makes a frame for each own packet, and for each packet that it forwards.
pub record NumberedFrame : Type 0 where
  pub number : ℕ
  pub frame : Transmission

-- what a unit sends, if it sends a frame, and the unit afterwards
pub record Sending (U : Type 0) : Type 0 where
  pub sent : Option NumberedFrame
  pub unit : U

-- What a fleet needs of a unit:
-- - `station`: the station within
-- - `waiting`: the frames that wait in the unit
-- - `is_withheld`: whether a call is withheld from the station
-- - `answer`: what passes of the answer to a call
-- - `call`: what the unit sends in a call, and the unit afterwards. It gets the number of the frame
--   that the station makes, if it makes one
-- - `release`: what the unit sends at a time without a call, and the unit afterwards
pub record UnitKind (U : Type 0) : Type 0 where
  pub station : U → StationModel
  pub waiting : U → List NumberedFrame
  pub is_withheld : U → UnitCallAt → Bool
  pub answer : U → UnitCallAt → UnitAnswer
  pub call : ℕ → U → UnitCallAt → Sending U
  pub release : U → ℕ → Sending U

-- a frame with this number, if there is one
abbrev pub numbered : ℕ → Option Transmission → Option NumberedFrame
numbered n None = None
numbered n (Some t) = Some (record { number = n; frame = t })

-- the frame that passes
abbrev pub frame_passed : UnitAnswer → Option Transmission
frame_passed (UnitAnswer.Passed answer) = world.frame_of answer
frame_passed UnitAnswer.Repeated = None
frame_passed UnitAnswer.OverRate = None

-- A unit of `UnitModel` sends a frame in the call by which its station makes it, or never. No frame
-- waits.
abbrev pub unit_kind : UnitKind UnitModel
unit_kind = record {
  station = λ u. u.station;
  waiting = λ u. [];
  is_withheld = is_withheld;
  answer = λ u c. (unit_step u c.now c.call).answer;
  call = λ n u c. record {
    sent = numbered n (frame_passed (unit_step u c.now c.call).answer);
    unit = (unit_step u c.now c.call).unit;
  };
  release = λ u now. record { sent = None; unit = u };
}

-- ---- what happens in a fleet

-- What happens to a unit:
-- - `Calls`: an own call of the model. A move with a time stamp of its own is no such call, nor is
--   a single-hop broadcast with options of its own
-- - `Deliver`: a frame arrives that a unit sent, by the number that the fleet gave to it
-- - `DeliverVerified`: the same frame arrives as a verified secured frame with this message
-- - `Release`: the unit may send a frame that waits
pub data FleetWhat : Type 0 where
  Calls : (call : OwnCall) → FleetWhat
  Deliver : (frame : ℕ) → FleetWhat
  DeliverVerified : (frame : ℕ) (message : List ℕ) → FleetWhat
  Release : FleetWhat

-- what happens to which unit, and when
pub record FleetEvent : Type 0 where
  pub unit : ℕ
  pub moment : ℕ
  pub what : FleetWhat

-- a call of a unit, how many frames all stations had made before it, and what passed
pub record FleetLine : Type 0 where
  pub event : FleetEvent
  pub number : ℕ
  pub answer : UnitAnswer

-- The units. All frames that the stations within made, each at its number, also those that no unit
-- sends. All frames that a unit sent, each at the number that the fleet gave to it. All calls, the
-- newest first.
pub record FleetModel (U : Type 0) : Type 0 where
  pub units : List U
  pub made : List Transmission
  pub sent : List NumberedFrame
  pub log : List FleetLine

-- these units, and nothing that happened
abbrev pub new_fleet : {U : Type 0} → List U → FleetModel U
new_fleet units = record { units = units; made = []; sent = []; log = [] }

-- a call of a unit, and what it is in the world
pub record Asked : Type 0 where
  pub call : UnitCall
  pub what : What

-- the delivery of a frame, if it was sent
abbrev pub delivery : (Transmission → UnitCall) → Option NumberedFrame → Option Asked
delivery brought None = None
delivery brought (Some f) =
    Some (record { call = brought f.frame; what = What.Deliver f.number })

-- a frame that came, as a call
abbrev pub plain : Transmission → UnitCall
plain t = UnitCall.Receive (model.Call.Receive t)

-- a frame that came as a secured frame with this message, as a call
abbrev pub verified : List ℕ → Transmission → UnitCall
verified message t =
    UnitCall.ReceiveVerified (VerifiedCall.Came (record { frame = t; message = message }))

-- what is asked of a unit, if it is something
abbrev pub asked : List NumberedFrame → FleetWhat → Option Asked
asked sent (FleetWhat.Calls call) =
    Some (record { call = UnitCall.Own call; what = What.Calls call })
asked sent (FleetWhat.Deliver n) = delivery plain (slice_get sent n)
asked sent (FleetWhat.DeliverVerified n message) = delivery (verified message) (slice_get sent n)
asked sent FleetWhat.Release = None

-- at the time of the event
abbrev pub at_time : FleetEvent → Asked → UnitCallAt
at_time e a = record { now = e.moment; call = a.call }

-- the answer of the station within, if it makes the call
abbrev pub whole_answer : {U : Type 0} → UnitKind U → U → UnitCallAt → Answer Transmission
whole_answer kind u c = (step_within (kind.station u) c.now c.call).answer

-- the frame that the station makes by a call
abbrev pub made_by : {U : Type 0} → UnitKind U → U → UnitCallAt → Option Transmission
made_by kind u c =
    if kind.is_withheld u c then None else world.frame_of (whole_answer kind u c)

-- a call of unit j, and its line of the log
abbrev pub called : {U : Type 0} → UnitKind U → FleetModel U → FleetEvent → U → UnitCallAt
    → FleetModel U
called kind f e u c =
    record {
      units = slice_set f.units e.unit (kind.call (length f.made) u c).unit;
      made = with_one_more f.made (made_by kind u c);
      sent = with_one_more f.sent (kind.call (length f.made) u c).sent;
      log = record { event = e; number = length f.made; answer = kind.answer u c } ∷ f.log;
    }

-- a call, if something is asked
abbrev pub called_if : {U : Type 0} → UnitKind U → FleetModel U → FleetEvent → U → Option Asked
    → FleetModel U
called_if kind f e u None = f
called_if kind f e u (Some a) = called kind f e u (at_time e a)

-- a frame that waited is sent, if one may be
abbrev pub released : {U : Type 0} → FleetModel U → FleetEvent → Sending U → FleetModel U
released f e s =
    record {
      units = slice_set f.units e.unit s.unit;
      made = f.made;
      sent = with_one_more f.sent s.sent;
      log = f.log;
    }

-- what happens to a unit
abbrev pub happened : {U : Type 0} → UnitKind U → FleetModel U → FleetEvent → U → FleetWhat
    → FleetModel U
happened kind f e u (FleetWhat.Calls call) =
    called_if kind f e u (asked f.sent (FleetWhat.Calls call))
happened kind f e u (FleetWhat.Deliver n) =
    called_if kind f e u (asked f.sent (FleetWhat.Deliver n))
happened kind f e u (FleetWhat.DeliverVerified n message) =
    called_if kind f e u (asked f.sent (FleetWhat.DeliverVerified n message))
happened kind f e u FleetWhat.Release = released f e (kind.release u e.moment)

-- an event at a unit, if there is such a one
abbrev pub at_unit : {U : Type 0} → UnitKind U → FleetModel U → FleetEvent → Option U → FleetModel U
at_unit kind f e None = f
at_unit kind f e (Some u) = happened kind f e u e.what

-- One event. If there is no such unit, or no unit sent the frame, nothing happens.
abbrev pub fleet_step : {U : Type 0} → UnitKind U → FleetModel U → FleetEvent → FleetModel U
fleet_step kind f e = at_unit kind f e (slice_get f.units e.unit)

-- events, one after the other
abbrev pub fleet_run : {U : Type 0} → UnitKind U → FleetModel U → List FleetEvent → FleetModel U
fleet_run kind f [] = f
fleet_run kind f (e ∷ events) = fleet_run kind (fleet_step kind f e) events

-- ---- the same events in the world

-- a call, if something is asked and the station makes it
abbrev pub call_in_world : {U : Type 0} → UnitKind U → FleetEvent → U → Option Asked → List Event
call_in_world kind e u None = []
call_in_world kind e u (Some a) =
    if kind.is_withheld u (at_time e a) then []
    else record { station = e.unit; moment = e.moment; what = a.what } ∷ []

-- an event at a unit, if there is such a one
abbrev pub unit_in_world : {U : Type 0} → UnitKind U → FleetModel U → FleetEvent → Option U
    → List Event
unit_in_world kind f e None = []
unit_in_world kind f e (Some u) = call_in_world kind e u (asked f.sent e.what)

-- one event
abbrev pub event_in_world : {U : Type 0} → UnitKind U → FleetModel U → FleetEvent → List Event
event_in_world kind f e = unit_in_world kind f e (slice_get f.units e.unit)

-- The events of the world whose stations do what the stations within do. They are the same calls,
-- without those that a unit withholds, and deliveries of the same frames, by the world's numbers. A
-- frame that no unit sends has a number in the world too, and is delivered to nobody.
abbrev pub world_events : {U : Type 0} → UnitKind U → FleetModel U → List FleetEvent → List Event
world_events kind f [] = []
world_events kind f (e ∷ events) =
    event_in_world kind f e ++ world_events kind (fleet_step kind f e) events

-- ---- the calls of one unit

-- what an event asks of a unit, as a call
abbrev pub call_at : FleetEvent → Option Asked → List UnitCallAt
call_at e None = []
call_at e (Some a) = at_time e a ∷ []

-- the calls of unit j in a fleet, in order
abbrev pub calls_of : {U : Type 0} → UnitKind U → ℕ → FleetModel U → List FleetEvent
    → List UnitCallAt
calls_of kind j f [] = []
calls_of kind j f (e ∷ events) =
    (if e.unit == j then call_at e (asked f.sent e.what) else [])
    ++ calls_of kind j (fleet_step kind f e) events

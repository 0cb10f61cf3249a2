-- Many stations and all frames that they gave, over every schedule of calls and deliveries. A frame
-- that is delivered to nobody is lost; one may be delivered often, late, and to any station.
use Rattle.std.specs.Prelude.{ℕ, List, [], ◌∷◌, ◌++◌, map, reverse, length, Option, Some, None}
use Rattle.std.specs.Prelude.{slice_get, slice_set}
use Rattle.its_gnvalue.specs.Values.{Position}
use Rattle.its_model.specs.Packet.{Transmission}
use Rattle.its_model.specs.Calls.{OwnCall, Refusal, Answer}
use Rattle.its_model.specs.Calls.Call.{Own, Receive}
use Rattle.its_model.specs.Calls.Refusal.{NoSuchStation, NoSuchFrame}
use Rattle.its_model.specs.Calls.Answer.{Moved, Opened, Closed, Restarted, Quiet, Sent, Ignored}
use Rattle.its_model.specs.Calls.Answer.{Accepted, Refused}
use Rattle.its_model.specs.Station.{StationModel, Step, station_step, new_station}

-- a station's own call, or the delivery of a frame of the world, by its number
pub data What : Type 0 where
  Calls : (call : OwnCall) → What
  Deliver : (frame : ℕ) → What

-- what happens to which station, and when
pub record Event : Type 0 where
  pub station : ℕ
  pub moment : ℕ
  pub what : What

-- an event that was done: the frame that was delivered, if one was, and the entry, in which a
-- number names a frame
pub record LogLine : Type 0 where
  pub event : Event
  pub delivered : Option Transmission
  pub entry : Answer ℕ

-- the stations, all frames, and all that happened
pub record WorldModel : Type 0 where
  pub stations : List StationModel
  pub air : List Transmission  -- every frame that was given, each at its number
  pub log : List LogLine  -- every event that was done, the newest first

-- how a station begins
pub record Config : Type 0 where
  pub address : ℕ
  pub place : Position
  pub capacity : ℕ
  pub remember : ℕ

-- how many numbers of a source a station remembers where its config doesn't say (profile)
abbrev pub default_remember : ℕ
default_remember = 8

-- a station of this config, to which nothing happened yet
abbrev pub station_of : Config → StationModel
station_of c = new_station c.address c.place c.capacity c.remember

-- new stations, and nothing that happened
abbrev pub opening : List Config → WorldModel
opening configs = record { stations = map station_of configs; air = []; log = [] }

-- the frame that an answer gives
abbrev pub frame_of : {F : Type 0} → Answer F → Option F
frame_of (Sent frame) = Some frame
frame_of (Accepted handed relayed) = relayed
frame_of Moved = None
frame_of Opened = None
frame_of Closed = None
frame_of Restarted = None
frame_of Quiet = None
frame_of (Ignored why) = None
frame_of (Refused refusal) = None

-- a number for a frame, if there is one
abbrev pub numbered : {F : Type 0} → ℕ → Option F → Option ℕ
numbered n None = None
numbered n (Some frame) = Some n

-- the same answer, with a number in place of the frame
abbrev pub entry_of : ℕ → Answer Transmission → Answer ℕ
entry_of n Moved = Moved
entry_of n Opened = Opened
entry_of n Closed = Closed
entry_of n Restarted = Restarted
entry_of n Quiet = Quiet
entry_of n (Sent frame) = Sent n
entry_of n (Ignored why) = Ignored why
entry_of n (Accepted handed relayed) = Accepted handed (numbered n relayed)
entry_of n (Refused refusal) = Refused refusal

-- with one at the end, if there is one
abbrev pub with_one_more : {X : Type 0} → List X → Option X → List X
with_one_more xs None = xs
with_one_more xs (Some x) = xs ++ x ∷ []

-- an event for which there is no station or no frame: it is logged as refused
abbrev pub passed_over : WorldModel → Event → Refusal → WorldModel
passed_over w e refusal =
    record {
      stations = w.stations;
      air = w.air;
      log = record { event = e; delivered = None; entry = Refused refusal } ∷ w.log;
    }

-- an event that its station answered: a frame that it gave gets the next number
abbrev pub answered : WorldModel → Event → Option Transmission → Step → WorldModel
answered w e delivered step =
    record {
      stations = slice_set w.stations e.station step.station;
      air = with_one_more w.air (frame_of step.answer);
      log = record { event = e; delivered = delivered; entry = entry_of (length w.air) step.answer }
          ∷ w.log;
    }

-- a delivery of a frame, if there is such a one
abbrev pub delivery : WorldModel → Event → StationModel → Option Transmission → WorldModel
delivery w e s None = passed_over w e NoSuchFrame
delivery w e s (Some t) = answered w e (Some t) (station_step s e.moment (Receive t))

-- what a station is asked
abbrev pub asked : WorldModel → Event → StationModel → What → WorldModel
asked w e s (Calls call) = answered w e None (station_step s e.moment (Own call))
asked w e s (Deliver k) = delivery w e s (slice_get w.air k)

-- an event at a station, if there is such a one
abbrev pub at_station : WorldModel → Event → Option StationModel → WorldModel
at_station w e None = passed_over w e NoSuchStation
at_station w e (Some s) = asked w e s e.what

-- one event: the station is looked for first, then the frame; then the station is asked
abbrev pub world_step : WorldModel → Event → WorldModel
world_step w e = at_station w e (slice_get w.stations e.station)

-- events, one after the other
abbrev pub world_run : WorldModel → List Event → WorldModel
world_run w [] = w
world_run w (e ∷ events) = world_run (world_step w e) events

-- the entries of a log, the oldest first
abbrev pub entries : List LogLine → List (Answer ℕ)
entries log = reverse (map (λ line. line.entry) log)

-- the events of a log, the oldest first
abbrev pub events_in : List LogLine → List Event
events_in log = reverse (map (λ line. line.event) log)

-- What is done in an air, and when. What waits is a list, in the order in which it is done.
use Rattle.std.specs.Prelude.{ℕ, zero, suc, ◌+◌, ◌%◌, ◌==◌, List, [], ◌∷◌, ◌++◌, map, length, max}
use Rattle.std.specs.Prelude.{Option, Some, None, slice_get, nat_le, nat_lt, Bool, true, false, not}
use Rattle.std.specs.Prelude.{◌&&◌, cond, ◌<◌, count_by, slice_set}
use Rattle.std.specs.List.{filter}
use Rattle.rand_core.specs.Stream.{Stream, next_u64}
use Rattle.its_gnvalue.specs.Values.{Position}
use Rattle.its_model.specs.Calls.{Answer, ShbRequest}
use Rattle.its_model.specs.Calls.OwnCall.{Tick, SendShb}
use Rattle.its_model.specs.Calls.Answer.{Moved, Opened, Closed, Restarted, Quiet, Sent, Ignored}
use Rattle.its_model.specs.Calls.Answer.{Accepted, Refused}
use Rattle.its_model.specs.Station.{StationModel}
use Rattle.its_model.specs.World.{Config, Event, What, WorldModel, LogLine}
use Rattle.its_model.specs.World.{opening, world_run, frame_of}
use Rattle.its_model.specs.Reach.{is_moved}
use Rattle.its_model.specs.World.What.{Calls, Deliver}
use Rattle.sim_air_model.specs.Draws.{draws_of}
use Rattle.sim_air_model.specs.Range.{is_within}

-- what each station sends again and again
pub record Traffic : Type 0 where
  pub number : ℕ  -- its place among all traffic
  pub period : ℕ  -- from one send to the next, in milliseconds
  pub request : ShbRequest  -- what is sent

-- what an air goes by
pub record Rules : Type 0 where
  pub range : ℕ  -- how far a frame is heard, in metres
  pub delay : ℕ  -- from a frame's sending to its deliveries, in milliseconds
  pub loss : ℕ  -- how many deliveries of a hundred are lost
  pub beacons : Bool  -- whether each station ticks by itself
  pub seed : ℕ  -- what the draws begin with
  pub until : ℕ  -- the last moment that is run
  pub every : List Traffic  -- what each station sends by itself
  pub present : List Bool  -- which stations are present at the start

-- the station of this number is present: there is one, and it isn't absent
abbrev pub holds : Option Bool → Bool
holds None = false
holds (Some b) = b

abbrev pub is_present : List Bool → ℕ → Bool
is_present present station = holds (slice_get present station)

-- what a file has: an event of the world, or a station that leaves at a moment
pub data Filed : Type 0 where
  Happens : (event : Event) → Filed
  Leaves : (station moment : ℕ) → Filed

-- an event that is put, whether by the air itself, and the traffic that it is a send of, if it is
pub record Planned : Type 0 where
  pub event : Event
  pub own : Bool
  pub traffic : Option Traffic

-- what waits: an event is to be done, or a station departs at a moment
pub data Pending : Type 0 where
  Does : (does : Planned) → Pending
  Departs : (station moment : ℕ) → Pending

-- the moment of what waits
abbrev pub at : Pending → ℕ
at (Does p) = p.event.moment
at (Departs station moment) = moment

-- an event of the file, and one of the air's own that is no send
abbrev pub by_file : Event → Planned
by_file e = record { event = e; own = false; traffic = None }

abbrev pub of_air : Event → Planned
of_air e = record { event = e; own = true; traffic = None }

-- what the file has waits
abbrev pub of_file : Filed → Pending
of_file (Happens e) = Does (by_file e)
of_file (Leaves station moment) = Departs station moment

-- when it waits
abbrev pub moment_in : Filed → ℕ
moment_in filed = at (of_file filed)

-- a send of traffic, by a station, at a moment
abbrev pub sending : Traffic → ℕ → ℕ → Planned
sending x station moment =
    record {
      event = record {
        station = station;
        moment = moment;
        what = Calls (SendShb x.request);
      };
      own = true;
      traffic = Some x;
    }

-- what waits, the first in front, once this is put too: behind all that wait for no later moment
abbrev pub schedule : Pending → List Pending → List Pending
schedule p [] = p ∷ []
schedule p (q ∷ waiting) = cond (nat_le (at q) (at p)) (q ∷ schedule p waiting) (p ∷ q ∷ waiting)

-- what waits once these are put too, in order
abbrev pub schedule_all : List Pending → List Pending → List Pending
schedule_all [] waiting = waiting
schedule_all (p ∷ more) waiting = schedule_all more (schedule p waiting)

-- what waits, and what is yet to be drawn
pub record Timetable : Type 0 where
  pub waiting : List Pending
  pub draws : Stream

-- the next number that is drawn
abbrev pub draw : Timetable → ℕ
draw t = (next_u64 t.draws).0

-- with this put, and the next number drawn
abbrev pub draw_and_schedule : Planned → Timetable → Timetable
draw_and_schedule p t = record {
  waiting = schedule (Does p) t.waiting;
  draws = (next_u64 t.draws).1;
}

-- with the next number drawn
abbrev pub draw_alone : Timetable → Timetable
draw_alone t = record { waiting = t.waiting; draws = (next_u64 t.draws).1 }

-- the delivery of a frame to a station
abbrev pub delivery : ℕ → ℕ → ℕ → Planned
delivery frame moment station =
    of_air (record { station = station; moment = moment; what = Deliver frame })

-- A frame comes to a station at a moment, unless it is lost: for that there is one draw.
abbrev pub send : ℕ → ℕ → ℕ → ℕ → Timetable → Timetable
send loss frame moment station t =
    cond (nat_lt (draw t % 100) loss) (draw_alone t)
    (draw_and_schedule (delivery frame moment station) t)

-- it comes so to each of these stations, in order
abbrev pub send_all : ℕ → ℕ → ℕ → List ℕ → Timetable → Timetable
send_all loss frame moment [] t = t
send_all loss frame moment (station ∷ more) t =
    send_all loss frame moment more (send loss frame moment station t)

-- the tick of a station with this jitter: at this moment, or, where that is later, when its beacon
-- is due by that jitter
abbrev pub tick : ℕ → ℕ → ℕ → ℕ → Planned
tick station moment beacon_from jitter =
    of_air (record {
      station = station;
      moment = max moment (beacon_from + jitter);
      what = Calls (Tick jitter);
    })

-- the tick of a station is put: its jitter, of 0 to 750 ms, is one draw
abbrev pub schedule_tick : ℕ → ℕ → ℕ → Timetable → Timetable
schedule_tick station moment beacon_from t =
    draw_and_schedule (tick station moment beacon_from (draw t % 751)) t

-- the first tick of each of so many stations that is present is put, in order: at its jitter
abbrev pub schedule_first_ticks : List Bool → ℕ → Timetable → Timetable
schedule_first_ticks present zero t = t
schedule_first_ticks present (suc n) t =
    cond (is_present present n) (schedule_tick n 0 0 (schedule_first_ticks present n t))
    (schedule_first_ticks present n t)

-- a send of traffic by a station is put: later than a moment by a draw modulo the period
abbrev pub schedule_send : Traffic → ℕ → ℕ → Timetable → Timetable
schedule_send x station moment t =
    draw_and_schedule (sending x station (moment + draw t % x.period)) t

-- the first of each of so many stations that is present, in order: at a draw modulo the period
abbrev pub schedule_first_sends : List Bool → Traffic → ℕ → Timetable → Timetable
schedule_first_sends present x zero t = t
schedule_first_sends present x (suc n) t =
    cond (is_present present n) (schedule_send x n 0 (schedule_first_sends present x n t))
    (schedule_first_sends present x n t)

-- those of each traffic, in order
abbrev pub schedule_traffic : List Bool → List Traffic → ℕ → Timetable → Timetable
schedule_traffic present [] count t = t
schedule_traffic present (x ∷ more) count t =
    schedule_traffic present more count (schedule_first_sends present x count t)

-- those of these stations, the first of this number, that hear what another gives at a place
abbrev pub heard_from : ℕ → ℕ → Position → ℕ → List StationModel → List ℕ
heard_from range giver place n [] = []
heard_from range giver place n (s ∷ stations) =
    cond (not (n == giver) && is_within range place s.vector.place)
    (n ∷ heard_from range giver place (n + 1) stations)
    (heard_from range giver place (n + 1) stations)

-- the stations in reach of what this one gives from where it is, in order: all others in range
abbrev pub hear_it : ℕ → List StationModel → ℕ → Option StationModel → List ℕ
hear_it range stations giver None = []
hear_it range stations giver (Some s) = heard_from range giver s.vector.place 0 stations

abbrev pub in_reach_of : ℕ → WorldModel → ℕ → List ℕ
in_reach_of range w giver = hear_it range w.stations giver (slice_get w.stations giver)

-- those that hear it: where the giver is absent none, else those in reach that are present
abbrev pub heard_by : ℕ → List Bool → WorldModel → ℕ → List ℕ
heard_by range present w giver =
    cond (is_present present giver) (filter (is_present present) (in_reach_of range w giver)) []

-- the frame that the last event gave, by its number, if it gave one
abbrev pub given : List LogLine → Option ℕ
given [] = None
given (line ∷ log) = frame_of line.entry

-- what was answered is a refusal
abbrev pub is_refusal : {F : Type 0} → Answer F → Bool
is_refusal Moved = false
is_refusal Opened = false
is_refusal Closed = false
is_refusal Restarted = false
is_refusal Quiet = false
is_refusal (Sent frame) = false
is_refusal (Ignored why) = false
is_refusal (Accepted handed relayed) = false
is_refusal (Refused refusal) = true

-- the last event was refused
abbrev pub was_refused : List LogLine → Bool
was_refused [] = false
was_refused (line ∷ log) = is_refusal line.entry

-- with the last event a station moved
abbrev pub was_moved : List LogLine → Bool
was_moved [] = false
was_moved (line ∷ log) = is_moved line.entry

-- After an event, a frame that it gave comes to each station that hears it, after the delay.
abbrev pub spread_frame : Rules → List Bool → Event → WorldModel → Option ℕ → Timetable
    → Timetable
spread_frame r present e after None t = t
spread_frame r present e after (Some k) t =
    send_all r.loss k (e.moment + r.delay) (heard_by r.range present after e.station) t

abbrev pub spread : Rules → List Bool → Event → WorldModel → Timetable → Timetable
spread r present e after t = spread_frame r present e after (given after.log) t

-- an event is a tick
abbrev pub is_tick : What → Bool
is_tick (Calls (Tick jitter)) = true
is_tick what = false

-- the next tick of a station after one at a moment
abbrev pub tick_again : Event → Option StationModel → Timetable → Timetable
tick_again e None t = t
tick_again e (Some s) t = schedule_tick e.station e.moment s.beacon_from t

-- After a tick of the air's own that wasn't refused, the station's next tick is put.
abbrev pub follow_tick : Planned → WorldModel → Timetable → Timetable
follow_tick p after t =
    cond (p.own && (is_tick p.event.what && not (was_refused after.log)))
    (tick_again p.event (slice_get after.stations p.event.station) t) t

-- with this put, and nothing drawn
abbrev pub schedule_alone : Planned → Timetable → Timetable
schedule_alone p t = record { waiting = schedule (Does p) t.waiting; draws = t.draws }

-- After a send of traffic, refused or not, the station's next one is put, a period later.
abbrev pub send_again : Event → Option Traffic → Timetable → Timetable
send_again e None t = t
send_again e (Some x) t = schedule_alone (sending x e.station (e.moment + x.period)) t

-- what waits is a tick of the air's own at this station, or a send of this traffic by it
abbrev pub is_tick_of : ℕ → Pending → Bool
is_tick_of station (Does p) =
    p.own && (is_tick p.event.what && (p.event.station == station))
is_tick_of station (Departs other moment) = false

abbrev pub is_numbered : ℕ → Option Traffic → Bool
is_numbered number None = false
is_numbered number (Some x) = x.number == number

abbrev pub is_send_of : ℕ → ℕ → Pending → Bool
is_send_of number station (Does p) =
    is_numbered number p.traffic && (p.event.station == station)
is_send_of number station (Departs other moment) = false

-- nothing of this kind waits
abbrev pub none_waits : (Pending → Bool) → Timetable → Bool
none_waits kind t = count_by kind t.waiting == 0

-- A station comes at a moment: with beacons, where no tick of the air's own waits for it, one is
-- put, later by its jitter.
abbrev pub come_ticking : Bool → ℕ → ℕ → Timetable → Timetable
come_ticking beacons station moment t =
    cond (beacons && none_waits (is_tick_of station) t) (schedule_tick station moment moment t) t

-- Where no send of this traffic by it waits, one is put, later by a draw modulo the period.
abbrev pub come_sending : Traffic → ℕ → ℕ → Timetable → Timetable
come_sending x station moment t =
    cond (none_waits (is_send_of x.number station) t) (schedule_send x station moment t) t

-- so for each traffic, in order
abbrev pub come_sending_all : List Traffic → ℕ → ℕ → Timetable → Timetable
come_sending_all [] station moment t = t
come_sending_all (x ∷ more) station moment t =
    come_sending_all more station moment (come_sending x station moment t)

-- first its tick, then its sends
abbrev pub come : Rules → ℕ → ℕ → Timetable → Timetable
come r station moment t =
    come_sending_all r.every station moment (come_ticking r.beacons station moment t)

-- With an event its station comes: it is absent, and the event is a move that isn't refused.
abbrev pub comes : List Bool → Event → WorldModel → Bool
comes present e after = was_moved after.log && not (is_present present e.station)

-- an event is a delivery
abbrev pub is_delivery : What → Bool
is_delivery (Calls call) = false
is_delivery (Deliver frame) = true

-- a call that the air itself makes for a station that is absent: it isn't made
abbrev pub is_passed_over : List Bool → Planned → Bool
is_passed_over present p =
    p.own && (not (is_delivery p.event.what) && not (is_present present p.event.station))

-- what was done in an air, what waits, and which stations are present
pub record AirModel : Type 0 where
  pub done : List Event
  pub timetable : Timetable
  pub present : List Bool

-- An event is done: then its frame comes to those that hear it, then the next tick or the next send
-- is put, by the world as it stands after the event; and with a station that comes its first ones.
abbrev pub follow_all : Rules → List Bool → Planned → WorldModel → Timetable → Timetable
follow_all r present p after t =
    send_again p.event p.traffic (follow_tick p after (spread r present p.event after t))

abbrev pub after_one : Rules → List Bool → Planned → WorldModel → Timetable → Timetable
after_one r present p after t =
    cond (comes present p.event after)
    (come r p.event.station p.event.moment (follow_all r present p after t))
    (follow_all r present p after t)

-- the stations that are present once it was done
abbrev pub present_after : List Bool → Event → WorldModel → List Bool
present_after present e after =
    cond (comes present e after) (slice_set present e.station true) present

abbrev pub do_one : Rules → List Config → AirModel → Planned → Timetable → AirModel
do_one r configs a p t =
    record {
      done = a.done ++ p.event ∷ [];
      timetable = after_one r a.present p (world_run (opening configs) (a.done ++ p.event ∷ [])) t;
      present = present_after a.present p.event
          (world_run (opening configs) (a.done ++ p.event ∷ []));
    }

-- What is taken is done, but for a call that the air makes for an absent station: of that nothing
-- comes. A departure makes its station absent, and nothing else.
abbrev pub take_one : Rules → List Config → AirModel → Pending → Timetable → AirModel
take_one r configs a (Does p) t =
    cond (is_passed_over a.present p)
    (record { done = a.done; timetable = t; present = a.present }) (do_one r configs a p t)
take_one r configs a (Departs station moment) t =
    record { done = a.done; timetable = t; present = slice_set a.present station false }

-- the first that waits is taken, if one does and its moment isn't past the last
abbrev pub do_first : Rules → List Config → AirModel → List Pending → AirModel
do_first r configs a [] = a
do_first r configs a (p ∷ rest) =
    cond (nat_le (at p) r.until)
    (take_one r configs a p (record { waiting = rest; draws = a.timetable.draws })) a

abbrev pub air_step : Rules → List Config → AirModel → AirModel
air_step r configs a = do_first r configs a a.timetable.waiting

-- so many steps
abbrev pub air_run : Rules → List Config → ℕ → AirModel → AirModel
air_run r configs zero a = a
air_run r configs (suc n) a = air_step r configs (air_run r configs n a)

-- the events and leaves of the file wait
abbrev pub with_file : Rules → List Filed → Timetable
with_file r file = record { waiting = schedule_all (map of_file file) []; draws = draws_of r.seed }

-- and with beacons the first ticks
abbrev pub with_ticks : Rules → List Config → List Filed → Timetable
with_ticks r configs file =
    schedule_first_ticks r.present (cond r.beacons (length configs) 0) (with_file r file)

-- Nothing is done yet: the events and leaves of the file wait, with beacons the first ticks, and
-- the first sends of the traffic.
abbrev pub air_opening : Rules → List Config → List Filed → AirModel
air_opening r configs file =
    record {
      done = [];
      timetable = schedule_traffic r.present r.every (length configs) (with_ticks r configs file);
      present = r.present;
    }

-- nothing waits up to the last moment
abbrev pub NoneWaits : ℕ → List Pending → Type 0
NoneWaits until [] = Unit {0}
NoneWaits until (p ∷ waiting) = until < at p

abbrev pub IsOver : Rules → AirModel → Type 0
IsOver r a = NoneWaits r.until a.timetable.waiting

-- The run of an air, line by line.
use Rattle.std.specs.Prelude.{◌≡◌, ℕ, List, [], ◌∷◌, ◌++◌, map, length}
use Rattle.its_model.specs.Calls.{Answer}
use Rattle.its_model.specs.World.{Config, Event, LogLine, What}
use Rattle.its_world.specs.Entries.{AreEntries, Entry}
use Rattle.its_world.specs.State.{WorldState}
use Rattle.sim_air.specs.AirTimed.{IsTimedRun}
use Rattle.sim_air_model.specs.Carried.{world_at}
use Rattle.sim_air_model.specs.Heard.{air_at}
use Rattle.sim_air_model.specs.Timetable.{Rules, Filed, IsOver}

-- a line: the number of an event, at which moment what happens to which station, and what is
-- answered
pub record Line : Type 0 where
  pub number : ℕ
  pub moment : ℕ
  pub station : ℕ
  pub what : What
  pub entry : Answer ℕ

-- the line of an event that was done after so many others
abbrev pub line_of : ℕ → LogLine → Line
line_of number done =
    record {
      number = number;
      moment = done.event.moment;
      station = done.event.station;
      what = done.event.what;
      entry = done.entry;
    }

-- the lines of a log, the oldest first: events are numbered from 0
abbrev pub lines_of : List LogLine → List Line
lines_of [] = []
lines_of (done ∷ before) = lines_of before ++ line_of (length before) done ∷ []

-- the event of a line
abbrev pub event_of : Line → Event
event_of line = record { station = line.station; moment = line.moment; what = line.what }

-- After some number of steps nothing more waits up to the last moment. What was done by then are
-- just the events of these lines, in order, and they are the lines of the world's log.
pub record IsRun (rules : Rules) (configs : List Config) (file : List Filed)
    (lines : List Line) : Type 0 where
  pub steps : ℕ
  pub over : IsOver rules (air_at rules configs file steps)
  pub done : (air_at rules configs file steps).done ≡ map event_of lines
  pub logged : lines_of (world_at rules configs file steps).log ≡ lines

-- what was taken is just this
abbrev pub AreThese : List Event → List Entry → List Event → List Entry → Type 0
AreThese events log took entries = (took ≡ events) × (entries ≡ log)

-- Whatever events and entries a run of these stations by these rules took, as `run_air` promises
-- one, they are the events of these lines and their answers, one for one.
abbrev pub RunsTake : Rules → List Config → List Filed → List Line → Type 0
RunsTake rules configs file lines =
    (world : WorldState) (events : List Event) (log : List Entry)
    → IsTimedRun rules configs file world (AreThese events log)
    → (events ≡ map event_of lines) × AreEntries log (map (λ line. line.entry) lines)

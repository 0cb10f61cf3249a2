-- A run in which stations move by the rows of a file: it is the run of an air, to which comes what
-- the rows and the scenario have, one after the other.
use Rattle.std.specs.Prelude.{◌≡◌, ◌≤◌, ◌<◌, ◌+◌, ◌++◌, ◌∷◌, ℕ, List, length}
use Rattle.std.specs.Prelude.{All, Bool, true, Option, IfSome}
use Rattle.std.specs.List.{AllByRecursion}
use Rattle.its_model.specs.World.{Config, Event, What, opening, world_run}
use Rattle.its_model.specs.World.What.{Calls, Deliver}
use Rattle.sim_scenario.specs.declared.events.event.AddressedEvent.{AddressedEvent}
use Rattle.sim_settings.specs.declared.moves.Moves.{Moves}
use Rattle.its_world.specs.Entries.{Entry}
use Rattle.its_world.specs.State.{WorldState}
use Rattle.sim_air.specs.AirTimed.{IsTimedRun}
use Rattle.sim_air.specs.Beside.{IsReached, Rises, rules_beside}
use Rattle.sim_air.specs.Keeps.{IsTimed}
use Rattle.sim_air.specs.Outside.{IsOfStation, IsOutside, MayCome}
use Rattle.sim_air_model.specs.Timetable.{AirModel, Filed, Pending, Rules, at}
use Rattle.sim_air_model.specs.Timetable.Pending.{Does, Departs}
use Rattle.sim_queue.specs.Waits.{pending_of}
use Rattle.sim_air.specs.declared.frames.FrameCount.{FrameCount}
use Rattle.sim_air.specs.declared.run.Run.{Run}
use Rattle.sim_queue.specs.declared.scheduled.Scheduled.{Scheduled}

-- Stations were made beside these, which were absent at the start. Of all of them it is the run of
-- an air by these rules, up to a last moment, which is the given one, if one is given. Its file is
-- what came from outside, in the order of moments: rows, leaves, and what the scenario asked for.
pub record IsMovedRun (rules : Rules) (configs : List Config) (moves : Moves)
    (asked : List AddressedEvent) (given : Option ℕ)
    (world : WorldState) (Took : List Event → List Entry → Type 0) : Type 0 where
  pub made : List Config
  pub file : List Filed
  pub until : ℕ
  pub rises : Rises file
  pub last : IfSome given (λ moment. until ≡ moment)
  pub run : IsTimedRun (rules_beside made until rules) (configs ++ made) file world Took
  pub outside : IsOutside (length configs) (length made) moves asked until file

-- ---- words of private functions

-- A delivery that waits is of a frame that is kept. Those of the frames that were counted come by a
-- moment, all of them by a later one.
abbrev pub AwaitsFrame : (released counted by latest moment : ℕ) → What → Type 0
AwaitsFrame released counted by latest moment (Calls call) = Unit {0}
AwaitsFrame released counted by latest moment (Deliver k) =
    (released ≤ k) × (k < counted → moment ≤ by) × (moment ≤ latest)

abbrev pub Awaits : (released counted by latest : ℕ) → Pending → Type 0
Awaits released counted by latest (Does p) =
    AwaitsFrame released counted by latest p.event.moment p.event.what
Awaits released counted by latest (Departs station moment) = Unit {0}

-- A run is under way: it stands as the air of the model does to which so many steps lead, whatever
-- comes from a moment on, and whichever stations are made, if it grows. The last event was done by
-- another moment; nothing waits for an earlier one.
pub record IsMoving (grows : Bool) (rules : Rules) (configs made : List Config)
    (past : List Filed) (last from end counted by : ℕ) (run : Run)
    (Took : List Event → List Entry → Type 0) : Type 0 where
  pub all : List Config
  pub now : Rules
  pub are_all : all ≡ configs ++ made
  pub are_now : now ≡ rules_beside made rules.until rules
  pub steps : ℕ
  pub air : AirModel
  pub timed : IsTimed now all air run Took
  pub reached : IsReached grows now all steps past from end air
  pub recent : last ≤ from
  pub near : from ≤ last + 1
  pub since : AllByRecursion (λ p. last ≤ at p) air.timetable.waiting
  pub frames : AllByRecursion (Awaits run.world.released counted by (last + now.delay))
      air.timetable.waiting
  pub few : counted ≤ length (world_run (opening all) air.done).air

-- the air of the model with its first taken
abbrev pub without_first : AirModel → List Pending → AirModel
without_first a rest =
    record {
      done = a.done;
      timetable = record { waiting = rest; draws = a.timetable.draws };
      present = a.present;
    }

-- The same, where the first that waits was taken and isn't done yet.
pub record IsTaken (grows : Bool) (rules : Rules) (configs made : List Config)
    (past : List Filed) (from end counted by : ℕ) (taken : Scheduled) (run : Run)
    (Took : List Event → List Entry → Type 0) : Type 0 where
  pub all : List Config
  pub now : Rules
  pub are_all : all ≡ configs ++ made
  pub are_now : now ≡ rules_beside made rules.until rules
  pub steps : ℕ
  pub air : AirModel
  pub rest : List Pending
  pub first : air.timetable.waiting ≡ pending_of taken ∷ rest
  pub timed : IsTimed now all (without_first air rest) run Took
  pub reached : IsReached grows now all steps past from end air
  pub recent : from ≤ taken.moment + 1
  pub within : taken.moment ≤ end
  pub frames : AllByRecursion (Awaits run.world.released counted by (taken.moment + now.delay))
      (pending_of taken ∷ rest)
  pub few : counted ≤ length (world_run (opening all) air.done).air

-- this comes at a moment, and is done
abbrev pub DoesAt : Bool → ℕ → List Filed → Run → (List Event → List Entry → Type 0) → Run
    → (List Event → List Entry → Type 0) → Type 0
DoesAt grows moment came old Before new After =
    (rules : Rules) (configs made : List Config) (past : List Filed) (end counted by : ℕ) →
    moment ≤ end →
    IsMoving grows rules configs made past moment moment end counted by old Before →
    IsMoving grows rules configs made (past ++ came) moment moment end counted by new After

-- the same of an event of this station, where it is there
abbrev pub DoesThere : ℕ → ℕ → List Filed → Run → (List Event → List Entry → Type 0) → Run
    → (List Event → List Entry → Type 0) → Type 0
DoesThere station moment came old Before new After =
    station < length old.world.stations → DoesAt true moment came old Before new After

-- what was to come at a moment came, or couldn't, and what came was done
pub record DoesFiled (moment : ℕ) (filed : Filed) (old : Run)
    (Before : List Event → List Entry → Type 0) (new : Run)
    (After : List Event → List Entry → Type 0) : Type 0 where
  pub came : List Filed
  pub may : MayCome (length old.world.stations) filed came
  pub does : DoesAt true moment came old Before new After

-- what was taken is done
abbrev pub DoesTaken : Scheduled → Run → (List Event → List Entry → Type 0) → Run
    → (List Event → List Entry → Type 0) → Type 0
DoesTaken taken old Before new After =
    (grows : Bool) (rules : Rules) (configs made : List Config) (past : List Filed)
    (from end counted by : ℕ) →
    IsTaken grows rules configs made past from end counted by taken old Before →
    IsMoving grows rules configs made past taken.moment (taken.moment + 1) end counted by new
    After

-- One of the radio model's own was done that waited before a limit: the run is under way as before,
-- and the last event was done before the limit.
abbrev pub TakesOwn : ℕ → FrameCount → Run → (List Event → List Entry → Type 0) → FrameCount → Run
    → (List Event → List Entry → Type 0) → Type 0
TakesOwn limit before old Before after new After =
    (grows : Bool) (rules : Rules) (configs made : List Config) (past : List Filed)
    (last from end : ℕ) → limit ≤ end + 1 →
    IsMoving grows rules configs made past last from end before.before before.delivered_by old
    Before →
    (moment : ℕ) × (moment < limit)
    × IsMoving grows rules configs made past moment (moment + 1) end after.before
    after.delivered_by new After

-- a run that is under way is under way as before
abbrev pub StaysMoving : Run → (List Event → List Entry → Type 0) → Run
    → (List Event → List Entry → Type 0) → Type 0
StaysMoving old Before new After =
    (grows : Bool) (rules : Rules) (configs made : List Config) (past : List Filed)
    (last from end counted by : ℕ) →
    IsMoving grows rules configs made past last from end counted by old Before →
    IsMoving grows rules configs made past last from end counted by new After

-- none of the radio model's own waits before a limit
pub record LeavesOwn (limit : ℕ) (before : FrameCount) (old : Run)
    (Before : List Event → List Entry → Type 0) (after : FrameCount) (new : Run)
    (After : List Event → List Entry → Type 0) : Type 0 where
  pub late : All (λ w. limit ≤ w.moment) new.queue.own
  pub count : after ≡ before
  pub world : new.world ≡ old.world
  pub stays : StaysMoving old Before new After

-- what the scenario has is done, of a station
pub record DoesAsked (event : AddressedEvent) (station : ℕ) (old : Run)
    (Before : List Event → List Entry → Type 0) (new : Run)
    (After : List Event → List Entry → Type 0) : Type 0 where
  pub came : List Filed
  pub may : IsOfStation (length old.world.stations) event station came
  pub does : DoesAt true event.moment came old Before new After

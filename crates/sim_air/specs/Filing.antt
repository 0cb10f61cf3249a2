-- A run over the events of a file that is under way.
use Rattle.std.specs.Prelude.{◌≡◌, ◌≤◌, ◌+◌, [], ℕ, List, Some, false, slice_get, take}
use denote.Ref.{Bor}
use Rattle.its_model.specs.World.{Config, Event}
use Rattle.its_world.specs.Entries.{Entry}
use Rattle.sim_air.specs.Moving.{IsMoving}
use Rattle.sim_air.specs.declared.filed_run.FiledRun.{FiledRun}
use Rattle.sim_air_model.specs.Timetable.{Rules}
use Rattle.sim_air.specs.FileEvents.{filed_in}
use Rattle.sim_scenario.specs.Airs.{moment_of}
use Rattle.sim_scenario.specs.declared.events.event.FileEvent.{FileEvent}

-- It is under way: what came from outside is what was taken of the file, and what is to come of it
-- comes no earlier.
pub record IsFiling (rules : Rules) (configs : List Config) (f : FiledRun)
    (Took : List Event → List Entry → Type 0) : Type 0 where
  pub last : ℕ
  pub from : ℕ
  pub moving : IsMoving false rules configs [] (take f.taken (filed_in f.due.items)) last from
      f.end f.count.before f.count.delivered_by f.run Took
  pub next : (e : Bor FileEvent) → slice_get f.due.items f.taken ≡ Some e →
      from ≤ moment_of e.now
  pub near : from ≤ f.end + 1

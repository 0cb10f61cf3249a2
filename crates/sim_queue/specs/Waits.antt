-- What the radio model has waiting, as it is kept: on a heap and in a line.
use Rattle.std.specs.Prelude.{◌≡◌, ℕ, ◌<◌, List, [], ◌∷◌, map, sum_by, true}
use Rattle.std.specs.List.{AllByRecursion}
use Rattle.sim_queue.specs.declared.scheduled.Scheduled.{Scheduled}
use Rattle.sim_queue.specs.Waiting.{happening_of}
use Rattle.sim_air_model.specs.Timetable.{Planned, Pending, schedule_all}
use Rattle.sim_air_model.specs.Timetable.Pending.{Does}
use Rattle.sim_queue.specs.Traffics.{traffic_in}

-- what is put for one of the air's own
abbrev pub planned_of : Scheduled → Planned
planned_of w = record { event = happening_of w; own = true; traffic = traffic_in w.own }

-- each was put later than those before it
abbrev pub PlacesRise : List Scheduled → Type 0
PlacesRise [] = Unit {0}
PlacesRise (w ∷ own) = AllByRecursion (λ v. w.place < v.place) own × PlacesRise own

-- as it waits
abbrev pub pending_of : Scheduled → Pending
pending_of w = Does (planned_of w)

-- What waits are those in the heap and the line, of which so many were put: they are put in the order
-- of their places.
pub record Waits (heap : List Scheduled) (count : ℕ) (waiting : List Pending) : Type 0 where
  pub own : List Scheduled
  pub same : (f : Scheduled → ℕ) → sum_by f own ≡ sum_by f heap
  pub rise : PlacesRise own
  pub below : AllByRecursion (λ w. w.place < count) own
  pub is : waiting ≡ schedule_all (map pending_of own) []

-- How many of the air's own events wait, by their kinds and stations.
use Rattle.std.specs.Prelude.{◌≡◌, ◌<◌, ◌+◌, ◌*◌, ◌^◌, ℕ, List, Bool, false, ◌&&◌, ◌==◌}
use Rattle.std.specs.Prelude.{Some, None, get_or, count_by}
use Rattle.std.specs.declared.option.Option.{Option}
use Rattle.sim_queue.specs.Waiting.{own_of}
use Rattle.sim_queue.specs.Traffics.{traffic_in}
use Rattle.sim_air_model.specs.Timetable.{is_tick, is_numbered}
use Rattle.sim_queue.specs.declared.kinds.Kind.{Kind}
use Rattle.sim_queue.specs.declared.kinds.Kind.TheVariants as kinds
use Rattle.sim_queue.specs.declared.scheduled.AirAction.{AirAction}
use Rattle.sim_queue.specs.declared.scheduled.AirAction.TheVariants as owns
use Rattle.sim_queue.specs.declared.scheduled.Scheduled.{Scheduled}

-- the kind of one of the air's own events that is counted: a tick is of the first, a send of the
-- one behind the number of its traffic
abbrev pub kind_in : AirAction → Option ℕ
kind_in (owns.Tick jitter) = Some 0
kind_in (owns.Deliver frame) = None
kind_in (owns.Send number x) = Some (number + 1)

abbrev pub is_kind : ℕ → Option ℕ → Bool
is_kind kind None = false
is_kind kind (Some k) = k == kind

abbrev pub is_kind_at : ℕ → ℕ → Scheduled → Bool
is_kind_at kind station w = is_kind kind (kind_in w.own) && (w.station == station)

-- the number of a kind
abbrev pub number_of : Kind → ℕ
number_of kinds.Tick = 0
number_of (kinds.Send number) = number + 1

-- what an air does by itself is of a kind
abbrev pub is_of_kind : Kind → AirAction → Bool
is_of_kind kinds.Tick own = is_tick (own_of own)
is_of_kind (kinds.Send number) own = is_numbered number (traffic_in own)

abbrev pub is_of_kind_at : Kind → ℕ → Scheduled → Bool
is_of_kind_at kind station w = is_of_kind kind w.own && (w.station == station)

-- where the count of a kind at a station stands, if it does
abbrev pub IsPlaceOf : ℕ → ℕ → ℕ → ℕ → Type 0
IsPlaceOf kinds kind station at =
    (kind < kinds) × (at ≡ station * kinds + kind) × (at + 1 < 2 ^ 64)

-- this one is counted there
abbrev pub IsCountedAt : ℕ → Scheduled → ℕ → Type 0
IsCountedAt kinds w at =
    (kind : ℕ) × (kind_in w.own ≡ Some kind) × IsPlaceOf kinds kind w.station at

-- of each station the counts stand side by side, by kinds, as far as they have an index; where they
-- end, they are 0
abbrev pub AreCounted : ℕ → List ℕ → List Scheduled → Type 0
AreCounted kinds counts own = (kind station at : ℕ) → IsPlaceOf kinds kind station at
    → get_or counts at 0 ≡ count_by (is_kind_at kind station) own

-- this one is counted nowhere
abbrev pub IsUncounted : ℕ → Scheduled → Type 0
IsUncounted kinds w = (at : ℕ) → IsCountedAt kinds w at → ⊥

-- the count of a kind at a station stands nowhere
abbrev pub HasNoPlace : ℕ → ℕ → ℕ → Type 0
HasNoPlace kinds kind station = (at : ℕ) → IsPlaceOf kinds kind station at → ⊥

-- A run with rows that is under way.
use Rattle.std.specs.Prelude.{true}
use Rattle.std.specs.Prelude.{◌≡◌, ◌≤◌, ◌<◌, ◌+◌, ◌*◌, ◌++◌, ◌∷◌, [], ◌⊎◌, ℕ, List, All, map}
use Rattle.std.specs.Prelude.{Option, Some, None, length, slice_get, take}
use Rattle.std.specs.BinaryHeap.{heap_items}
use Rattle.std.specs.List.{AllByRecursion}
use Rattle.std.specs.Option.{ForSome}
use denote.Ref.{Bor}
use Rattle.its_model.specs.World.{Config, Event}
use Rattle.sim_moves.specs.declared.row.Row.{Row}
use Rattle.sim_scenario.specs.declared.events.event.AddressedEvent.{AddressedEvent}
use Rattle.its_world.specs.Entries.{Entry}
use Rattle.sim_air.specs.Moving.{IsMoving}
use Rattle.sim_air.specs.Outside.{Came, InTurn, IsBrought, MayAsk, MayCome, asked_of, ids_of}
use Rattle.sim_air.specs.Outside.{opening_at, row_move, turn_of}
use Rattle.sim_air_model.specs.Timetable.{Filed, Rules}
use Rattle.sim_air_model.specs.Timetable.Filed.{Happens, Leaves}
use Rattle.sim_air.specs.declared.moving_run.Coming.{Coming}
use Rattle.sim_air.specs.declared.moving_run.MovingRun.{MovingRun}
use Rattle.sim_air.specs.declared.moving_run.Outside.{Outside}
use Rattle.sim_air.specs.declared.moving_run.Outside.TheVariants as outsides

-- the last moment that is run, as far as rows were read
abbrev pub end_after : Option ℕ → ℕ → ℕ
end_after (Some until) greatest = until
end_after None greatest = greatest + 10000

-- what the scenario has, in the order in which it is taken
abbrev pub asked_in : MovingRun → List AddressedEvent
asked_in m = map (λ (e : Bor AddressedEvent). e.now) m.events.items

abbrev pub end_in : MovingRun → ℕ
end_in m = end_after m.until m.greatest

-- all that comes from outside comes from a moment on
pub record ComesFrom (from : ℕ) (m : MovingRun) : Type 0 where
  pub row : ForSome m.row (λ row. from ≤ row.moment)
  pub departures : All (λ d. from ≤ d.moment) (heap_items m.departures.waiting)
  pub events : (e : Bor AddressedEvent) → slice_get m.events.items m.taken ≡ Some e →
      from ≤ e.now.moment

-- it is that from outside which comes
abbrev pub IsComing : MovingRun → ℕ → Outside → Type 0
IsComing m moment outsides.Row =
    (row : Row) × (m.row ≡ Some row) × (row.moment ≡ moment)
IsComing m moment (outsides.Departure station) =
    (from : ℕ) → All (λ d. from ≤ d.moment) (heap_items m.departures.waiting) → from ≤ moment
IsComing m moment outsides.Event =
    (e : Bor AddressedEvent) × (slice_get m.events.items m.taken ≡ Some e)
    × (e.now.moment ≡ moment)

-- of one moment a row comes first, then one that leaves, then what the scenario has
abbrev pub class_in : Outside → ℕ
class_in outsides.Row = 0
class_in (outsides.Departure station) = 1
class_in outsides.Event = 2

-- when its turn is
abbrev pub turn_in : Coming → ℕ
turn_in coming = 3 * coming.moment + class_in coming.outside

-- all that comes from outside comes when this turn is, or later
pub record ComesInTurn (turn : ℕ) (m : MovingRun) : Type 0 where
  pub row : ForSome m.row (λ row. turn ≤ 3 * row.moment)
  pub since : ℕ
  pub by_since : turn ≤ 3 * since + 1
  pub departures : All (λ d. since ≤ d.moment) (heap_items m.departures.waiting)
  pub events : (e : Bor AddressedEvent) → slice_get m.events.items m.taken ≡ Some e →
      turn ≤ 3 * e.now.moment + 2

-- it is the next from outside
pub record IsNext (m : MovingRun) (coming : Coming) : Type 0 where
  pub is : IsComing m coming.moment coming.outside
  pub first : ComesFrom coming.moment m
  pub turn : ComesInTurn (turn_in coming) m

-- A run with rows is under way, of whose file the clock shows this moment, and showed another one
-- at the begin. These stations were made, and this came from outside.
pub record IsUnder (rules : Rules) (configs made : List Config) (past : List Filed)
    (last from begin clock : ℕ) (m : MovingRun) (Took : List Event → List Entry → Type 0)
    : Type 0 where
  pub moving : IsMoving true rules configs made past last from (end_in m) m.count.before
      m.count.delivered_by m.run Took
  pub comings : ComesFrom from m
  pub ahead : ForSome m.row (λ row. row.moment + begin ≤ clock)

-- it is under way as before
abbrev pub StaysUnder : MovingRun → (List Event → List Entry → Type 0) → MovingRun
    → (List Event → List Entry → Type 0) → Type 0
StaysUnder old Before new After =
    (rules : Rules) (configs made : List Config) (past : List Filed)
    (last from begin clock : ℕ) →
    IsUnder rules configs made past last from begin clock old Before →
    IsUnder rules configs made past last from begin clock new After

-- a station was made
abbrev pub MakesUnder : Config → MovingRun → (List Event → List Entry → Type 0) → MovingRun
    → (List Event → List Entry → Type 0) → Type 0
MakesUnder config old Before new After =
    (rules : Rules) (configs made : List Config) (past : List Filed)
    (last from begin clock : ℕ) →
    IsUnder rules configs made past last from begin clock old Before →
    IsUnder rules configs (made ++ config ∷ []) past last from begin clock new After

-- what comes at a moment is done
abbrev pub StaysAt : ℕ → List Filed → MovingRun → (List Event → List Entry → Type 0)
    → MovingRun → (List Event → List Entry → Type 0) → Type 0
StaysAt moment came old Before new After =
    (rules : Rules) (configs made : List Config) (past : List Filed) (begin clock : ℕ) →
    moment ≤ end_in old →
    IsUnder rules configs made past moment moment begin clock old Before →
    IsUnder rules configs made (past ++ came) moment moment begin clock new After

-- a station is made, and what comes at a moment is done
abbrev pub MakesAt : Config → ℕ → List Filed → MovingRun
    → (List Event → List Entry → Type 0) → MovingRun → (List Event → List Entry → Type 0) → Type 0
MakesAt config moment came old Before new After =
    (rules : Rules) (configs made : List Config) (past : List Filed) (begin clock : ℕ) →
    moment ≤ end_in old →
    IsUnder rules configs made past moment moment begin clock old Before →
    IsUnder rules configs (made ++ config ∷ []) (past ++ came) moment moment begin clock new After

-- how many stations there are
abbrev pub stations_in : MovingRun → ℕ
stations_in m = length m.run.world.stations

-- a row is done: of a station that is there, or of one that it makes, which opens its ports
abbrev pub DoesRow : Row → MovingRun → (List Event → List Entry → Type 0) → MovingRun
    → (List Event → List Entry → Type 0) → Type 0
DoesRow row old Before new After =
    ((station : ℕ) × (station < stations_in old)
    × StaysAt row.moment (Happens (row_move station row) ∷ []) old Before new After)
    ⊎ ((config : Config) × MakesAt config row.moment
    (Happens (row_move (stations_in old) row)
    ∷ map (opening_at (stations_in old) row.moment) old.moves.now.ports.items)
    old Before new After)

-- a station leaves, or it stays, as a row of it came since
abbrev pub DoesLeave : ℕ → ℕ → MovingRun → (List Event → List Entry → Type 0) → MovingRun
    → (List Event → List Entry → Type 0) → Type 0
DoesLeave station moment old Before new After =
    StaysAt moment [] old Before new After
    ⊎ ((came : List Filed) × MayCome (stations_in old) (Leaves station moment) came
    × StaysAt moment came old Before new After)

-- what the scenario has is done
abbrev pub DoesEvent : AddressedEvent → MovingRun → (List Event → List Entry → Type 0)
    → MovingRun → (List Event → List Entry → Type 0) → Type 0
DoesEvent event old Before new After =
    (came : List Filed) × MayAsk (stations_in old) event event.addressee came
    × StaysAt (event.moment) came old Before new After

-- What came from outside is what these brought, the last in front, each in its turn, none later
-- than when this turn is, and what is to come comes no earlier.
pub record CameUnder (own made : ℕ) (came : List Came) (past : List Filed) (turn : ℕ)
    (m : MovingRun) : Type 0 where
  pub in_turn : InTurn came
  pub by_turn : AllByRecursion (λ c. turn_of c ≤ turn) came
  pub next : ComesInTurn turn m
  pub brought : IsBrought own m.moves.now.ports.items came past
  pub made_by_rows : made ≡ length (ids_of came)
  pub asked : asked_of came ≡ take m.taken (asked_in m)

-- it is under way still, up to some moment
pub record IsUnderSome (rules : Rules) (configs : List Config) (begin clock : ℕ)
    (m : MovingRun) (Took : List Event → List Entry → Type 0) : Type 0 where
  pub last : ℕ
  pub from : ℕ
  pub made : List Config
  pub past : List Filed
  pub came : List Came
  pub turn : ℕ
  pub under : IsUnder rules configs made past last from begin clock m Took
  pub outside : CameUnder (length configs) (length made) came past turn m

-- A run beside which more comes: its air is that of all stations that are made, absent until they
-- come, and of all that comes to it, in the order in which it was taken.
use Rattle.std.specs.Prelude.{◌≡◌, ℕ, ◌≤◌, ◌<◌, List, [], ◌∷◌, ◌++◌, map, length, All}
use Rattle.std.specs.Prelude.{Bool, true, false}
use Rattle.std.specs.List.{AllByRecursion}
use Rattle.its_model.specs.World.{Config, Event}
use Rattle.sim_air_model.specs.Timetable.{moment_in}
use Rattle.sim_air_model.specs.Timetable.{Rules, Filed, Pending, AirModel, at, of_file}
use Rattle.sim_air_model.specs.Timetable.{schedule_all}
use Rattle.sim_air_model.specs.Timetable.{air_opening, air_run}
use Rattle.sim_air_model.specs.Timetable.Pending.{Does, Departs}

-- so many stations that are absent
abbrev pub absent : List Config → List Bool
absent [] = []
absent (c ∷ made) = false ∷ absent made

-- the rules, with these stations made later and this last moment
abbrev pub rules_beside : List Config → ℕ → Rules → Rules
rules_beside made until r =
    record {
      range = r.range;
      delay = r.delay;
      loss = r.loss;
      beacons = r.beacons;
      seed = r.seed;
      until = until;
      every = r.every;
      present = r.present ++ absent made;
    }

-- an air with what comes to it later: stations that are made, and what a file has
abbrev pub beside : List Config → List Filed → AirModel → AirModel
beside made file a =
    record {
      done = a.done;
      timetable = record {
        waiting = schedule_all a.timetable.waiting (map of_file file);
        draws = a.timetable.draws;
      };
      present = a.present ++ absent made;
    }

-- the moments never fall
abbrev pub Rises : List Filed → Type 0
Rises [] = Unit {0}
Rises (f ∷ file) = AllByRecursion (λ g. moment_in f ≤ moment_in g) file × Rises file

-- none of it is before this moment
abbrev pub IsFrom : ℕ → List Filed → Type 0
IsFrom from file = AllByRecursion (λ f. from ≤ moment_in f) file

-- none of it is after this moment
abbrev pub IsUpTo : ℕ → List Filed → Type 0
IsUpTo last file = AllByRecursion (λ f. moment_in f ≤ last) file

-- what waits, each no later than all behind it
abbrev pub InOrder : List Pending → Type 0
InOrder [] = Unit {0}
InOrder (p ∷ waiting) = AllByRecursion (λ q. at p ≤ at q) waiting × InOrder waiting

-- the station of what waits
abbrev pub station_of_pending : Pending → ℕ
station_of_pending (Does p) = p.event.station
station_of_pending (Departs station moment) = station

-- it is the air's own, of a station that is there
abbrev pub IsOwnOf : List Config → Pending → Type 0
IsOwnOf configs (Does p) = (p.own ≡ true) × (p.event.station < length configs)
IsOwnOf configs (Departs station moment) = ⊥

-- these stations may be made yet: any, or none
abbrev pub MayBeMade : Bool → List Config → Type 0
MayBeMade true made = Unit {0}
MayBeMade false made = made ≡ []

-- of so many stations this one is there, if stations may be made yet
abbrev pub IsThere : Bool → ℕ → ℕ → Type 0
IsThere true count station = station < count
IsThere false count station = Unit {0}

-- so is that of each of these events
abbrev pub AreThere : Bool → List Config → List Event → Type 0
AreThere true configs events = All (λ e. e.station < length configs) events
AreThere false configs events = Unit {0}

-- of each station it is known whether it is present, if stations may be made yet
abbrev pub AreKnown : Bool → List Config → List Bool → Type 0
AreKnown true configs present = length present ≡ length configs
AreKnown false configs present = Unit {0}

-- So many steps lead to this air, by which all that came is taken: whatever comes from then on,
-- and whichever stations are made, if any may be, a run of all that comes goes this far in the same
-- way.
pub record IsReached (grows : Bool) (r : Rules) (configs : List Config) (steps : ℕ)
    (past : List Filed) (from end : ℕ) (a : AirModel) : Type 0 where
  pub leads : (made : List Config) (file : List Filed) (until : ℕ) → MayBeMade grows made
      → end ≤ until → Rises file → IsFrom from file
      → air_run (rules_beside made until r) (configs ++ made) steps
      (air_opening (rules_beside made until r) (configs ++ made) (past ++ file))
      ≡ beside made file a
  pub in_order : InOrder a.timetable.waiting
  pub own : AllByRecursion (IsOwnOf configs) a.timetable.waiting
  pub done_there : AreThere grows configs a.done
  pub present : AreKnown grows configs a.present
  pub past_rises : Rises past
  pub past_before : IsUpTo from past

-- What a station knows of another one, as a function of the packets that it accepted (EN 302
-- 636-4-1 clauses 8 and 10, in this profile). All lists here have the newest first.
use Rattle.std.specs.Prelude.{ℕ, ◌+◌, List, [], ◌∷◌, filter, take, Bool, true, false, not, ◌||◌}
use Rattle.std.specs.Prelude.{Option, Some, None, is_none, if◌then◌else◌, ◌==◌, nat_lt, ◌≡◌, ◌<◌}
use Rattle.std.specs.Prelude.{◌≤◌, ◌++◌, map}
use Rattle.std.specs.Option.{option_map}
use Rattle.std.specs.List.{list_any}
use Rattle.its_gnvalue.specs.Values.{PositionVector, is_newer}

-- how long a source counts after a packet of it, in milliseconds (profile)
abbrev pub entry_life : ℕ
entry_life = 20000

-- an accepted packet: when it came, its source's vector, and its number if it is a geobroadcast or
-- a geoanycast
pub record Reception : Type 0 where
  pub moment : ℕ
  pub vector : PositionVector
  pub number : Option ℕ

-- the packet is of this source
abbrev pub is_from : ℕ → Reception → Bool
is_from source r = r.vector.address == source

-- the packets of one source
abbrev pub of_source : ℕ → List Reception → List Reception
of_source source history = filter (is_from source) history

-- The newest of these, back to the first gap: each came less than an entry's life before the one
-- that followed it, and the newest less than that before the moment.
abbrev pub unbroken : ℕ → List Reception → List Reception
unbroken moment [] = []
unbroken moment (r ∷ older) =
    if nat_lt moment (r.moment + entry_life) then r ∷ unbroken r.moment older else []

-- the packets of a source that count at a moment (profile)
abbrev pub session : ℕ → ℕ → List Reception → List Reception
session source moment history = unbroken moment (of_source source history)

-- there is none of these
abbrev pub is_empty : List Reception → Bool
is_empty [] = true
is_empty (r ∷ older) = false

-- A source is live while it has a packet that counts.
abbrev pub is_live : ℕ → ℕ → List Reception → Bool
is_live source moment history = not (is_empty (session source moment history))

-- the new vector where there is no other or its timestamp is newer, else the old one (profile)
abbrev pub fresher : PositionVector → Option PositionVector → PositionVector
fresher new None = new
fresher new (Some old) = if is_newer new.timestamp old.timestamp then new else old

-- the vector that stands after these packets: each one's in turn, from the first on, where it is
-- fresher
abbrev pub vector_after : List Reception → Option PositionVector
vector_after [] = None
vector_after (r ∷ older) = Some (fresher r.vector (vector_after older))

-- where a live source is, by its own words
abbrev pub current_vector : ℕ → ℕ → List Reception → Option PositionVector
current_vector source moment history = vector_after (session source moment history)

-- one of these is a beacon or a single-hop broadcast: it has no number
abbrev pub came_directly : List Reception → Bool
came_directly receptions = list_any (λ r. is_none r.number) receptions

-- A live source is a neighbour once such a packet of it came.
abbrev pub is_neighbour : ℕ → ℕ → List Reception → Bool
is_neighbour source moment history = came_directly (session source moment history)

-- a number before others, if there is one
abbrev pub with_number : Option ℕ → List ℕ → List ℕ
with_number None numbers = numbers
with_number (Some n) numbers = n ∷ numbers

-- the numbers of those among these that have one
abbrev pub numbers_of : List Reception → List ℕ
numbers_of [] = []
numbers_of (r ∷ older) = with_number r.number (numbers_of older)

-- the last numbers of a live source, as many as are remembered
abbrev pub recent_numbers : ℕ → ℕ → ℕ → List Reception → List ℕ
recent_numbers remember source moment history =
    take remember (numbers_of (session source moment history))

-- the number is one of these
abbrev pub is_among : ℕ → List ℕ → Bool
is_among n numbers = list_any (λ m. m == n) numbers

-- a number of a live source that is one of its last
abbrev pub is_remembered : ℕ → ℕ → ℕ → ℕ → List Reception → Bool
is_remembered remember source number moment history =
    is_among number (recent_numbers remember source moment history)

-- all that is known of a live source: its vector, whether it is a neighbour, and its recent numbers
pub record Known : Type 0 where
  pub vector : PositionVector
  pub neighbour : Bool
  pub numbers : List ℕ

-- the same after these packets: nothing after none
abbrev pub known_after : ℕ → List Reception → Option Known
known_after remember receptions =
    option_map
    (λ vector. record {
      vector = vector;
      neighbour = came_directly receptions;
      numbers = take remember (numbers_of receptions);
    })
    (vector_after receptions)

-- the same of a source at a moment: nothing where it isn't live
unfoldable pub known : ℕ → ℕ → ℕ → List Reception → Option Known
known remember source moment history = known_after remember (session source moment history)

-- what is known after one more packet, by what was known before it
abbrev pub renewed : ℕ → Option Known → Reception → Known
renewed remember None r = record {
  vector = r.vector;
  neighbour = is_none r.number;
  numbers = take remember (with_number r.number []);
}
renewed remember (Some k) r =
    record {
      vector = fresher r.vector (Some k.vector);
      neighbour = is_none r.number || k.neighbour;
      numbers = take remember (with_number r.number k.numbers);
    }

-- ---- words of the law on sessions

-- a moment, and before it those of a run of packets: the newest first
abbrev pub moments_to : ℕ → List Reception → List ℕ
moments_to moment run = moment ∷ map (λ r. r.moment) run

-- Of these moments, the newest first, each two neighbours are less than an entry's life apart. This
-- is one-sided: where a moment fell, the two are near however far apart.
abbrev pub AreNear : List ℕ → Type 0
AreNear moments =
    (newer older : List ℕ) (later earlier : ℕ) → moments ≡ newer ++ later ∷ earlier ∷ older
    → later < earlier + entry_life

-- when the oldest of a run of packets up to a moment came; where the run is empty, the moment
abbrev pub oldest_moment : ℕ → List Reception → ℕ
oldest_moment moment [] = moment
oldest_moment moment (r ∷ older) = oldest_moment r.moment older

-- Of these packets the run is the longest tail (a front here, as the newest stand first) in which
-- each two neighbouring moments, and the last one and this moment, are near: the packet before it
-- came an entry's life or more before what followed.
pub record IsLongestRun (receptions : List Reception) (moment : ℕ)
    (run : List Reception) : Type 0 where
  pub rest : List Reception
  pub front : receptions ≡ run ++ rest
  pub near : AreNear (moments_to moment run)
  pub longest : (r : Reception) (older : List Reception) → rest ≡ r ∷ older
      → r.moment + entry_life ≤ oldest_moment moment run

-- The moments of these packets, and this one after them, never fell.
abbrev pub NeverFell : ℕ → List Reception → Type 0
NeverFell moment [] = Unit {0}
NeverFell moment (r ∷ older) = (r.moment ≤ moment) × NeverFell r.moment older

-- The columns of a file of moves.
use Rattle.std.specs.Prelude.{◌≡◌, ◌≢◌, ℕ, ℤ, pos, negsuc, List, codes, Option, Some, None, length}
use Rattle.std.specs.Prelude.{slice_get}
use Rattle.std.specs.Prelude.{◌<◌, map, Vec}
use Rattle.std.specs.declared.alloc.Global.{Global}
use Rattle.sim_moves.specs.declared.columns.Column.{Column}
use Rattle.sim_moves.specs.declared.columns.Column.TheVariants as columns
use Rattle.sim_moves.specs.declared.columns.Columns.{Columns}
use Rattle.sim_moves.specs.declared.columns.Occurrence.{Occurrence}
use Rattle.sim_moves.specs.declared.columns.Occurrence.TheVariants as founds
use Rattle.sim_moves.specs.declared.columns.Notation.{Notation}
use Rattle.sim_moves.specs.declared.columns.Notation.TheVariants as notations

-- the name of a column
abbrev pub word_of : Notation → Column → List ℕ
word_of notations.Own columns.At = codes "at"
word_of notations.Own columns.Id = codes "id"
word_of notations.Own columns.Lat = codes "lat"
word_of notations.Own columns.Lon = codes "lon"
word_of notations.Own columns.Speed = codes "speed"
word_of notations.Own columns.Heading = codes "heading"
word_of notations.Sumo columns.At = codes "timestep_time"
word_of notations.Sumo columns.Id = codes "vehicle_id"
word_of notations.Sumo columns.Lat = codes "vehicle_y"
word_of notations.Sumo columns.Lon = codes "vehicle_x"
word_of notations.Sumo columns.Speed = codes "vehicle_speed"
word_of notations.Sumo columns.Heading = codes "vehicle_angle"

-- how many decimal places of SUMO's unit the own unit has: s and ms, degrees and 10^-7 of them, m/s
-- and 0.01 m/s, degrees and 0.1 of them
abbrev pub places_of : Column → ℕ
places_of columns.At = 3
places_of columns.Id = 0
places_of columns.Lat = 7
places_of columns.Lon = 7
places_of columns.Speed = 2
places_of columns.Heading = 1

-- the least number that a column takes
abbrev pub least_of : Column → ℤ
least_of columns.Lat = negsuc 899999999
least_of columns.Lon = negsuc 1799999999
least_of columns.Speed = negsuc 16383
least_of column = pos 0

-- the greatest number that a column takes
abbrev pub most_of : Column → ℤ
most_of columns.At = pos 4611686018427387904
most_of columns.Id = pos 0
most_of columns.Lat = pos 900000000
most_of columns.Lon = pos 1800000000
most_of columns.Speed = pos 16383
most_of columns.Heading = pos 3600

-- what fields say, as lists
abbrev pub texts : List (Vec ℕ Global) → List (List ℕ)
texts fields = map (λ (field : Vec ℕ Global). field.items) fields

-- a name stands nowhere among the first names
abbrev pub HasNoneBelow : ℕ → List (List ℕ) → List ℕ → Type 0
HasNoneBelow count names word =
    (place : ℕ) → place < count → slice_get names place ≢ Some word

-- a name stands at this place alone among the first names
pub record HasOnceBelow (count : ℕ) (names : List (List ℕ)) (word : List ℕ) (place : ℕ)
    : Type 0 where
  pub within : place < count
  pub stands : slice_get names place ≡ Some word
  pub alone : (other : ℕ) → other < count → slice_get names other ≡ Some word → other ≡ place

-- a name stands twice among the first names
pub record HasTwiceBelow (count : ℕ) (names : List (List ℕ)) (word : List ℕ) : Type 0 where
  pub first : ℕ
  pub second : ℕ
  pub order : first < second
  pub within : second < count
  pub stands : slice_get names first ≡ Some word
  pub again : slice_get names second ≡ Some word

-- a name stands nowhere
abbrev pub HasNone : List (List ℕ) → List ℕ → Type 0
HasNone names word = HasNoneBelow (length names) names word

-- a name stands at this place alone
abbrev pub HasOnce : List (List ℕ) → List ℕ → ℕ → Type 0
HasOnce names word place = HasOnceBelow (length names) names word place

-- a name stands at this place alone, or nowhere
abbrev pub MayStand : List (List ℕ) → List ℕ → Option ℕ → Type 0
MayStand names word (Some place) = HasOnce names word place
MayStand names word None = HasNone names word

-- the names of a notation stand nowhere
pub record HasNoName (names : List (List ℕ)) (notation : Notation) : Type 0 where
  pub at : HasNone names (word_of notation columns.At)
  pub id : HasNone names (word_of notation columns.Id)
  pub lat : HasNone names (word_of notation columns.Lat)
  pub lon : HasNone names (word_of notation columns.Lon)
  pub speed : HasNone names (word_of notation columns.Speed)
  pub heading : HasNone names (word_of notation columns.Heading)

-- The names of a notation stand at the places of these columns alone: those of the moment, the id
-- and the place have to, those of the speed and the heading may.
pub record IsHeaderIn (notation : Notation) (names : List (List ℕ)) (c : Columns) : Type 0 where
  pub named : c.notation ≡ notation
  pub count : c.count ≡ length names
  pub at : HasOnce names (word_of notation columns.At) c.at
  pub id : HasOnce names (word_of notation columns.Id) c.id
  pub lat : HasOnce names (word_of notation columns.Lat) c.lat
  pub lon : HasOnce names (word_of notation columns.Lon) c.lon
  pub speed : MayStand names (word_of notation columns.Speed) c.speed
  pub heading : MayStand names (word_of notation columns.Heading) c.heading

-- the other notation
abbrev pub other_of : Notation → Notation
other_of notations.Own = notations.Sumo
other_of notations.Sumo = notations.Own

-- the names are those of one notation, at the places of these columns, and none of the other's
abbrev pub IsHeader : List (List ℕ) → Columns → Type 0
IsHeader names c = IsHeaderIn c.notation names c × HasNoName names (other_of c.notation)

-- ---- words of private functions

-- how often a name stands among the first names
abbrev pub IsFoundBelow : ℕ → List (List ℕ) → List ℕ → Occurrence → Type 0
IsFoundBelow count names word founds.Nowhere = HasNoneBelow count names word
IsFoundBelow count names word (founds.Once place) = HasOnceBelow count names word place
IsFoundBelow count names word founds.Twice = HasTwiceBelow count names word

-- how often a name stands
abbrev pub IsFound : List (List ℕ) → List ℕ → Occurrence → Type 0
IsFound names word found = IsFoundBelow (length names) names word found

-- What a row says.
use Rattle.std.specs.Prelude.{◌≡◌, ◌≢◌, ◌≤◌, ◌<◌, ◌^◌, ◌%◌, ℕ, ℤ, pos, ◌≤ℤ◌, List, [], ◌+◌}
use Rattle.std.specs.Prelude.{Option, Some, None, length, slice_get, unwrap_or}
use Rattle.its_words.specs.Ids.{IsId}
use Rattle.sim_moves.specs.Columns.{least_of, most_of, places_of}
use Rattle.sim_moves.specs.Decimals.{WritesWhole, WritesDecimal}
use Rattle.sim_moves.specs.declared.columns.Column.{Column}
use Rattle.sim_moves.specs.declared.columns.Column.TheVariants as columns
use Rattle.sim_moves.specs.declared.columns.Columns.{Columns}
use Rattle.sim_moves.specs.declared.columns.Notation.{Notation}
use Rattle.sim_moves.specs.declared.columns.Notation.TheVariants as notations
use Rattle.sim_moves.specs.declared.fault.Word.{Word}
use Rattle.sim_moves.specs.declared.fault.Word.TheVariants as words
use Rattle.sim_moves.specs.declared.row.RowNumbers.{RowNumbers}
use Rattle.sim_moves.specs.declared.row.Row.{Row}
use Rattle.sim_moves.specs.declared.rows.LineContent.{LineContent}
use Rattle.sim_moves.specs.declared.rows.LineContent.TheVariants as reaches
use Rattle.its_gnvalue.specs.Values.{IsSpeed}
use Rattle.std.specs.Prelude.{string_bytes}

-- the field of a place, and nothing where there is none
abbrev pub field_at : List (List ℕ) → ℕ → List ℕ
field_at fields place = unwrap_or (slice_get fields place) []

-- octets write this number of a column: a whole one of the own unit, or a decimal of SUMO's
abbrev pub Writes : Notation → Column → List ℕ → ℤ → Type 0
Writes notations.Own column octets number = WritesWhole octets number
Writes notations.Sumo column octets number = WritesDecimal (places_of column) octets number

-- they do, and it is in the column's range
pub record IsNumber (notation : Notation) (column : Column) (octets : List ℕ) (number : ℤ)
    : Type 0 where
  pub writes : Writes notation column octets number
  pub least : least_of column ≤ℤ number
  pub most : number ≤ℤ most_of column

-- the number of a column that is absent is 0
abbrev pub MayBeNumber : Notation → Column → Option (List ℕ) → ℤ → Type 0
MayBeNumber notation column (Some octets) number = IsNumber notation column octets number
MayBeNumber notation column None number = number ≡ pos 0

-- octets write a moment that isn't below another
pub record IsMoment (notation : Notation) (before : ℕ) (octets : List ℕ) (at : ℕ) : Type 0 where
  pub number : IsNumber notation columns.At octets (pos at)
  pub order : before ≤ at

-- the field of a column that may be absent
abbrev pub may_field : List (List ℕ) → Option ℕ → Option (List ℕ)
may_field fields (Some place) = Some (field_at fields place)
may_field fields None = None

-- the fields are as many as the columns, and say these numbers, the moment not below another
pub record AreNumbers (c : Columns) (fields : List (List ℕ)) (before : ℕ) (n : RowNumbers)
    : Type 0 where
  pub count : length fields ≡ c.count
  pub at : IsMoment c.notation before (field_at fields c.at) n.at
  pub id : IsId (field_at fields c.id)
  pub lat : IsNumber c.notation columns.Lat (field_at fields c.lat) n.place.latitude
  pub lon : IsNumber c.notation columns.Lon (field_at fields c.lon) n.place.longitude
  pub speed : MayBeNumber c.notation columns.Speed (may_field fields c.speed) n.speed
  pub turn : ℕ
  pub heading : MayBeNumber c.notation columns.Heading (may_field fields c.heading) (pos turn)
  pub turned : n.heading ≡ turn % 3600

-- The word is the first that refuses the fields.
abbrev pub HasMoment : Columns → List (List ℕ) → ℕ → Type 0
HasMoment c fields before =
    (at : ℕ) × IsMoment c.notation before (field_at fields c.at) at

abbrev pub HasNumber : Columns → Column → List (List ℕ) → ℕ → Type 0
HasNumber c column fields place =
    (number : ℤ) × IsNumber c.notation column (field_at fields place) number

abbrev pub MayHaveNumber : Columns → Column → List (List ℕ) → Option ℕ → Type 0
MayHaveNumber c column fields place =
    (number : ℤ) × MayBeNumber c.notation column (may_field fields place) number

abbrev pub IsFirstWord : Columns → List (List ℕ) → ℕ → Word → Type 0
IsFirstWord c fields before words.Length = ⊥
IsFirstWord c fields before (words.Header why) = ⊥
IsFirstWord c fields before words.TooManyStations = ⊥
IsFirstWord c fields before words.Fields = length fields ≢ c.count
IsFirstWord c fields before words.At =
    (length fields ≡ c.count) × ¬ HasMoment c fields before
IsFirstWord c fields before words.Id = (length fields ≡ c.count) × HasMoment c fields before
    × ¬ IsId (field_at fields c.id)
IsFirstWord c fields before words.Lat = (length fields ≡ c.count) × HasMoment c fields before
    × IsId (field_at fields c.id) × ¬ HasNumber c columns.Lat fields c.lat
IsFirstWord c fields before words.Lon = (length fields ≡ c.count) × HasMoment c fields before
    × IsId (field_at fields c.id) × HasNumber c columns.Lat fields c.lat
    × ¬ HasNumber c columns.Lon fields c.lon
IsFirstWord c fields before words.Speed = (length fields ≡ c.count) × HasMoment c fields before
    × IsId (field_at fields c.id) × HasNumber c columns.Lat fields c.lat
    × HasNumber c columns.Lon fields c.lon × ¬ MayHaveNumber c columns.Speed fields c.speed
IsFirstWord c fields before words.Heading = (length fields ≡ c.count) × HasMoment c fields before
    × IsId (field_at fields c.id) × HasNumber c columns.Lat fields c.lat
    × HasNumber c columns.Lon fields c.lon × MayHaveNumber c columns.Speed fields c.speed
    × ¬ MayHaveNumber c columns.Heading fields c.heading

-- what each row has: a moment from the begin on, an id, a speed and a heading in their ranges
pub record IsRow (row : Row) : Type 0 where
  pub moment : row.moment ≤ 2 ^ 62
  pub id : IsId (string_bytes row.id)
  pub speed : IsSpeed row.speed
  pub heading : row.heading < 3600

-- Of a file's clock, a row comes when the clock shows no less than before and no more than after; a
-- row's moment is that clock less the begin.
pub record IsRowBetween (begin before after : ℕ) (row : Row) : Type 0 where
  pub no_earlier : before ≤ row.moment + begin
  pub no_later : row.moment + begin ≤ after

-- ---- words of private functions

-- the word is the first that refuses a place
abbrev pub IsWordOfPlace : Notation → List ℕ → List ℕ → Word → Type 0
IsWordOfPlace notation lat lon words.Lat =
    (number : ℤ) → ¬ IsNumber notation columns.Lat lat number
IsWordOfPlace notation lat lon words.Lon =
    ((number : ℤ) × IsNumber notation columns.Lat lat number)
    × ((number : ℤ) → ¬ IsNumber notation columns.Lon lon number)
IsWordOfPlace notation lat lon word = ⊥

-- what a line gives is a row, if it gives one
abbrev pub ReachesRow : LineContent → Type 0
ReachesRow (reaches.Row row) = IsRow row
ReachesRow reached = Unit {0}

-- what a line gives is a row between, if it gives one
abbrev pub ReachesBetween : ℕ → ℕ → ℕ → LineContent → Type 0
ReachesBetween begin before after (reaches.Row row) = IsRowBetween begin before after row
ReachesBetween begin before after reached = Unit {0}

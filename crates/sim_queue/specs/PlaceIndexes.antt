-- Where stations stand, in the order of rows of latitudes, and in a row of longitudes.
use Rattle.std.specs.Prelude.{◌≡◌, ℕ, ◌+◌, ◌*◌, ◌/◌, ◌≤◌, ◌==◌, List, Bool, true, not, ◌&&◌, cond}
use Rattle.std.specs.Prelude.{pos, ◌+ℤ◌, unsigned_abs, nat_le, count_by, slice_get}
use Rattle.std.specs.Prelude.{Option, Some, None}
use Rattle.its_gnvalue.specs.Values.{Position}
use Rattle.its_station.specs.State.{StationState}
use Rattle.sim_air_model.specs.Range.{is_within}
use Rattle.sim_queue.specs.declared.places.place_index.Standing.{Standing}

-- how far north of the south pole a place is, in tenths of a microdegree
abbrev pub northing : Position → ℕ
northing place = unsigned_abs (place.latitude +ℤ pos 900000000)

-- how far east of the antimeridian a place is, in tenths of a microdegree
abbrev pub easting : Position → ℕ
easting place = unsigned_abs (place.longitude +ℤ pos 1800000000)

-- how many rows of latitudes are south of a place's: one is as high as a range in centimetres, and
-- one more, in tenths of a microdegree
abbrev pub row_of : ℕ → Position → ℕ
row_of range place = northing place / (100 * range + 1)

-- where a place stands in the order of rows, and in its row of longitudes
unfoldable pub row_key : ℕ → Position → ℕ
row_key range place = row_of range place * 4294967296 + easting place

-- it stands in that order between these two
abbrev pub is_between : ℕ → ℕ → ℕ → Standing → Bool
is_between range low high s =
    nat_le low (row_key range s.place) && nat_le (row_key range s.place) high

-- its longitude isn't that of any place
abbrev pub is_off : Standing → Bool
is_off s = not (nat_le (unsigned_abs s.place.longitude) 1800000000)

-- every place in range has a longitude between these, as far east of the antimeridian
abbrev pub Covers : ℕ → Position → ℕ → ℕ → Type 0
Covers range place west east = (p : Position) → unsigned_abs p.longitude ≤ 1800000000
    → is_within range place p ≡ true → (west ≤ easting p) × (easting p ≤ east)

-- from that place a station of this number hears what another gives
abbrev pub hears_from : ℕ → ℕ → Position → ℕ → Position → Bool
hears_from range giver place number p = not (number == giver) && is_within range place p

-- how often a station of this number stands at a place of this kind
abbrev pub count_at : (Position → Bool) → ℕ → List Standing → ℕ
count_at kind number standings = count_by (λ s. s.number == number && kind s.place) standings

-- how often this station, if there is one, stands at a place of this kind: once or never
abbrev pub times_at : (Position → Bool) → Option StationState → ℕ
times_at kind None = 0
times_at kind (Some st) = cond (kind st.vector.place) 1 0

-- each of these stations is in the list once, with its number and its place, and no other is
abbrev pub AreStandingsOf : List StationState → List Standing → Type 0
AreStandingsOf stations standings = (kind : Position → Bool) (number : ℕ)
    → count_at kind number standings ≡ times_at kind (slice_get stations number)

-- Which stations hear what a station gives.
use Rattle.std.specs.Prelude.{ℕ, ◌+◌, ◌==◌, List, [], ◌∷◌, Bool, not, ◌&&◌, cond}
use Rattle.its_gnvalue.specs.Values.{Position}
use Rattle.sim_air_model.specs.Range.{is_within}
use Rattle.its_station.specs.State.{StationState}
use Rattle.sim_queue.specs.declared.places.place_index.Standing.{Standing}

-- the station of this number, which stands so, hears what another gives at this place
abbrev pub hears : ℕ → ℕ → Position → ℕ → StationState → Bool
hears range giver place number st =
    not (number == giver) && is_within range place st.vector.place

-- the numbers of those stations that pass, in order; the first is of this number
abbrev pub numbers_from : (ℕ → StationState → Bool) → ℕ → List StationState → List ℕ
numbers_from passes n [] = []
numbers_from passes n (st ∷ stations) =
    cond (passes n st) (n ∷ numbers_from passes (n + 1) stations)
    (numbers_from passes (n + 1) stations)

-- the stations that hear what this one gives at this place, in order
abbrev pub hearers : ℕ → List StationState → ℕ → Position → List ℕ
hearers range stations giver place = numbers_from (hears range giver place) 0 stations

-- the station that stands there hears what another gives at this place
abbrev pub hears_there : ℕ → ℕ → Position → Standing → Bool
hears_there range giver place s = not (s.number == giver) && is_within range place s.place

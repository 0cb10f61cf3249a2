-- How far a frame is heard.
use Rattle.std.specs.Prelude.{ℕ, ◌*◌, Bool, nat_le}
use Rattle.its_gnvalue.specs.Values.{Position}
use Rattle.its_geometry.specs.Offsets.{squared_distance}

-- this place is at most so many metres from the giver's: distances are in centimetres
abbrev pub is_within : ℕ → Position → Position → Bool
is_within range giver place = nat_le (squared_distance giver place) (100 * range * (100 * range))

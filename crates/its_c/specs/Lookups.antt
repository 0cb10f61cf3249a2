-- What C is told of the stations that a station heard.
use Rattle.std.specs.Prelude.{◌≡◌, ◌≤◌, ◌^◌, ℕ, ℤ, pos, Bool, if◌then◌else◌, Option, Some, None}
use Rattle.std.specs.Option.{option_map}
use Rattle.its_gnvalue.specs.Values.{PositionVector}
use Rattle.its_model.specs.History.{known}
use Rattle.its_model.specs.Station.{StationModel}
use Rattle.its_model.specs.Stations.{next_neighbour, stations_at}
use Rattle.its_c.specs.declared.layout.Vector.{Vector}

-- a moment at which a look-up is answered: not before the station's last call, and in range
abbrev pub IsMoment : StationModel → ℕ → Type 0
IsMoment m now = (m.clock ≤ now) × (now ≤ 2 ^ 62)

-- the vector of the live neighbour of least address above this one
abbrev pub neighbour_above : StationModel → ℕ → ℕ → Option PositionVector
neighbour_above m now address =
    option_map (λ k. k.vector)
    (next_neighbour (Some address) (stations_at m.remember now m.history))

-- the vector of the live source of this address
abbrev pub source_at : StationModel → ℕ → ℕ → Option PositionVector
source_at m now address = option_map (λ k. k.vector) (known m.remember address now m.history)

-- 1 for true
abbrev pub as_number : Bool → ℕ
as_number b = if b then 1 else 0

-- a position vector in C's struct
abbrev pub shown_vector : PositionVector → Vector
shown_vector v =
    record {
      address = v.address;
      timestamp = v.timestamp;
      latitude = v.place.latitude;
      longitude = v.place.longitude;
      speed = v.speed;
      heading = v.heading;
      accurate = as_number v.accurate;
    }

-- the struct of no station
abbrev pub no_vector : Vector
no_vector =
    record {
      address = 0;
      timestamp = 0;
      latitude = pos 0;
      longitude = pos 0;
      speed = pos 0;
      heading = 0;
      accurate = 0;
    }

-- 1 and the vector that is found, or 0 and the struct of no station
abbrev pub TellsFound : Option PositionVector → ℤ → Vector → Type 0
TellsFound None status told = (status ≡ pos 0) × (told ≡ no_vector)
TellsFound (Some v) status told = (status ≡ pos 1) × (told ≡ shown_vector v)

-- A station that is added late.
use Rattle.std.specs.Prelude.{[], ◌∷◌, ◌++◌}
use Rattle.its_model.specs.World.{Config, WorldModel, station_of}

-- with a station of this config behind all others, to which nothing happened yet
abbrev pub with_station : WorldModel → Config → WorldModel
with_station w c =
    record { stations = w.stations ++ station_of c ∷ []; air = w.air; log = w.log }

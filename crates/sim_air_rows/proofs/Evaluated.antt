-- The two runs, evaluated.
use Rattle.std.proofs.Common.{refl, arith}
use Rattle.rand_core.specs.Stream.{next_u64, fill_bytes}
use Rattle.rand_core.specs.Steps.{stream_of, word_bytes, u32_at}
use Rattle.its_geometry.specs.Area.{area_holds}
use Rattle.its_geometry.specs.Offsets.{squared_distance}
use Rattle.its_model.specs.History.{known}
use Rattle.its_model.specs.Stations.{stations_at}
use Rattle.its_model.specs.Decision.{decision}
use Rattle.its_model.specs.Station.{verdict, own_step, receive_step}
use Rattle.sim_air_rows.specs.FourStations.{four, file, rules_without, rules_with}
use Rattle.sim_air_rows.specs.FourStations.{lines_without, lines_with}
use Rattle.sim_air_rows.specs.Lines.{IsRun}

pub without_beacons : IsRun rules_without four file lines_without
unfolding own_step receive_step verdict known stations_at decision area_holds squared_distance
    next_u64 stream_of fill_bytes word_bytes u32_at
without_beacons = record { steps = 8; over = tt; done = refl; logged = refl }

-- what waits then is the next tick of the last station, past the last moment
pub with_beacons : IsRun rules_with four file lines_with
unfolding own_step receive_step verdict known stations_at decision area_holds squared_distance
    next_u64 stream_of fill_bytes word_bytes u32_at
with_beacons = record { steps = 18; over = omega arith; done = refl; logged = refl }

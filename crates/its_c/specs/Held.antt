-- What a handle holds before and after a call.
use Rattle.std.specs.Prelude.{◌≡◌, Option}
use Rattle.std.specs.Option.{option_map}
use Rattle.its_station.specs.State.{StationState}
use Rattle.its_station.specs.declared.counts.Counts.{Counts}
use Rattle.its_contention.specs.Buffer.{Buffer}
use Rattle.its_contention.specs.Waiting.{Waiting}
use Rattle.its_governor.specs.declared.governor.Governor.{Governor}
use Rattle.its_c.specs.declared.handle.Geostation.{Geostation}

-- the station of its unit, the frames that wait if it contends, the limits, and the counts
abbrev pub station_in : Geostation → Option StationState
station_in h = option_map (λ st. st.station) h.held.unit

abbrev pub waiting_in : Geostation → Option (Option (Buffer Waiting))
waiting_in h = option_map (λ st. st.contention) h.held.unit

abbrev pub limits_in : Geostation → Option Governor
limits_in h = option_map (λ st. st.governor) h.held.unit

abbrev pub counts_in : Geostation → Option Counts
counts_in h = option_map (λ st. st.counts) h.held.unit

-- the same station, the same frames that wait, and the same limits
pub record IsSame (old new : Geostation) : Type 0 where
  pub station : station_in new ≡ station_in old
  pub contention : waiting_in new ≡ waiting_in old
  pub limits : limits_in new ≡ limits_in old

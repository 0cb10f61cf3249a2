-- What a query is answered from.
use Rattle.std.specs.Prelude.{◌≡◌}
use Rattle.its_station.specs.State.{RepresentsStation}
use Rattle.its_unit.specs.Unit.{UnitState}
use Rattle.its_lines.specs.Knowing.{Counted}

-- the unit has this station, these frames wait in it, and this is counted of it
pub record RepresentsCounted (st : UnitState) (s : Counted) : Type 0 where
  pub station : RepresentsStation st.station s.station
  pub contention : st.contention ≡ s.contention
  pub counts : st.counts ≡ s.counts

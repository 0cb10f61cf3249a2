use Rattle.std.proofs.Common.{[], arith}
use Rattle.its_station.proofs.Stations.{Represents-later}
use Rattle.its_station.proofs.station.Station.begin_anew.Goals as goal

pub invariant_of-self : goal.invariant_of-self
invariant_of-self g c = (
  c.requires,
  omega (arith, c.requires),
  record {
    history = [];
    table = Represents-later _ _ _ _ _ (omega arith) c.clear.ensures.represents;
  },
)

use Rattle.std.proofs.Common.{◌≤◌, sym, subst}
use Rattle.its_station.specs.State.{StationState}
use Rattle.its_station.proofs.Stations.{later}
use Rattle.its_station.proofs.station.Station.set_vector.Goals as goal

pub invariant_of-self : goal.invariant_of-self
invariant_of-self g c = (
  c.requires.to,
  c.self.invariant.1,
  later _ _ _ _
      (subst (λ (st : StationState). st.clock ≤ c.args.now) (sym c.self.view_is)
      c.requires.from) c.self.invariant.2,
)

use Rattle.its_station.proofs.Sizes.{short_frame}
use Rattle.its_station.proofs.station.Station.beacon_frame.Goals as goal

pub returns-clause-short_frame : goal.returns-clause-short_frame
returns-clause-short_frame g c = short_frame _ c.write_frame.result c.write_frame.ensures

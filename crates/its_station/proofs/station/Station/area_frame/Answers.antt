use Rattle.std.proofs.Common.{subst}
use Rattle.std.specs.Prelude.{IfOk}
use Rattle.its_model.specs.Packet.{Transmission}
use Rattle.its_linkframe.specs.Frames.{EncodesFrame}
use Rattle.its_station.proofs.Sizes.{short_frame}
use Rattle.its_station.proofs.station.Station.area_frame.Goals as goal

pub returns-clause-octets : goal.returns-clause-octets
returns-clause-octets g c = λ ports history rep.
    subst (λ (t : Transmission). IfOk c.write_frame.result (λ w. EncodesFrame t w.items))
    (λ i. record {
      pdu = c.in_ok-packet.ensures.pdu i;
      hops_left = c.in_ok-packet.ensures.hops i;
      link_source = c.mac.ensures i;
      link_target = c.area_target-target.ensures ports history rep i;
    }) c.write_frame.ensures

pub returns-clause-short_frame : goal.returns-clause-short_frame
returns-clause-short_frame g c = short_frame _ c.write_frame.result c.write_frame.ensures

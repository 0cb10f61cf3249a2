use Rattle.std.proofs.Common.{sym, ◌∙◌}
use Rattle.its_model.specs.Packet.{geobroadcast, geoanycast}
use Rattle.its_headers.proofs.Places.{shb_packet, area_packet}
use Rattle.its_headers.proofs.view.PacketView.to_packet.Goals as goal

pub returns-in_ok-payload-in-Shb-clause-packet : goal.returns-in_ok-payload-in-Shb-clause-packet
returns-in_ok-payload-in-Shb-clause-packet g c =
    shb_packet _ _ _ _ c.header-header.ensures (sym c.media.ensures
    ∙ c.in-Some.is) c.in_ok-payload-in-Shb.ensures

pub returns-in_ok-to_area_packet-in-Gbc-clause-packet :
    goal.returns-in_ok-to_area_packet-in-Gbc-clause-packet
returns-in_ok-to_area_packet-in-Gbc-clause-packet g c =
    area_packet geobroadcast _ _ (sym c.in-Gbc.is
    ∙ c.kind.ensures) c.in_ok-to_area_packet-in-Gbc.ensures

pub returns-in_ok-to_area_packet-in-Gac-clause-packet :
    goal.returns-in_ok-to_area_packet-in-Gac-clause-packet
returns-in_ok-to_area_packet-in-Gac-clause-packet g c =
    area_packet geoanycast _ _ (sym c.in-Gac.is
    ∙ c.kind.ensures) c.in_ok-to_area_packet-in-Gac.ensures

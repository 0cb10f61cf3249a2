use Rattle.std.proofs.Common.{◌∙◌}
use Rattle.its_headers.proofs.Places.{view_shb_payload, view_payload_fits, view_says_message}
use Rattle.its_headers.proofs.view.PacketView.payload.Goals as goal

pub returns-in-Shb-clause-octets : goal.returns-in-Shb-clause-octets
returns-in-Shb-clause-octets g c =
    c.behind.ensures
    ∙ view_shb_payload _ _ _ c.self.invariant c.self.view_is c.kind.ensures c.in-Shb.is

pub returns-in-Shb-clause-message : goal.returns-in-Shb-clause-message
returns-in-Shb-clause-message g c =
    view_says_message _ _ _ c.self.invariant c.self.view_is
    (c.behind.ensures
    ∙ view_shb_payload _ _ _ c.self.invariant c.self.view_is c.kind.ensures c.in-Shb.is)

pub returns-in-Shb-clause-size : goal.returns-in-Shb-clause-size
returns-in-Shb-clause-size g c =
    view_payload_fits _ _ _ c.self.invariant c.self.view_is
    (c.behind.ensures
    ∙ view_shb_payload _ _ _ c.self.invariant c.self.view_is c.kind.ensures c.in-Shb.is)

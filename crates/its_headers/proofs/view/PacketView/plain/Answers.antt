use Rattle.std.proofs.Common.{List, ℕ, sym, subst}
use Rattle.its_headers.specs.Encoding.{Encodes}
use Rattle.its_headers.specs.Inner.{inner_octets}
use Rattle.its_headers.specs.Seen.{Seen, basic_of}
use Rattle.its_headers.proofs.InnerPackets.{plain_is}
use Rattle.its_headers.proofs.view.PacketView.plain.Goals as goal

pub returns : goal.returns
returns g c =
    let s = c.args.self.now in
    let w = c.self.inside.octets in
    let enc = subst (λ (t : Seen). Encodes t.pdu t.left w) c.self.view_is c.self.invariant in
    subst (λ (p : List ℕ). Encodes s.pdu s.left (inner_octets (basic_of s) p))
    (sym c.behind.ensures) (plain_is s w enc)

use Rattle.std.proofs.Common.{List, ℕ, sym, subst}
use Rattle.its_headers.specs.Encoding.{Encodes}
use Rattle.its_headers.specs.Seen.{Seen}
use Rattle.its_headers.proofs.view.PacketView.octets.Goals as goal

pub returns : goal.returns
returns c =
    let s = c.args.self.now in
    subst (λ (w : List ℕ). Encodes s.pdu s.left w) (sym c.whole.ensures)
    (subst (λ (t : Seen). Encodes t.pdu t.left c.self.inside.octets) c.self.view_is
    c.self.invariant)

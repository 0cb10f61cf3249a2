use Rattle.std.proofs.Common.{List, ℕ, Some, ap, sym, ◌∙◌}
use Rattle.its_headers.proofs.Places.{view_media}
use Rattle.its_headers.proofs.view.PacketView.media.Goals as goal

pub returns-in-Shb : goal.returns-in-Shb
returns-in-Shb g c =
    ap (λ (m : List ℕ). Some m) c.media_in.ensures
    ∙ sym (view_media _ _ _ c.self.invariant c.self.view_is c.kind.ensures c.in-Shb.is)

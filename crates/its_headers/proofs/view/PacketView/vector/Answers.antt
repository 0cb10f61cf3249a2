use Rattle.std.proofs.Common.{◌∙◌}
use Rattle.its_headers.proofs.Places.{view_vector}
use Rattle.its_headers.proofs.view.PacketView.vector.Goals as goal

pub vector_in-requires-clause-here : goal.vector_in-requires-clause-here
vector_in-requires-clause-here g c =
    (view_vector _ _ _ c.self.invariant c.self.view_is c.vector_at.ensures.value).here

pub vector_in-requires-clause-fits : goal.vector_in-requires-clause-fits
vector_in-requires-clause-fits g c =
    (view_vector _ _ _ c.self.invariant c.self.view_is c.vector_at.ensures.value).fits

pub returns : goal.returns
returns g c =
    c.vector_in.ensures
    ∙ (view_vector _ _ _ c.self.invariant c.self.view_is c.vector_at.ensures.value).is

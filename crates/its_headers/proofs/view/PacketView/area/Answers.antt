use Rattle.std.proofs.Common.{Some, ap, sym, ◌∙◌}
use Rattle.its_geometry.specs.Area.{GeoArea}
use Rattle.its_headers.proofs.Places.{view_area, is_for_area}
use Rattle.its_headers.proofs.view.PacketView.area.Goals as goal

pub area_in-requires-clause-here : goal.area_in-requires-clause-here
area_in-requires-clause-here g c =
    (view_area _ _ _ c.self.invariant c.self.view_is
    (is_for_area _ _ c.kind.ensures c.in-Gbc.is) c.shape.ensures).here

pub area_in-requires-clause-fits : goal.area_in-requires-clause-fits
area_in-requires-clause-fits g c =
    (view_area _ _ _ c.self.invariant c.self.view_is
    (is_for_area _ _ c.kind.ensures c.in-Gbc.is) c.shape.ensures).fits

pub returns-in-Gbc : goal.returns-in-Gbc
returns-in-Gbc g c =
    ap (λ (x : GeoArea). Some x) c.area_in.ensures
    ∙ sym (view_area _ _ _ c.self.invariant c.self.view_is
    (is_for_area _ _ c.kind.ensures c.in-Gbc.is) c.shape.ensures).is

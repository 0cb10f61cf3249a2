use Rattle.std.proofs.Common.{rules, ◌∙◌}
use Rattle.its_headers.proofs.Judged.{area_of_fields}
use Rattle.its_headers.proofs.wire.area.area_in.Goals as goal

pub returns : goal.returns
returns g c =
    c.within-2.ensures
    ∙ area_of_fields c.args.shape c.args.octets.now _ _ _ _ _ _ _ _
    (search rules) (search rules) c.within.ensures c.cast_signed-lat.ensures
    c.cast_signed-lon.ensures
    c.u32_in.ensures c.u32_in-2.ensures c.u16_in-a.ensures c.u16_in-b.ensures c.u16_in-angle.ensures

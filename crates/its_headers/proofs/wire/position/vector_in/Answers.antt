use Rattle.std.proofs.Common.{rules, ◌∙◌}
use Rattle.its_headers.proofs.Judged.{vector_of_fields}
use Rattle.its_headers.proofs.wire.position.vector_in.Goals as goal

pub returns : goal.returns
returns g c =
    c.vector_of.ensures
    ∙ vector_of_fields c.args.octets.now c.args.at _ _ _ _ _ _ _ _ _
    (search rules) (search rules) c.within.ensures c.cast_signed-lat.ensures
    c.cast_signed-lon.ensures
    (c.within-address.ensures
    ∙ c.u64_in.ensures) c.u32_in-tst.ensures c.u32_in.ensures c.u32_in-2.ensures
    c.u16_in-motion.ensures c.u16_in-heading.ensures

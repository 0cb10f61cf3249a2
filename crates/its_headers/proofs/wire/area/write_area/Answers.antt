use Rattle.std.proofs.Common.{arith, rules}
use Rattle.its_headers.proofs.Puttings.{area_put}
use Rattle.its_headers.proofs.wire.area.write_area.Goals as goal

pub returns-clause-puts : goal.returns-clause-puts
returns-clause-puts c =
    area_put _ _ _ _ _ _ _ _ _ _ _ _ c.args.a c.write_u32.ensures c.write_u32-2.ensures
    c.write_u16.ensures c.write_u16-2.ensures c.write_u16-3.ensures (search rules) (search rules)
    (search rules) (search rules) (search rules) (omega arith)

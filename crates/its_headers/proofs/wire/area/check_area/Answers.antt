use Rattle.std.proofs.Common.{arith, rules}
use Rattle.its_formats.proofs.Found.{number_at-ok}
use Rattle.its_headers.proofs.Judged.{area_judged}
use Rattle.its_headers.proofs.wire.area.check_area.Goals as goal
use Rattle.its_headers.specs.Format.{packet_faults}

pub returns : goal.returns
returns g c =
    let last = number_at-ok packet_faults 2 _ _ _ c.in_ok-u16_at-3.ensures.reading in
    area_judged c.args.shape c.args.octets.now (omega (arith, last.0))
    (search rules) (search rules)
    (omega (arith, c.in_ok-u16_at.ensures.value)) (search rules) (search rules)

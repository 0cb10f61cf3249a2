use Rattle.std.proofs.Common.{arith, rules}
use Rattle.its_formats.proofs.Found.{number_at-ok}
use Rattle.its_headers.proofs.Judged.{vector_judged}
use Rattle.its_headers.proofs.wire.position.check_vector.Goals as goal
use Rattle.its_headers.specs.Format.{packet_faults}

pub returns : goal.returns
returns g c =
    let last = number_at-ok packet_faults 2 _ _ _ c.in_ok-pass_number-3.ensures in
    vector_judged c.args.at c.args.octets.now (omega (arith, last.0))
    (search rules) (search rules)
    (search rules)

use Rattle.std.proofs.Common.{◌+◌, arith}
use Rattle.std.proofs.lemmas.Nat.{mul-le}
use Rattle.its_duties.proofs.numbers.used_within.Goals as goal

pub overflow_mul-result : goal.overflow_mul-result
overflow_mul-result c =
    omega (
      arith,
      mul-le c.args.rate (c.args.seconds + 1) 4294967296 1099511627776
          (omega (arith, c.ranges.rate)) (omega (arith, c.requires)),
    )

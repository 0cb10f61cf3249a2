use Rattle.std.proofs.Common.{rules}
use Rattle.its_unit.proofs.Lengths.{released_short}
use Rattle.its_unit.proofs.contending.release_due.Goals as goal

pub returns-clause-short : goal.returns-clause-short
returns-clause-short c =
    released_short c.release_first.result c.args.address c.args.now c.args.contention.now
    c.args.governor.now (search rules)

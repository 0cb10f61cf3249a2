use Rattle.std.proofs.Common.{rules}
use Rattle.its_c.proofs.Opens.{still_open}
use Rattle.its_c.proofs.queries.geostation_next_due.Goals as goal

pub invariant_of-s : goal.invariant_of-s
invariant_of-s c =
    record {
      represents = still_open c.args.s.now.held.unit c.put.new.self.unit
          c.take-unit.result.value (search rules) (search rules) c.args.s.now.represents;
    }

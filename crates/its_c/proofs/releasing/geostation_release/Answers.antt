use Rattle.std.proofs.Common.{rules}
use Rattle.its_unit.specs.Releases.{release_step}
use Rattle.its_c.proofs.Opens.{releases_open, still_open}
use Rattle.its_c.proofs.releasing.geostation_release.Goals as goal

pub invariant_of-s : goal.invariant_of-s
invariant_of-s c =
    record {
      represents = still_open c.args.s.now.held.unit c.put.new.self.unit
          c.take-unit.result.value (search rules) (search rules) c.args.s.now.represents;
    }

pub invariant_of-s-2 : goal.invariant_of-s-2
invariant_of-s-2 c =
    record {
      represents = releases_open c.release-said.result c.deref_mut.result.now
          c.release-said.new.self (λ u. release_step u c.args.now) c.args.s.now.held.unit
          c.put-2.new.self.unit c.release-said.ensures.step c.release-said.ensures.unchanged
          (search rules) (search rules) c.args.s.now.represents;
    }

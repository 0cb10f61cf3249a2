use Rattle.std.proofs.Common.{rules}
use Rattle.its_model.specs.Calls.{Closed}
use Rattle.its_model.specs.Calls.OwnCall.{Close}
use Rattle.its_station.specs.Steps.{Says}
use Rattle.its_unit.specs.Unit.{unit_step, Own}
use Rattle.its_unit.specs.Steps.{SaysPassed}
use Rattle.its_c.proofs.Opens.{stays_open}
use Rattle.its_c.proofs.calls.geostation_close_port.Goals as goal

pub invariant_of-s : goal.invariant_of-s
invariant_of-s c =
    record {
      represents = stays_open (SaysPassed (Says Closed)) c.close-said.result c.deref_mut.result.now
          c.close-said.new.self
          (λ u. unit_step u c.args.now (Own (Close c.args.port))) c.args.s.now.held.unit
          c.put.new.self.unit c.close-said.ensures.step c.close-said.ensures.unchanged
          (search rules) (search rules) c.args.s.now.represents;
    }

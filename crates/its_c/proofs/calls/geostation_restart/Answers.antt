use Rattle.std.proofs.Common.{rules}
use Rattle.its_model.specs.Calls.{Restarted}
use Rattle.its_model.specs.Calls.OwnCall.{Restart}
use Rattle.its_station.specs.Steps.{Says}
use Rattle.its_unit.specs.Unit.{unit_step, Own}
use Rattle.its_unit.specs.Steps.{SaysPassed}
use Rattle.its_c.proofs.Opens.{stays_open}
use Rattle.its_c.proofs.calls.geostation_restart.Goals as goal

pub invariant_of-s : goal.invariant_of-s
invariant_of-s c =
    record {
      represents = stays_open (SaysPassed (Says Restarted)) c.restart-said.result c.deref_mut.result.now
          c.restart-said.new.self
          (λ u. unit_step u c.args.now (Own (Restart c.args.number))) c.args.s.now.held.unit
          c.put.new.self.unit c.restart-said.ensures.step c.restart-said.ensures.unchanged
          (search rules) (search rules) c.args.s.now.represents;
    }

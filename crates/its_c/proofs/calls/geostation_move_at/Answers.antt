use Rattle.std.proofs.Common.{rules}
use mir.Syntax.{w16}
use mir.Val.{to_z, of_z}
use Rattle.std.specs.Prelude.{not, nat_eq}
use Rattle.its_model.specs.Calls.{Moved}
use Rattle.its_station.specs.Steps.{Says}
use Rattle.its_unit.specs.Unit.{unit_step, MoveAt}
use Rattle.its_unit.specs.Steps.{SaysPassed}
use Rattle.its_c.proofs.Opens.{stays_open}
use Rattle.its_c.proofs.calls.geostation_move_at.Goals as goal

pub invariant_of-s : goal.invariant_of-s
invariant_of-s c =
    record {
      represents = stays_open (SaysPassed (Says Moved)) c.move_at-said.result c.deref_mut.result.now
          c.move_at-said.new.self
          (λ u. unit_step u c.args.now (MoveAt c.args.timestamp c.in-Ok.place (not (nat_eq c.args.accurate 0))
          (to_z w16 (of_z w16 c.args.speed)) c.args.heading)) c.args.s.now.held.unit
          c.put.new.self.unit c.move_at-said.ensures.step c.move_at-said.ensures.unchanged
          (search rules) (search rules) c.args.s.now.represents;
    }

pub returns-clause-step : goal.returns-clause-step
returns-clause-step c =
    record {
      refused = search rules;
      outside = search rules;
      taken = search rules;
      inside = λ fine. record { step = search rules; memory = search rules };
    }

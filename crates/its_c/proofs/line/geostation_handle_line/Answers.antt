use Rattle.std.proofs.Common.{rules, refl, ◌∙◌}
use Rattle.std.proofs.Math.Facts.{to_z-of_z}
use mir.Val.{SFits}
use mir.Syntax.{w32}
use Rattle.its_c.proofs.Opens.{held_unit, stays_within}
use Rattle.its_c.proofs.line.geostation_handle_line.Goals as goal

pub invariant_of-s : goal.invariant_of-s
invariant_of-s c =
    record {
      represents = stays_within c.answer_line_within-said.result c.deref_mut.result.now
          c.answer_line_within-said.new.unit c.args.s.now.held.unit c.put.new.self.unit
          c.answer_line_within-said.ensures.represents c.answer_line_within-said.ensures.unchanged
          (search rules) (search rules) c.args.s.now.represents;
    }

pub returns-clause-served : goal.returns-clause-served
returns-clause-served c = λ u holds zero.
    let old = c.deref_mut.result.now in
    let fits : SFits w32 c.status_told.result = search rules in
    let rep = held_unit c.args.s.now.held.unit old u (search rules) holds in
    record {
      before = old;
      was = search rules;
      after = c.answer_line_within-said.new.unit;
      held = search rules;
      said = c.in-Ok-said.done;
      answers = c.in-Ok-said.ensures.tells u rep;
      shows = record {
        command = c.command_of.ensures;
        outcome = c.outcome_of.ensures;
        status = to_z-of_z fits ∙ c.status_told.ensures;
        port = c.or_zero.ensures;
        number = search rules;
        payload = refl;
        text = c.write_answer.ensures;
        frame = c.write_frame.ensures;
        vector = search rules;
      };
    }

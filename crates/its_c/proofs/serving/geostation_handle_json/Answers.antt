use Rattle.std.proofs.Common.{rules}
use Rattle.its_c.proofs.Opens.{held_unit, stays_within}
use Rattle.its_c.proofs.serving.geostation_handle_json.Goals as goal

pub invariant_of-s : goal.invariant_of-s
invariant_of-s c =
    record {
      represents = stays_within c.answer_line-said.result c.deref_mut.result.now
          c.answer_line-said.new.unit c.args.s.now.held.unit c.put.new.self.unit
          c.answer_line-said.ensures.represents c.answer_line-said.ensures.unchanged
          (search rules) (search rules) c.args.s.now.represents;
    }

pub returns-clause-served : goal.returns-clause-served
returns-clause-served c = λ u holds zero.
    let old = c.deref_mut.result.now in
    let rep = held_unit c.args.s.now.held.unit old u (search rules) holds in (
      c.in-Ok-said.told,
      record {
        before = old;
        was = search rules;
        after = c.answer_line-said.new.unit;
        held = search rules;
        tells = c.in-Ok-said.ensures.tells u rep;
      },
      c.write_answer.ensures,
      c.write_frame.ensures,
    )

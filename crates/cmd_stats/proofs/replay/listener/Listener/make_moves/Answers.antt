use Rattle.std.proofs.Common.{◌∙◌, ap, drop, rules, sym}
use Rattle.std.proofs.Math.Facts.{to_z-of_z}
use mir.Val.{SFits}
use mir.Syntax.{w16}
use Rattle.its_station.specs.Steps.{Says}
use Rattle.its_model.specs.Calls.{Moved}
use Rattle.its_unit.specs.Steps.{SaysPassed}
use Rattle.cmd_stats.specs.Listening.{after_move, first_due}
use Rattle.cmd_stats.proofs.Moves.{all_after, moved_next, stands_by}
use Rattle.cmd_stats.proofs.replay.listener.Listener.make_moves.Goals as goal

pub loop-next-preserved : goal.loop-next-preserved
loop-next-preserved c = λ m rep.
    let (now, stands, same) = c.loop-next.invariant m rep in
    let next = c.in-Some.next in
    let fits : SFits w16 next.speed = search rules in (
      record { unit = after_move next now.unit; moves = drop 1 now.moves },
      record {
        unit = stands_by (SaysPassed (Says Moved)) c.move_to.result _ _
            (simp (to_z-of_z fits) at (c.move_to.ensures.step now.unit stands.unit))
            c.move_to.ensures.memory;
        moves = ap (drop 1) stands.moves ∙ sym (all_after c.loop-next.self.moves.now);
      },
      same ∙ moved_next c.args.moment now.moves next now.unit
          (ap (first_due c.args.moment) stands.moves ∙ sym c.first_due.ensures ∙ c.in-Some.is),
    )

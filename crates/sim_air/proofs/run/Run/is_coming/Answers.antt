use Rattle.std.proofs.Common.{◌≡◌, ◌∙◌, ap, sym, Bool, not, ◌&&◌, true, false, rules}
use Rattle.sim_air_model.specs.Timetable.{is_present, was_moved}
use Rattle.sim_air.proofs.run.Run.is_coming.Goals as goal

pub returns-then-is_move : goal.returns-then-is_move
returns-then-is_move c = λ after h.
    let present = c.args.self.now.present.items in
    let n = c.args.event.now.station in
    let moved : was_moved after.log ≡ true =
    h.moved ∙ sym (c.is_move.ensures h.answer h.tells) ∙ c.if-is_move.true in
    let there : is_present present n ≡ c.is_present.result = search rules in
    ap not (sym there) ∙ sym (ap (λ (b : Bool). b && not (is_present present n)) moved)

pub returns-else-is_move : goal.returns-else-is_move
returns-else-is_move c = λ after h.
    let present = c.args.self.now.present.items in
    let n = c.args.event.now.station in
    let moved : was_moved after.log ≡ false =
    h.moved ∙ sym (c.is_move.ensures h.answer h.tells) ∙ c.if-is_move.false in
    c.if-is_move.false ∙ sym (ap (λ (b : Bool). b && not (is_present present n)) moved)

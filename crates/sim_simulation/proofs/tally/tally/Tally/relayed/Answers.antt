use Rattle.std.proofs.Common.{◌≡◌, set, ap, ◌∙◌, sym, arith}
use Rattle.std.specs.Prelude.{Some}
use Rattle.sim_simulation.specs.Packets.{with_frame_of, with_one_frame}
use Rattle.sim_simulation.proofs.Summaries.{updated_is, updated_past}
use Rattle.sim_simulation.proofs.tally.tally.Tally.relayed.Goals.{then-carried-len, else-carried-len}
use Rattle.sim_simulation.proofs.tally.tally.Tally.relayed.Goals as goal

-- its packet has one frame more, where it is one
pub returns-clause-sends : goal.returns-clause-sends
returns-clause-sends c =
    let items = c.args.self.now.sends.items in
    let k = c.in_ok-carried.carried.send in
    let some : c.args.carried ≡ Some c.in_ok-carried.carried = c.in_ok-carried.was in
    elim c.if-carried-len.branch [
      | then-carried-len w ↦ ap (λ t. t.sends.items) w.self-is
          ∙ ap (λ s. set items k s) w.with_frame.ensures
          ∙ updated_is k with_one_frame items w.index-summary.result.now
          (omega (arith, w.if-carried-len.true)) w.index-summary.ensures
          ∙ ap (λ x. with_frame_of x items) (sym some)
      | else-carried-len w ↦ ap (λ t. t.sends.items) w.self-is
          ∙ sym (updated_past k 0 with_one_frame items (omega (arith, w.if-carried-len.false)))
          ∙ ap (λ x. with_frame_of x items) (sym some)
    ]

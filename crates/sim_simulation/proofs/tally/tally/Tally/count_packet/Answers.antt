use Rattle.std.proofs.Common.{ℕ, [], ◌∷◌, ◌++◌, true, ap, ◌∙◌}
use Rattle.std.proofs.lemmas.Result.{on_ok_weaker}
use Rattle.sim_simulation.specs.Packets.{own_of}
use Rattle.sim_simulation.proofs.Tallies.{packet_more}
use Rattle.sim_simulation.proofs.tally.tally.Tally.count_packet.Goals as goal

-- one packet more, and its own frame
pub returns-clause-counts : goal.returns-clause-counts
returns-clause-counts c = λ p ps fs ds is has.
    let old = c.args.self.now in
    let counted = c.count_frame.ensures in
    let size = c.len-send.ensures ∙ old.sends.ok.0 in
    on_ok_weaker c.count_frame.result
    (λ given. packet_more old c.count_frame.new.self c.args.summary p ps fs ds
    (ap (λ s. s.items) counted.sends ∙ c.in_ok-push.ensures.items)
    (given ∙ ap (λ (n : ℕ). old.carried.items ++ own_of n true ∷ []) size)
    counted.released counted.delivered is has)
    counted.carried

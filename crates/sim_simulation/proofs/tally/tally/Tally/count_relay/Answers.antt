use Rattle.std.proofs.Common.{Bool, [], ◌∷◌, ◌++◌, length, ap, ◌∙◌, sym, subst}
use Rattle.std.proofs.lemmas.Result.{on_ok_weaker}
use Rattle.sim_simulation.specs.Packets.{HasCounted, with_relay}
use Rattle.sim_simulation.proofs.Summaries.{frames_size}
use Rattle.sim_simulation.proofs.Tallies.{relay_more}
use Rattle.sim_simulation.proofs.tally.tally.Tally.count_relay.Goals as goal

-- no summary more
pub returns-clause-sends : goal.returns-clause-sends
returns-clause-sends c =
    ap (λ s. length s.items) c.count_frame.ensures.sends
    ∙ ap length c.relayed-further.ensures.sends
    ∙ frames_size c.args.carried c.args.self.now.sends.items

-- one relay more
pub returns-clause-counts : goal.returns-clause-counts
returns-clause-counts c = λ ps fs ds one has.
    let old = c.args.self.now in
    let new = c.count_frame.new.self in
    let further = c.relayed-further.ensures in
    let counted = c.count_frame.ensures in
    on_ok_weaker c.count_frame.result
    (λ given. subst (λ (b : Bool). HasCounted new ps (with_relay b c.args.carried fs) ds)
    (sym c.if-not-relayed.false)
    (relay_more old new c.args.carried ps fs ds
    (ap (λ s. s.items) counted.sends ∙ further.sends)
    (given ∙ ap (λ v. v.items ++ c.relayed-further.result ∷ []) further.carried
    ∙ ap (λ x. old.carried.items ++ x ∷ []) further.further)
    (counted.released ∙ further.released) (counted.delivered ∙ further.delivered) one has))
    counted.carried

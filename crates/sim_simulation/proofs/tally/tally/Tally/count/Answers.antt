use Rattle.std.proofs.Common.{length, refl, sym, subst}
use Rattle.std.proofs.lemmas.Result.{on_ok_weaker}
use Rattle.sim_simulation.specs.Records.{happening_in}
use Rattle.its_world.specs.Entries.{Entry}
use Rattle.sim_simulation.specs.Packets.{HasCounted, packets_after, carried_after, deliveries_after}
use Rattle.sim_simulation.proofs.Tallies.{same_tally}
use Rattle.sim_simulation.proofs.tally.tally.Tally.count.Goals as goal

-- a frame of the station's own, and perhaps its packet
pub returns-in-Sent-clause-counts : goal.returns-in-Sent-clause-counts
returns-in-Sent-clause-counts c = λ n ps fs ds number has.
    let e = happening_in c.args.done.now in
    on_ok_weaker c.count_send.result
    (λ is in_time. subst (λ (entry : Entry). HasCounted c.count_send.new.self
    (packets_after entry n e ps) (carried_after entry (length ps) e fs)
    (deliveries_after entry e fs ds)) (sym c.in-Sent.is) is)
    (c.count_send.ensures.counts n ps fs ds number
    (same_tally c.args.self.now _ ps fs ds refl refl refl refl has))

use Rattle.std.proofs.Common.{◌≡◌, false, length, ap, ◌∙◌, sym, subst}
use Rattle.std.specs.Prelude.{Option, OnOk}
use Rattle.sim_simulation.specs.Records.{happening_in}
use Rattle.its_world.specs.Events.{what_of}
use Rattle.sim_simulation.specs.declared.tally.tally.CarriedPacket.{CarriedPacket}
use Rattle.sim_simulation.specs.Packets.{HasCounted, IsOneOf, delivered_by, with_relay, with_delivery}
use Rattle.sim_simulation.proofs.Tallies.{same_tally, one_of_these, under_ok}
use Rattle.sim_simulation.proofs.tally.tally.Tally.count_accepted.Goals as goal

-- a delivery and a relay more
pub returns-clause-counts : goal.returns-clause-counts
returns-clause-counts c = λ ps fs ds has.
    let old = c.args.self.now in
    let e = happening_in c.args.done.now in
    let what = what_of c.args.done.now.what.now in
    let relayed = c.args.relayed in
    let handed = c.args.handed in
    let result = c.count_relay.result in
    let new = c.count_relay.new.self in
    let carries = c.carried_by-carried.result in
    let looked = c.carried_by-carried.ensures in
    under_ok result (new.late ≡ false) (HasCounted new ps
    (with_relay relayed (delivered_by what fs) fs)
    (with_delivery handed e (delivered_by what fs) ds))
    (λ in_time.
    let early : c.carried_by-carried.new.self.late ≡ false =
    sym c.in_ok-count_handed.ensures.late ∙ sym c.count_relay.ensures.late ∙ in_time in
    let is : carries ≡ delivered_by what fs = looked.carried early fs has.kept in
    let one : IsOneOf (length ps) carries =
    subst (λ (x : Option CarriedPacket). IsOneOf (length ps) x) (sym is)
    (one_of_these (length ps) fs what has.of_frames) in
    let first = same_tally old c.carried_by-carried.new.self ps fs ds
    (ap (λ t. t.sends.items) looked.others) (ap (λ t. t.carried.items) looked.others)
    (ap (λ t. t.released) looked.others) (ap (λ t. t.delivered) looked.others) has in
    let second = c.in_ok-count_handed.ensures.counts ps fs ds one first in
    subst (λ (x : Option CarriedPacket). OnOk result (HasCounted new ps (with_relay relayed x fs)
    (with_delivery handed e x ds))) is
    (c.count_relay.ensures.counts ps fs (with_delivery handed e carries ds) one second))

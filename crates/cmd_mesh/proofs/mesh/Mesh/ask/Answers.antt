use Rattle.std.proofs.Common.{ℕ, ◌+◌, ◌<◌, arith, sym, subst, add_assoc}
use Rattle.std.proofs.Common.{rules, ◌∙◌}
use Rattle.std.specs.Prelude.{slice_get}
use Rattle.its_station.specs.declared.call.Call.TheVariants.{Receive}
use Rattle.its_world.proofs.Worlds.{length_stations}
use Rattle.cmd_mesh.specs.Calls.{mesh_run}
use Rattle.cmd_mesh.specs.Stations.{IsNoted, IsCutShort}
use Rattle.cmd_mesh.proofs.Stations.{received_more, received_cut}
use Rattle.cmd_mesh.proofs.mesh.Mesh.ask.Goals as goal

pub returns-in-WouldBlock-clause-asked : goal.returns-in-WouldBlock-clause-asked
returns-in-WouldBlock-clause-asked g c = λ before asked.
    let n = c.loop-count.count in (
      n + 1,
      omega arith,
      subst (g.S.Sockets.Asked c.receive.new.self) (add_assoc before n 1)
          (c.receive.ensures.asked (before + n) (c.loop-count.invariant.asked before asked)),
    )

pub returns-in-Failed-clause-asked : goal.returns-in-Failed-clause-asked
returns-in-Failed-clause-asked g c = λ before asked.
    let n = c.loop-count.count in (
      n + 1,
      omega arith,
      subst (λ s. g.S.Sockets.Asked s (before + (n + 1))) (sym c.fail.ensures.sockets)
          (subst (g.S.Sockets.Asked c.receive.new.self) (add_assoc before n 1)
          (c.receive.ensures.asked (before + n) (c.loop-count.invariant.asked before asked))),
    )

pub loop-count-preserved : goal.loop-count-preserved
loop-count-preserved g c =
    record {
      received = λ models represent within. (
          let at = c.loop-count in
          let middle = at.self.stations.items in
          let new = c.call.new.self.stations.items in
          let j = c.args.station in
          let frame = c.in_ok-datagram-in-Done.datagram in
          let first = at.invariant.received models represent within in
          let ms = mesh_run models first.calls in
          let inside = subst (λ (n : ℕ). j < n)
          (length_stations c.args.self.now.stations.items models represent) within in
          received_more middle new models j c.args.self.now.moment frame c.args.self.now.refused
          at.self.refused c.call.new.self.refused at.count inside first
          (subst (λ (n : ℕ). IsNoted middle (slice_get ms j) j n (Receive frame) at.self.refused
          new c.call.new.self.refused) at.invariant.moment
          (c.in_ok-call-in-Done.ensures.called ms first.made.stand)));
      moment = c.call.ensures.moment ∙ c.loop-count.invariant.moment;
      asked = λ before asked. (
          let n = c.loop-count.count in
          c.call.ensures.asked (before + (n + 1))
          (subst (g.S.Sockets.Asked c.receive.new.self) (add_assoc before n 1)
          (c.receive.ensures.asked (before + n) (c.loop-count.invariant.asked before asked))));
    }

pub returns-in_err-call-in-Done-clause-received : goal.returns-in_err-call-in-Done-clause-received
returns-in_err-call-in-Done-clause-received g c = λ models represent within. (
    let at = c.loop-count in
    let middle = at.self.stations.items in
    let new = c.call.new.self.stations.items in
    let j = c.args.station in
    let frame = c.in_ok-datagram-in-Done.datagram in
    let first = at.invariant.received models represent within in
    let ms = mesh_run models first.calls in
    let inside = subst (λ (n : ℕ). j < n)
    (length_stations c.args.self.now.stations.items models represent) within in
    let got = received_cut middle new models j c.args.self.now.moment frame
    c.args.self.now.refused at.self.refused c.call.new.self.refused at.count inside first
    (subst (λ (n : ℕ). IsCutShort middle ms (slice_get ms j) j n (Receive frame) at.self.refused
    new c.call.new.self.refused) at.invariant.moment
    (c.in_err-call-in-Done.ensures.stopped ms first.made.stand)) in
    (got.0, got.1, search rules))

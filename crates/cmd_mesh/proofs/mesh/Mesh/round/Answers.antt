use Rattle.std.proofs.Common.{◌<◌, length, refl, ◌∙◌, rules}
use Rattle.cmd_mesh.proofs.Stations.{none_came, more_there}
use Rattle.cmd_mesh.proofs.mesh.Mesh.round.Goals as goal

pub loop-station-init : goal.loop-station-init
loop-station-init g c =
    record {
      received = λ models represent. none_came models c.args.self.now.moment
          c.args.self.now.refused c.args.self.now.stations.items represent;
      moment = refl;
    }

pub loop-station-preserved : goal.loop-station-preserved
loop-station-preserved g c =
    record {
      received = λ models represent. (
          let at = c.loop-station in
          let old = c.args.self.now.stations.items in
          let within : at.station < length old = search rules in
          more_there models c.args.self.now.moment at.self.moment at.station
          c.args.self.now.refused at.self.refused c.ask.new.self.refused old
          at.self.stations.items c.ask.new.self.stations.items represent within
          at.invariant.moment (at.invariant.received models represent)
          (λ ms r inside. let got = c.ask.ensures.received ms r inside in (got.0, got.1)));
      moment = c.ask.ensures.moment ∙ c.loop-station.invariant.moment;
    }

pub returns-in_err-ask-clause-received : goal.returns-in_err-ask-clause-received
returns-in_err-ask-clause-received g c = λ models represent. (
    let at = c.loop-station in
    let old = c.args.self.now.stations.items in
    let within : at.station < length old = search rules in
    more_there models c.args.self.now.moment at.self.moment at.station c.args.self.now.refused
    at.self.refused c.ask.new.self.refused old at.self.stations.items
    c.ask.new.self.stations.items represent within at.invariant.moment
    (at.invariant.received models represent)
    (λ ms r inside. let got = c.ask.ensures.received ms r inside in (got.0, got.1)))

use Rattle.std.proofs.Common.{◌≡◌, List, ℕ, rules, subst}
use Rattle.its_headers.specs.Encoding.{payload_of}
use Rattle.its_model.specs.Calls.Call.{Receive}
use Rattle.its_model.specs.Station.{station_step}
use Rattle.its_station.specs.State.{StationState}
use Rattle.its_station.specs.Receiving.{IsPlaceOf}
use Rattle.its_gnvalue.specs.Values.{mid_of}
use Rattle.its_unit.specs.Contending.{cancels}
use Rattle.its_unit.specs.declared.outcome.Reaction.{Reaction}
use Rattle.its_unit.specs.Unit.{RepresentsUnit, UnitState}
use Rattle.its_unit.proofs.Contended.{accepted_in_time}
use Rattle.its_unit.proofs.Unforwarded.{reacts_to}
use Rattle.its_unit.proofs.unit.Unit.take.Goals as goal

pub returns-clause-payload : goal.returns-clause-payload
returns-clause-payload g c =
    let w = payload_of (g.F.ReceivedFrame.frame c.args.frame.now).pdu.body in
    c.pass.ensures.payload w
    (c.contend-outcome.ensures.payload w c.in_ok-outcome.ensures.payload)

pub returns-clause-short_frame : goal.returns-clause-short_frame
returns-clause-short_frame g c =
    let most = g.F.ReceivedFrame.most c.args.frame.now in
    c.pass.ensures.short_frame most
    (c.contend-outcome.ensures.short_frame most c.in_ok-outcome.ensures.short_frame)

pub returns-clause-step : goal.returns-clause-step
returns-clause-step g c = λ say said octets u rep.
    let encodes = g.F.ReceivedFrame.Encodes c.args.frame.now in
    let t = g.F.ReceivedFrame.frame c.args.frame.now in
    let now = c.args.now in
    let step = station_step u.station now (Receive t) in
    let in_time = accepted_in_time u.station now t in
    let old : UnitState = record {
      station = c.self.inside.station;
      contention = c.self.inside.contention;
      governor = c.self.inside.governor;
      counts = c.self.inside.counts;
    } in
    let new : UnitState = record {
      station = c.take.new.self;
      contention = c.contend-outcome.new.waiting;
      governor = c.pass.new.governor;
      counts = c.self.inside.counts;
    } in
    let seen : c.args.self.now ≡ old = search rules in
    let held : RepresentsUnit old u = subst (λ (x : UnitState). RepresentsUnit x u) seen rep in
    let same : c.args.self.now.station ≡ old.station = search rules in
    let told = c.in_ok-outcome.ensures.step u.station held.station in
    let left = c.contend-outcome.result in
    let reaction : Reaction = record {
      outcome = c.pass.result;
      due = left.due;
      cancelled = left.cancelled;
    } in
    reacts_to c.args.limiting encodes say u now t c.args.looked left.outcome reaction
    c.receiver_of-receiver.result old new held
    (c.requires.found u.station rep.station)
    (subst (λ (x : StationState). IsPlaceOf c.args.looked x now t) same c.requires.place)
    (c.receiver_of-receiver.ensures u rep)
    told.1
    (c.contend-outcome.ensures.told step.station step.answer told.1 in_time told.0)
    (c.contend-outcome.ensures.due step.station step.answer told.1 in_time told.0)
    (subst (λ (w : List ℕ). left.cancelled ≡ cancels old.contention
    (mid_of step.station.address) w t.link_source step.answer) octets
    (c.contend-outcome.ensures.cancelled step.station step.answer told.1 in_time told.0))
    (c.contend-outcome.ensures.waiting step.station step.answer say told.1 in_time told.0
    said octets)
    c.pass.ensures.passed

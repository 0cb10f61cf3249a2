use Rattle.std.proofs.Common.{refl, ap, subst, rules}
use Rattle.std.proofs.Math.Facts.{to_z-of_z}
use mir.Val.{SFits}
use mir.Syntax.{w16}
use Rattle.its_model.specs.Calls.{Own, Moved, Opened, Closed, Restarted, GbcRequest, ShbRequest}
use Rattle.its_model.specs.Calls.OwnCall.{Move, Open, Close, Tick, SendShb, SendGbc, SendGac}
use Rattle.its_model.specs.Calls.OwnCall.{Restart}
use Rattle.its_model.specs.Station.{station_step}
use Rattle.its_station.specs.Requests.{TellsSent, owned_gbc, owned_shb}
use Rattle.its_station.specs.Steps.{IsStepOf}
use Rattle.its_station.specs.Runs.{own_of}
use Rattle.its_station.proofs.Runs.{own_answer}
use Rattle.its_station.proofs.station.Station.answer_own.Goals as goal

pub returns-in-MoveTo-clause-step : goal.returns-in-MoveTo-clause-step
returns-in-MoveTo-clause-step g c =
    let own = Move c.in-MoveTo.place c.in-MoveTo.pai c.in-MoveTo.speed c.in-MoveTo.heading in
    own_answer c.answer_of_done.result c.args.call.now own c.args.self.now c.move_to.new.self c.args.moment
    (ap own_of c.in-MoveTo.is)
    (λ s rep. c.answer_of_done.ensures.answer Moved c.move_to.new.self
    (station_step s c.args.moment (Own own))
    refl (let fits : SFits w16 c.in-MoveTo.speed = search rules in
    simp (to_z-of_z fits) at (c.move_to.ensures.step s rep)))

pub returns-in-Open-clause-step : goal.returns-in-Open-clause-step
returns-in-Open-clause-step g c =
    let own = Open c.in-Open.port in
    own_answer c.answer_of_done-in-Open.result c.args.call.now own c.args.self.now c.open.new.self c.args.moment
    (ap own_of c.in-Open.is)
    (λ s rep. c.answer_of_done-in-Open.ensures.answer Opened c.open.new.self
    (station_step s c.args.moment (Own own)) refl (c.open.ensures.step s rep))

pub returns-in-Close-clause-step : goal.returns-in-Close-clause-step
returns-in-Close-clause-step g c =
    let own = Close c.in-Close.port in
    own_answer c.answer_of_done-in-Close.result c.args.call.now own c.args.self.now c.close.new.self c.args.moment
    (ap own_of c.in-Close.is)
    (λ s rep. c.answer_of_done-in-Close.ensures.answer Closed c.close.new.self
    (station_step s c.args.moment (Own own)) refl (c.close.ensures.step s rep))

pub returns-in-Restart-clause-step : goal.returns-in-Restart-clause-step
returns-in-Restart-clause-step g c =
    let own = Restart c.in-Restart.number in
    own_answer c.answer_of_done-in-Restart.result c.args.call.now own c.args.self.now c.restart.new.self c.args.moment
    (ap own_of c.in-Restart.is)
    (λ s rep. c.answer_of_done-in-Restart.ensures.answer Restarted c.restart.new.self
    (station_step s c.args.moment (Own own)) refl (c.restart.ensures.step s rep))

pub returns-in-Tick-clause-step : goal.returns-in-Tick-clause-step
returns-in-Tick-clause-step g c =
    let own = Tick c.in-Tick.jitter in
    own_answer c.answer_of_tick.result c.args.call.now own c.args.self.now c.tick.new.self c.args.moment
    (ap own_of c.in-Tick.is)
    (λ s rep. c.answer_of_tick.ensures.answer c.tick.new.self
    (station_step s c.args.moment (Own own))
    (c.tick.ensures.step s rep))

pub returns-in-SendShb-clause-step : goal.returns-in-SendShb-clause-step
returns-in-SendShb-clause-step g c =
    let own = SendShb (owned_shb c.in-SendShb.r) in
    own_answer c.answer_of_send.result c.args.call.now own c.args.self.now c.send_shb.new.self c.args.moment
    (ap own_of c.in-SendShb.is)
    (λ s rep. c.answer_of_send.ensures.answer c.send_shb.new.self
    (station_step s c.args.moment (Own own))
    (subst (λ (r : ShbRequest). IsStepOf TellsSent c.send_shb.result c.send_shb.new.self
    (station_step s c.args.moment (Own (SendShb r)))) c.lend.ensures (c.send_shb.ensures.step s rep)))

pub returns-in-SendGeobroadcast-clause-step : goal.returns-in-SendGeobroadcast-clause-step
returns-in-SendGeobroadcast-clause-step g c =
    let own = SendGbc (owned_gbc c.in-SendGeobroadcast.r) in
    own_answer c.answer_of_send-in-SendGeobroadcast.result c.args.call.now own c.args.self.now c.send_geobroadcast.new.self c.args.moment
    (ap own_of c.in-SendGeobroadcast.is)
    (λ s rep. c.answer_of_send-in-SendGeobroadcast.ensures.answer c.send_geobroadcast.new.self
    (station_step s c.args.moment (Own own))
    (subst (λ (r : GbcRequest). IsStepOf TellsSent c.send_geobroadcast.result c.send_geobroadcast.new.self
    (station_step s c.args.moment (Own (SendGbc r)))) c.lend-in-SendGeobroadcast.ensures (c.send_geobroadcast.ensures.step s rep)))

pub returns-in-SendGeoanycast-clause-step : goal.returns-in-SendGeoanycast-clause-step
returns-in-SendGeoanycast-clause-step g c =
    let own = SendGac (owned_gbc c.in-SendGeoanycast.r) in
    own_answer c.answer_of_send-in-SendGeoanycast.result c.args.call.now own c.args.self.now c.send_geoanycast.new.self c.args.moment
    (ap own_of c.in-SendGeoanycast.is)
    (λ s rep. c.answer_of_send-in-SendGeoanycast.ensures.answer c.send_geoanycast.new.self
    (station_step s c.args.moment (Own own))
    (subst (λ (r : GbcRequest). IsStepOf TellsSent c.send_geoanycast.result c.send_geoanycast.new.self
    (station_step s c.args.moment (Own (SendGac r)))) c.lend-in-SendGeoanycast.ensures (c.send_geoanycast.ensures.step s rep)))

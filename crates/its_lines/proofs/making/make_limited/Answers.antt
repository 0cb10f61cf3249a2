use Rattle.std.proofs.Common.{refl, ap, subst, rules, Some, None}
use Rattle.std.proofs.Math.Facts.{to_z-of_z}
use mir.Val.{SFits}
use mir.Syntax.{w16}
use Rattle.its_headers.specs.declared.kind.Kind.TheVariants as kinds
use Rattle.its_model.specs.Calls.{Moved, Opened, Closed, Restarted, GbcRequest, ShbRequest}
use Rattle.its_model.specs.Calls.OwnCall.{Move, Open, Close, Tick, SendShb, SendGbc, SendGac}
use Rattle.its_model.specs.Calls.OwnCall.{Restart}
use Rattle.its_station.specs.Counting.{counted_done, counted_tick, own_kind}
use Rattle.its_station.specs.Requests.{owned_gbc, owned_shb}
use Rattle.its_station.specs.Runs.{own_of}
use Rattle.its_unit.specs.Steps.{IsSendOf, counted_request}
use Rattle.its_unit.specs.Unit.{Own, unit_step}
use Rattle.its_lines.proofs.Made.{own_counts, own_made}
use Rattle.its_lines.proofs.making.make_limited.Goals as goal

pub returns-in-MoveTo-clause-step : goal.returns-in-MoveTo-clause-step
returns-in-MoveTo-clause-step c =
    let own = Move c.in-MoveTo.place c.in-MoveTo.pai c.in-MoveTo.speed c.in-MoveTo.heading in
    own_made c.made_of_done.result c.args.call.now own c.args.unit.now c.move_to.new.self c.args.at
    (ap own_of c.in-MoveTo.is)
    (λ u rep. c.made_of_done.ensures.step Moved c.move_to.new.self
    (unit_step u c.args.at (Own own)) refl (let fits : SFits w16 c.in-MoveTo.speed = search rules in
    simp (to_z-of_z fits) at (c.move_to.ensures.step u rep)))

pub returns-in-MoveTo-clause-counts : goal.returns-in-MoveTo-clause-counts
returns-in-MoveTo-clause-counts c =
    own_counts c.made_of_done.result c.args.call.now None c.args.unit.now.counts
    (counted_done c.move_to.result c.args.unit.now.counts) c.move_to.new.self.counts
    (ap own_kind c.in-MoveTo.is) c.move_to.ensures.counts (c.made_of_done.ensures.counts c.args.unit.now.counts refl)

pub returns-in-Open-clause-step : goal.returns-in-Open-clause-step
returns-in-Open-clause-step c =
    let own = Open c.in-Open.port in
    own_made c.made_of_done-in-Open.result c.args.call.now own c.args.unit.now c.open.new.self c.args.at
    (ap own_of c.in-Open.is)
    (λ u rep. c.made_of_done-in-Open.ensures.step Opened c.open.new.self
    (unit_step u c.args.at (Own own)) refl (c.open.ensures.step u rep))

pub returns-in-Open-clause-counts : goal.returns-in-Open-clause-counts
returns-in-Open-clause-counts c =
    own_counts c.made_of_done-in-Open.result c.args.call.now None c.args.unit.now.counts
    (counted_done c.open.result c.args.unit.now.counts) c.open.new.self.counts
    (ap own_kind c.in-Open.is) c.open.ensures.counts (c.made_of_done-in-Open.ensures.counts c.args.unit.now.counts refl)

pub returns-in-Close-clause-step : goal.returns-in-Close-clause-step
returns-in-Close-clause-step c =
    let own = Close c.in-Close.port in
    own_made c.made_of_done-in-Close.result c.args.call.now own c.args.unit.now c.close.new.self c.args.at
    (ap own_of c.in-Close.is)
    (λ u rep. c.made_of_done-in-Close.ensures.step Closed c.close.new.self
    (unit_step u c.args.at (Own own)) refl (c.close.ensures.step u rep))

pub returns-in-Close-clause-counts : goal.returns-in-Close-clause-counts
returns-in-Close-clause-counts c =
    own_counts c.made_of_done-in-Close.result c.args.call.now None c.args.unit.now.counts
    (counted_done c.close.result c.args.unit.now.counts) c.close.new.self.counts
    (ap own_kind c.in-Close.is) c.close.ensures.counts (c.made_of_done-in-Close.ensures.counts c.args.unit.now.counts refl)

pub returns-in-Restart-clause-step : goal.returns-in-Restart-clause-step
returns-in-Restart-clause-step c =
    let own = Restart c.in-Restart.number in
    own_made c.made_of_done-in-Restart.result c.args.call.now own c.args.unit.now c.restart.new.self c.args.at
    (ap own_of c.in-Restart.is)
    (λ u rep. c.made_of_done-in-Restart.ensures.step Restarted c.restart.new.self
    (unit_step u c.args.at (Own own)) refl (c.restart.ensures.step u rep))

pub returns-in-Restart-clause-counts : goal.returns-in-Restart-clause-counts
returns-in-Restart-clause-counts c =
    own_counts c.made_of_done-in-Restart.result c.args.call.now None c.args.unit.now.counts
    (counted_done c.restart.result c.args.unit.now.counts) c.restart.new.self.counts
    (ap own_kind c.in-Restart.is) c.restart.ensures.counts (c.made_of_done-in-Restart.ensures.counts c.args.unit.now.counts refl)

pub returns-in-Tick-clause-step : goal.returns-in-Tick-clause-step
returns-in-Tick-clause-step c =
    let own = Tick c.in-Tick.jitter in
    own_made c.made_of_tick.result c.args.call.now own c.args.unit.now c.tick.new.self c.args.at
    (ap own_of c.in-Tick.is)
    (λ u rep. c.made_of_tick.ensures.step c.tick.new.self (unit_step u c.args.at (Own own))
    (c.tick.ensures.step u rep))

pub returns-in-Tick-clause-counts : goal.returns-in-Tick-clause-counts
returns-in-Tick-clause-counts c =
    own_counts c.made_of_tick.result c.args.call.now (Some kinds.Beacon) c.args.unit.now.counts
    (counted_tick c.tick.result c.args.unit.now.counts) c.tick.new.self.counts
    (ap own_kind c.in-Tick.is) c.tick.ensures.counts (c.made_of_tick.ensures.counts c.args.unit.now.counts)

pub returns-in-SendShb-clause-step : goal.returns-in-SendShb-clause-step
returns-in-SendShb-clause-step c =
    let own = SendShb (owned_shb c.in-SendShb.r) in
    own_made c.made_of_send.result c.args.call.now own c.args.unit.now c.send_shb.new.self c.args.at
    (ap own_of c.in-SendShb.is)
    (λ u rep. c.made_of_send.ensures.step c.send_shb.new.self (unit_step u c.args.at (Own own))
    (subst (λ (r : ShbRequest). IsSendOf c.send_shb.result c.send_shb.new.self
    (unit_step u c.args.at (Own (SendShb r)))) c.lend.ensures (c.send_shb.ensures.step u rep)))

pub returns-in-SendShb-clause-counts : goal.returns-in-SendShb-clause-counts
returns-in-SendShb-clause-counts c =
    own_counts c.made_of_send.result c.args.call.now (Some kinds.Shb) c.args.unit.now.counts
    (counted_request kinds.Shb c.send_shb.result c.args.unit.now.counts) c.send_shb.new.self.counts
    (ap own_kind c.in-SendShb.is) c.send_shb.ensures.counts (c.made_of_send.ensures.counts kinds.Shb c.args.unit.now.counts)

pub returns-in-SendGeobroadcast-clause-step : goal.returns-in-SendGeobroadcast-clause-step
returns-in-SendGeobroadcast-clause-step c =
    let own = SendGbc (owned_gbc c.in-SendGeobroadcast.r) in
    own_made c.made_of_send-in-SendGeobroadcast.result c.args.call.now own c.args.unit.now c.send_to_area.new.self c.args.at
    (ap own_of c.in-SendGeobroadcast.is)
    (λ u rep. c.made_of_send-in-SendGeobroadcast.ensures.step c.send_to_area.new.self (unit_step u c.args.at (Own own))
    (subst (λ (r : GbcRequest). IsSendOf c.send_to_area.result c.send_to_area.new.self
    (unit_step u c.args.at (Own (SendGbc r)))) c.lend-in-SendGeobroadcast.ensures (c.send_to_area.ensures.step u rep)))

pub returns-in-SendGeobroadcast-clause-counts : goal.returns-in-SendGeobroadcast-clause-counts
returns-in-SendGeobroadcast-clause-counts c =
    own_counts c.made_of_send-in-SendGeobroadcast.result c.args.call.now (Some kinds.Gbc) c.args.unit.now.counts
    (counted_request kinds.Gbc c.send_to_area.result c.args.unit.now.counts) c.send_to_area.new.self.counts
    (ap own_kind c.in-SendGeobroadcast.is) c.send_to_area.ensures.counts (c.made_of_send-in-SendGeobroadcast.ensures.counts kinds.Gbc c.args.unit.now.counts)

pub returns-in-SendGeoanycast-clause-step : goal.returns-in-SendGeoanycast-clause-step
returns-in-SendGeoanycast-clause-step c =
    let own = SendGac (owned_gbc c.in-SendGeoanycast.r) in
    own_made c.made_of_send-in-SendGeoanycast.result c.args.call.now own c.args.unit.now c.send_to_area-in-SendGeoanycast.new.self c.args.at
    (ap own_of c.in-SendGeoanycast.is)
    (λ u rep. c.made_of_send-in-SendGeoanycast.ensures.step c.send_to_area-in-SendGeoanycast.new.self (unit_step u c.args.at (Own own))
    (subst (λ (r : GbcRequest). IsSendOf c.send_to_area-in-SendGeoanycast.result c.send_to_area-in-SendGeoanycast.new.self
    (unit_step u c.args.at (Own (SendGac r)))) c.lend-in-SendGeoanycast.ensures (c.send_to_area-in-SendGeoanycast.ensures.step u rep)))

pub returns-in-SendGeoanycast-clause-counts : goal.returns-in-SendGeoanycast-clause-counts
returns-in-SendGeoanycast-clause-counts c =
    own_counts c.made_of_send-in-SendGeoanycast.result c.args.call.now (Some kinds.Gac) c.args.unit.now.counts
    (counted_request kinds.Gac c.send_to_area-in-SendGeoanycast.result c.args.unit.now.counts) c.send_to_area-in-SendGeoanycast.new.self.counts
    (ap own_kind c.in-SendGeoanycast.is) c.send_to_area-in-SendGeoanycast.ensures.counts (c.made_of_send-in-SendGeoanycast.ensures.counts kinds.Gac c.args.unit.now.counts)

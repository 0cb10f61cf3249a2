use Rattle.std.proofs.Common.{◌≡◌, ◌∙◌, rules, sym, subst}
use Rattle.std.specs.Prelude.{Result}
use Rattle.its_model.specs.Calls.Call.{Receive}
use Rattle.its_model.specs.Station.{station_step}
use Rattle.its_station.specs.State.{StationState}
use Rattle.its_station.specs.Steps as station
use Rattle.its_station.specs.Receiving.{TellsBy}
use Rattle.its_station.specs.declared.refused.Refused.{Refused}
use Rattle.its_station.proofs.Hearing.{refused_frame}
use Rattle.its_unit.specs.declared.outcome.Reaction.{Reaction}
use Rattle.its_unit.specs.Steps.{IsReactionOf}
use Rattle.its_unit.specs.Unit.{RepresentsUnit, UnitState, step_of_by}
use Rattle.its_unit.proofs.Contended.{refused_by_limits}
use Rattle.its_unit.proofs.Unforwarded.{reacted}
use Rattle.its_unit.proofs.unit.Unit.receive_frame.Goals as goal
use Rattle.its_unit.proofs.unit.Unit.receive_frame.Goals.{in-Ok, in-Err}

pub returns-clause-step : goal.returns-clause-step
returns-clause-step g c = λ say said octets u rep.
    let encodes = g.F.ReceivedFrame.Encodes c.args.frame.now in
    let t = g.F.ReceivedFrame.frame c.args.frame.now in
    let now = c.args.now in
    let new = c.note_received.new.self in
    let unit_step = step_of_by c.args.limiting say u now t in
    let old : UnitState = record {
      station = c.self.inside.station;
      contention = c.self.inside.contention;
      governor = c.self.inside.governor;
      counts = c.self.inside.counts;
    } in
    let seen : c.args.self.now ≡ old = search rules in
    let held : RepresentsUnit old u = subst (λ (x : UnitState). RepresentsUnit x u) seen rep in
    elim c.match-look_up.branch [
      | in-Ok b ↦
          let taken = b.take-said.new.self in
          let stands : new.station ≡ taken.station = search rules in
          let waits : new.contention ≡ taken.contention = search rules in
          let limits : new.governor ≡ taken.governor = search rules in
          subst (λ (r : Result Reaction Refused). IsReactionOf (TellsBy encodes) r new unit_step)
          (sym b.said-is)
          (reacted (TellsBy encodes) b.take-said.result taken new unit_step stands waits limits
          (b.take-said.ensures.step say said octets u rep))
      | in-Err b ↦
          let stands : new.station ≡ old.station = search rules in
          let waits : new.contention ≡ old.contention = search rules in
          let limits : new.governor ≡ old.governor = search rules in
          subst (λ (r : Result Reaction Refused). IsReactionOf (TellsBy encodes) r new unit_step)
          (sym b.said-is)
          (refused_by_limits c.args.limiting say u now t b.in-Err.refused new (held.contention ∙ sym waits)
          (held.governor ∙ sym limits)
          (subst (λ (s : StationState).
          station.IsRefusedStep b.in-Err.refused s (station_step u.station now (Receive t))) (sym stands)
          (refused_frame old.station now t b.in-Err.refused b.in-Err.ensures.found u.station
          held.station)))
    ]

use Rattle.std.proofs.Common.{◌≡◌, ℕ, sym, ap, ◌∙◌, subst}
use Rattle.std.specs.Prelude.{Result, Vec, OnErr, OnOk}
use Rattle.std.specs.declared.alloc.Global.{Global}
use Rattle.its_model.specs.Calls.{Own, area_call}
use Rattle.its_model.specs.Station.{station_step}
use Rattle.its_station.specs.Requests.{TellsSent, gbc_request, kind_of_cast}
use Rattle.its_station.specs.State.{StationState, RepresentsStation}
use Rattle.its_station.specs.Steps.{IsStepOf}
use Rattle.its_governor.specs.declared.governor.Governor.{Governor}
use Rattle.its_governor.specs.Governing.{after_sent}
use Rattle.its_unit.specs.Unit.{UnitState, unit_step}
use Rattle.its_unit.specs.Unit as unit
use Rattle.its_unit.specs.Steps.{IsSendOf, unsent_of}
use Rattle.its_unit.specs.declared.unsent.Unsent.{Unsent}
use Rattle.its_unit.proofs.Steps.{area_step}
use Rattle.its_unit.proofs.unit.Unit.send_to_area.Goals as goal

pub returns-clause-step : goal.returns-clause-step
returns-clause-step g c = λ u rep.
    let call = area_call (kind_of_cast c.args.cast) (gbc_request c.args.r.now) in
    let said = c.send_to_area-said.result in
    let note = c.note_request.ensures in
    let new = c.note_request.new.self in
    let governor : c.self.inside.governor ≡ c.args.self.now.governor =
    ap (λ (st : UnitState). st.governor) c.self.view_is in
    subst (λ (r : Result (Vec ℕ Global) Unsent).
    IsSendOf r c.note_request.new.self (unit_step u c.args.now (unit.Own call))) (sym note.said)
    (area_step said u c.args.now c.args.self.now c.note_request.new.self
    (kind_of_cast c.args.cast) (gbc_request c.args.r.now) rep
    (sym c.is_over_rate.ensures ∙ c.if-is_over_rate.false)
    (note.contention ∙ ap (λ (st : UnitState). st.contention) c.self.view_is)
    (subst (λ (st : StationState).
    IsStepOf TellsSent said st (station_step u.station c.args.now (Own call))) (sym note.station)
    (c.send_to_area-said.ensures.step u.station
    (subst (λ (st : UnitState). RepresentsStation st.station u.station) (sym c.self.view_is)
    rep.station)))
    (subst (λ (x : Governor). OnOk (unsent_of said) (new.governor ≡ after_sent x c.args.now)) governor
    (subst (λ (r : Result (Vec ℕ Global) Unsent).
    OnOk r (new.governor ≡ after_sent c.self.inside.governor c.args.now)) note.said note.sent))
    (subst (λ (x : Governor). OnErr (unsent_of said) (new.governor ≡ x)) governor
    (subst (λ (r : Result (Vec ℕ Global) Unsent).
    OnErr r (new.governor ≡ c.self.inside.governor)) note.said note.failed)))

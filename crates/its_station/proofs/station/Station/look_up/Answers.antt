use Rattle.std.proofs.Common.{◌≡◌, ◌∙◌, ap, true, false}
use Rattle.its_loctable.specs.Heard.{verdict_at}
use Rattle.its_model.specs.Station as station
use Rattle.its_model.specs.Station.{StationModel, verdict}
use Rattle.its_model.specs.Calls as model
use Rattle.its_station.specs.State.{model_of}
use Rattle.its_station.specs.Receiving.{why_of}
use Rattle.its_station.proofs.Stations.{Represents-later, at_model}
use Rattle.its_station.proofs.Hearing.{found_duplicate, found_full, found_new, moment_found}
use Rattle.its_station.proofs.Hearing.{verdict_by_room, verdict_ignored, why_before}
use Rattle.its_station.proofs.station.Station.look_up.Goals as goal

pub returns-in_err-check_moment-clause-found : goal.returns-in_err-check_moment-clause-found
returns-in_err-check_moment-clause-found g c =
    moment_found c.args.self.now c.args.now (g.F.ReceivedFrame.frame c.args.frame.now) _
    c.from_residual.result c.from_residual.ensures.1 c.in_err-check_moment.ensures.refusal

pub returns-in-Some-clause-found : goal.returns-in-Some-clause-found
returns-in-Some-clause-found g c =
    let t = g.F.ReceivedFrame.frame c.args.frame.now in
    let time = c.in_ok-check_moment.ensures.time in
    at_model c.args.self.now
    (λ (s : StationModel). verdict s c.args.now t ≡ station.Verdict.Ignore (why_of c.in-Some.why))
    (λ ports history past.
    let m = model_of c.args.self.now ports history in
    verdict_ignored m c.args.now t c.in-Some.why time.0 time.1
    (why_before m c.args.now t c.in-Some.why (c.in-Some.ensures ports history)))

pub returns-in-Duplicate-clause-found : goal.returns-in-Duplicate-clause-found
returns-in-Duplicate-clause-found g c =
    let t = g.F.ReceivedFrame.frame c.args.frame.now in
    let time = c.in_ok-check_moment.ensures.time in
    at_model c.args.self.now
    (λ (s : StationModel). verdict s c.args.now t ≡ station.Verdict.Ignore model.Why.Duplicate)
    (λ ports history past.
    let m = model_of c.args.self.now ports history in
    let rep = Represents-later _ _ _ _ _ time.0 past.table in
    verdict_ignored m c.args.now t _ time.0 time.1
    (found_duplicate m c.args.now t (c.in_default.ensures ports history)
    (c.in-Duplicate.ensures.verdict history rep
    ∙ ap (λ h. verdict_at m.remember m.capacity c.args.now h history) c.heard_of-heard.ensures)))

pub returns-in-Full-clause-found : goal.returns-in-Full-clause-found
returns-in-Full-clause-found g c =
    let t = g.F.ReceivedFrame.frame c.args.frame.now in
    let time = c.in_ok-check_moment.ensures.time in
    at_model c.args.self.now
    (λ (s : StationModel). verdict s c.args.now t ≡ station.Verdict.Refuse model.Refusal.TableFull)
    (λ ports history past.
    let m = model_of c.args.self.now ports history in
    let rep = Represents-later _ _ _ _ _ time.0 past.table in
    let full = found_full m c.args.now t (c.in_default.ensures ports history)
    (c.in-Full.ensures.verdict history rep
    ∙ ap (λ h. verdict_at m.remember m.capacity c.args.now h history) c.heard_of-heard.ensures) in
    verdict_by_room m c.args.now t true time.0 time.1 full.0 full.1)

pub returns-in-New-clause-found : goal.returns-in-New-clause-found
returns-in-New-clause-found g c =
    let t = g.F.ReceivedFrame.frame c.args.frame.now in
    let time = c.in_ok-check_moment.ensures.time in
    at_model c.args.self.now
    (λ (s : StationModel). verdict s c.args.now t ≡ station.Verdict.Accept)
    (λ ports history past.
    let m = model_of c.args.self.now ports history in
    let rep = Represents-later _ _ _ _ _ time.0 past.table in
    let new = found_new m c.args.now t (c.in_default.ensures ports history)
    (c.in-New.ensures.verdict history rep
    ∙ ap (λ h. verdict_at m.remember m.capacity c.args.now h history) c.heard_of-heard.ensures) in
    verdict_by_room m c.args.now t false time.0 time.1 new.0 new.1)

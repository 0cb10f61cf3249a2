use Rattle.std.proofs.Common.{rules, ◌≡◌, ◌<◌, ◌≤◌, length, set, refl, sym, ap, subst, ◌∙◌}
use Rattle.std.proofs.Common.{[], Option, arith, Bool, true, false, not}
use Rattle.its_model.specs.Station.{StationModel}
use Rattle.its_station.specs.Runs.{is_refusal, reply_of}
use Rattle.its_station.specs.State.{StationState, RepresentsStation}
use Rattle.its_model.specs.World.{WorldModel}
use Rattle.its_world.specs.State.{WorldState, RepresentsWorld}
use Rattle.its_world.specs.Entries.{was_done}
use Rattle.its_world.proofs.Logs.{get_or_is, station_at}
use Rattle.its_world.proofs.Worlds.{length_stations, no_station}
use Rattle.cmd_mesh.specs.Stations.{IsCalled}
use Rattle.cmd_mesh.proofs.Runs.{on_err}
use Rattle.cmd_mesh.proofs.Stations.{station_stays}
use Rattle.cmd_mesh.proofs.mesh.Mesh.outcome_at.Goals as goal

twice : (b : Bool) → not (not b) ≡ b
twice true = refl
twice false = refl

pub returns-then-station-len-clause-called : goal.returns-then-station-len-clause-called
returns-then-station-len-clause-called g c = λ models represent. (
    let old = c.args.self.now.stations.items in
    let j = c.args.station in
    let size = length_stations old models represent in
    let past : length models ≤ j = search (rules, size) in
    subst (λ (found : Option StationModel). IsCalled old found j c.args.moment c.args.call true old)
    (sym (no_station models j past))
    (refl, refl))

pub returns-clause-called : goal.returns-clause-called
returns-clause-called g c = λ models represent. (
    let old = c.args.self.now.stations.items in
    let j = c.args.station in
    let state = c.answer.new.station in
    let own = c.index_mut.result.now in
    let within : j < length old = search rules in
    let w : WorldModel = record { stations = models; air = []; log = [] } in
    let st : WorldState = record { stations = old; released = 0; frames = [] } in
    let stood : RepresentsWorld st w =
    record { stations = represent; released = omega arith; frames = tt } in
    let at = station_at st w j stood within in
    let is : own ≡ at.0 = c.index_mut.ensures.value ∙ get_or_is old j at.0 own at.1 in
    let stands = subst (λ (x : StationState). RepresentsStation x at.2) (sym is) at.4 in
    subst (λ (found : Option StationModel). IsCalled old found j c.args.moment c.args.call
    (not (was_done c.entry_of.result.0)) (set old j state))
    (sym at.3) (
      reply_of c.in_ok-answer.answer,
      state,
      c.in_ok-answer.ensures.done at.2 stands,
      ap not c.entry_of.ensures.refused ∙ twice (is_refusal (reply_of c.in_ok-answer.answer)),
      refl,
    ))

pub returns-in_err-answer-clause-unmade : goal.returns-in_err-answer-clause-unmade
returns-in_err-answer-clause-unmade g c = λ models represent. (
    let old = c.args.self.now.stations.items in
    let j = c.args.station in
    let own = c.index_mut.result.now in
    let within : j < length old = search rules in
    let w : WorldModel = record { stations = models; air = []; log = [] } in
    let st : WorldState = record { stations = old; released = 0; frames = [] } in
    let stood : RepresentsWorld st w =
    record { stations = represent; released = omega arith; frames = tt } in
    let at = station_at st w j stood within in
    let is : own ≡ at.0 = c.index_mut.ensures.value ∙ get_or_is old j at.0 own at.1 in
    let stands = subst (λ (x : StationState). RepresentsStation x at.2) (sym is) at.4 in
    on_err _ (station_stays old models j c.answer.new.station at.2 represent at.3
    (subst (λ (x : StationState). RepresentsStation x at.2) (sym c.in_err-answer.ensures.unmade)
    stands)))

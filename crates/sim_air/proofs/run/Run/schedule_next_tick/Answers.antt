use Rattle.std.proofs.Common.{◌≡◌, ◌∙◌, ap, sym, subst, Some, None, Option, cond, false, Bool}
use Rattle.std.proofs.Common.{true≢false}
use Rattle.std.specs.Prelude.{slice_get}
use Rattle.its_model.specs.Station.{StationModel}
use Rattle.its_world.proofs.Worlds.{get_station}
use Rattle.sim_queue.specs.Waiting.{happening_of}
use Rattle.sim_queue.specs.Keeps.{Keeps}
use Rattle.sim_air_model.specs.Timetable.{Timetable, is_refusal, tick_again, schedule_tick}
use Rattle.sim_air.proofs.Keeping.{beacon_same, no_model, either, found_some, found_none}
use Rattle.sim_air.proofs.Keeping.{tells_refusal, not_refused_is}
use Rattle.sim_air.proofs.run.Run.schedule_next_tick.Goals.{in-Refused, in_default}
use Rattle.sim_air.proofs.run.Run.schedule_next_tick.Goals as goal

pub returns-in_default-station-clause-tick : goal.returns-in_default-station-clause-tick
returns-in_default-station-clause-tick c = λ w t answer stands tells h.
    let run = c.args.self.now in
    let n = c.args.tick.now.station in
    let none : slice_get run.world.stations n ≡ None =
    found_none _ c.station.result _ c.station.ensures c.in_default-station.is in
    let gone : slice_get w.stations n ≡ None =
    no_model n run.world.stations w.stations stands.stations none in
    subst (λ (s : Option StationModel). Keeps run.queue run.draws
    (cond (is_refusal answer) t (tick_again (happening_of c.args.tick.now) s t))) (sym gone)
    (either (is_refusal answer) run.queue run.draws t h)

pub returns-clause-tick : goal.returns-clause-tick
returns-clause-tick c = λ w t answer stands tells h.
    let run = c.args.self.now in
    let n = c.args.tick.now.station in
    let st = c.in-Some.station.now in
    let at : slice_get run.world.stations n ≡ Some st =
    found_some _ c.station.result c.in-Some.station _ c.station.ensures c.in-Some.is in
    let s = get_station run.world.stations w.stations n st stands.stations at in
    let due : s.0.beacon_from ≡ c.beacon_from.result =
    beacon_same st s.0 s.2 ∙ sym c.beacon_from.ensures.value in
    let not_refused : is_refusal answer ≡ false =
    tells_refusal c.args.entry.now answer tells
    ∙ (elim c.match-matches.branch [
      | in-Refused v ↦ absurd (true≢false (sym v.matches-is ∙ c.if-matches.false))
      | in_default v ↦ not_refused_is c.args.entry.now v.in_default.not-Refused
    ]) in
    let same : schedule_tick n c.args.tick.now.moment c.beacon_from.result t
    ≡ cond (is_refusal answer) t (tick_again (happening_of c.args.tick.now) (slice_get w.stations n)
    t) =
    ap (λ b. schedule_tick n c.args.tick.now.moment b t) (sym due)
    ∙ ap (λ (o : Option StationModel). tick_again (happening_of c.args.tick.now) o t) (sym s.1)
    ∙ ap (λ (b : Bool). cond b t (tick_again (happening_of c.args.tick.now) (slice_get w.stations n)
    t))
    (sym not_refused) in
    subst (λ (v : Timetable). Keeps c.schedule_tick.new.queue c.schedule_tick.new.draws v) same
    (c.in_ok-schedule_tick.ensures.tick t h)

use Rattle.std.proofs.Common.{◌≡◌, ◌∙◌, ap, sym, List, [], ℕ, Some, None, Bool, cond, false, true}
use Rattle.std.proofs.Common.{refl, rules}
use Rattle.std.specs.Prelude.{slice_get}
use Rattle.std.specs.List.{filter}
use Rattle.its_gnvalue.specs.Values.{PositionVector}
use Rattle.its_station.specs.State.{StationState}
use Rattle.sim_queue.specs.Reach.{hearers}
use Rattle.sim_air_model.specs.Timetable.{hear_it, in_reach_of, is_present}
use Rattle.sim_air.proofs.Keeping.{hear_same, no_model, found_some, found_none}
use Rattle.sim_air.proofs.run.Run.find_hearers.Goals as goal

pub returns-then-not-is_present-clause-heard : goal.returns-then-not-is_present-clause-heard
returns-then-not-is_present-clause-heard c = λ w stands.
    let run = c.args.self.now in
    let n = c.args.giver in
    let away : is_present run.present.items n ≡ false = search rules in
    c.clear.ensures.items
    ∙ sym (ap (λ (b : Bool). cond b
    (filter (is_present run.present.items) (in_reach_of run.air.range w n)) []) away)

pub returns-in_default-clause-heard : goal.returns-in_default-clause-heard
returns-in_default-clause-heard c = λ w stands.
    let run = c.args.self.now in
    let n = c.args.giver in
    let none : slice_get run.world.stations n ≡ None =
    found_none _ c.station.result _ c.station.ensures c.in_default.is in
    let gone : slice_get w.stations n ≡ None =
    no_model n run.world.stations w.stations stands.stations none in
    let empty : in_reach_of run.air.range w n ≡ [] =
    ap (hear_it run.air.range w.stations n) gone in
    c.clear.ensures.items
    ∙ sym (ap (λ (l : List ℕ). cond (is_present run.present.items n)
    (filter (is_present run.present.items) l) []) empty ∙ either (is_present run.present.items n))
  where
    either : (b : Bool) → cond {A = List ℕ} b [] [] ≡ []
    either true = refl
    either false = refl

pub returns-clause-heard : goal.returns-clause-heard
returns-clause-heard c = λ w stands.
    let run = c.args.self.now in
    let n = c.args.giver in
    let st = c.in-Some.station.now in
    let there : is_present run.present.items n ≡ true = search rules in
    let at : slice_get run.world.stations n ≡ Some st =
    found_some _ c.station.result c.in-Some.station _ c.station.ensures c.in-Some.is in
    let found : c.find_hearers.new.found.items
    ≡ hearers run.air.range run.world.stations n st.vector.place =
    c.in_ok-find_hearers.ensures
    ∙ ap (λ (l : List StationState). hearers run.air.range l n c.place.result) c.stations.ensures
    ∙ ap (hearers run.air.range run.world.stations n)
    (c.place.ensures ∙ ap (λ (v : PositionVector). v.place) c.vector.ensures) in
    let reach : c.find_hearers.new.found.items ≡ in_reach_of run.air.range w n =
    found ∙ sym (hear_same run.air.range n st run.world.stations w.stations stands.stations at) in
    c.keep_present.ensures
    ∙ ap (λ (l : List Bool). filter (is_present l) c.find_hearers.new.found.items)
    c.as_slice-2.ensures.value
    ∙ ap (filter (is_present run.present.items)) reach
    ∙ ap (λ (b : Bool). cond b
    (filter (is_present run.present.items) (in_reach_of run.air.range w n)) []) (sym there)

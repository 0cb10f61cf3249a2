-- What waits, what was done and who is present, once the first that waits was taken.
use Rattle.std.proofs.Common.{◌≡◌, ℕ, ◌+◌, ◌%◌, ◌<◌, ◌≤◌, List, [], ◌∷◌, ◌++◌, refl, subst, ap}
use Rattle.std.proofs.Common.{◌∙◌, ◌⊎◌, inl, inr, sym}
use Rattle.std.proofs.lemmas.Bool.{cases_lt}
use Rattle.std.proofs.Common.{arith, length, All, Bool, true, false, cond, Option, Some, None}
use Rattle.std.specs.Prelude.{slice_get, slice_set, nat_lt, not, ◌&&◌, ◌==◌}
use Rattle.std.specs.List.{filter, AllByRecursion}
use Rattle.std.proofs.lemmas.List.Elements.{All-push}
use Rattle.std.proofs.lemmas.Option.{slice_get_past}
use Rattle.its_gnvalue.specs.Values.{Position}
use Rattle.its_model.specs.Station.{StationModel}
use Rattle.its_model.specs.Calls.Refusal.{NoSuchStation}
use Rattle.its_model.specs.World.{Config, Event, WorldModel, at_station, opening, passed_over}
use Rattle.its_model.specs.World.{world_run, world_step}
use Rattle.its_model.proofs.Lists.{length_set}
use Rattle.sim_air_model.specs.Range.{is_within}
use Rattle.sim_air.specs.Beside.{AreThere, InOrder, IsOwnOf, IsThere, station_of_pending}
use Rattle.sim_air_model.specs.Timetable.{Rules, Traffic, Pending, Planned, Timetable, AirModel}
use Rattle.sim_air_model.specs.Timetable.{by_file, draw, present_after}
use Rattle.sim_air_model.specs.Timetable.{draw_and_schedule, draw_alone, delivery, send, send_all}
use Rattle.sim_air_model.specs.Timetable.{tick}
use Rattle.sim_air_model.specs.Timetable.{schedule_tick, sending, schedule_send, is_present}
use Rattle.sim_air_model.specs.Timetable.{heard_from}
use Rattle.sim_air_model.specs.Timetable.{hear_it}
use Rattle.sim_air_model.specs.Timetable.{in_reach_of, heard_by, given, spread, spread_frame}
use Rattle.sim_air_model.specs.Timetable.{is_tick}
use Rattle.sim_air_model.specs.Timetable.{was_refused, tick_again, follow_tick, send_again}
use Rattle.sim_air_model.specs.Timetable.{none_waits}
use Rattle.sim_air_model.specs.Timetable.{is_tick_of, is_send_of, come_ticking, come_sending}
use Rattle.sim_air_model.specs.Timetable.{come_sending_all, come, comes, follow_all, after_one}
use Rattle.sim_air_model.specs.Timetable.{is_passed_over, do_one, take_one}
use Rattle.sim_air_model.specs.Timetable.{Filed, of_file}
use Rattle.sim_air_model.specs.Timetable.Filed.{Happens, Leaves}
use Rattle.sim_air_model.specs.Timetable.Pending.{Does, Departs}
use Rattle.sim_air.proofs.BesideOrder.{all_put}
use Rattle.sim_air.proofs.BesideLater.{one_after}
use Rattle.sim_air.proofs.BesideMade.{stations_of_run}

-- ---- who hears is there

heard_there : (range giver : ℕ) (place : Position) (n top : ℕ) (stations : List StationModel)
    → n + length stations ≡ top
    → AllByRecursion (λ j. j < top) (heard_from range giver place n stations)
heard_there range giver place n top [] is = tt
heard_there range giver place n top (s ∷ stations) is =
    by (not (n == giver) && is_within range place s.vector.place)
    (heard_there range giver place (n + 1) top stations (omega (arith, is)))
  where
    by : (b : Bool)
        → AllByRecursion (λ j. j < top) (heard_from range giver place (n + 1) stations)
        → AllByRecursion (λ j. j < top) (cond b
        (n ∷ heard_from range giver place (n + 1) stations)
        (heard_from range giver place (n + 1) stations))
    by true on = (omega (arith, is), on)
    by false on = on

all_filter : (P : ℕ → Type 0) (passes : ℕ → Bool) (xs : List ℕ) → AllByRecursion P xs
    → AllByRecursion P (filter passes xs)
all_filter P passes [] h = tt
all_filter P passes (x ∷ xs) h = by (passes x) (all_filter P passes xs h.1)
  where
    by : (b : Bool) → AllByRecursion P (filter passes xs)
        → AllByRecursion P (cond b (x ∷ filter passes xs) (filter passes xs))
    by true on = (h.0, on)
    by false on = on

hearers_there : (range : ℕ) (present : List Bool) (w : WorldModel) (giver : ℕ)
    → AllByRecursion (λ j. j < length w.stations) (heard_by range present w giver)
hearers_there range present w giver = by (is_present present giver)
  where
    in_reach : (o : Option StationModel)
        → AllByRecursion (λ j. j < length w.stations) (hear_it range w.stations giver o)
    in_reach None = tt
    in_reach (Some s) =
        heard_there range giver s.vector.place 0 (length w.stations) w.stations (omega arith)

    by : (b : Bool) → AllByRecursion (λ j. j < length w.stations)
        (cond b (filter (is_present present) (in_reach_of range w giver)) [])
    by true =
        all_filter (λ (j : ℕ). j < length w.stations) (is_present present)
        (in_reach_of range w giver) (in_reach (slice_get w.stations giver))
    by false = tt

-- ---- what waits

-- what is so of all that wait stays so
abbrev Keeping : (Pending → Type 0) → (Timetable → Timetable) → Type 0
Keeping P does = (t : Timetable) → AllByRecursion P t.waiting → AllByRecursion P (does t).waiting

either : (P : Pending → Type 0) (b : Bool) (t u : Timetable) → AllByRecursion P t.waiting
    → AllByRecursion P u.waiting → AllByRecursion P (cond b t u).waiting
either P true t u h g = h
either P false t u h g = g

sent_all : (P : Pending → Type 0) (loss k m : ℕ) (js : List ℕ)
    → AllByRecursion (λ j. P (Does (delivery k m j))) js → Keeping P (send_all loss k m js)
sent_all P loss k m [] each t h = h
sent_all P loss k m (j ∷ js) each t h =
    sent_all P loss k m js each.1 (send loss k m j t)
    (either P (nat_lt (draw t % 100) loss) (draw_alone t) (draw_and_schedule (delivery k m j) t) h
    (all_put P (Does (delivery k m j)) t.waiting each.0 h))

-- Of all that is put once an event was done: the ticks and sends of its station, and the
-- deliveries of the frame that it gave.
module _ (P : Pending → Type 0) (r : Rules) (present : List Bool) (p : Planned) (after : WorldModel)
    (ticks : (b j : ℕ) → P (Does (tick p.event.station p.event.moment b j)))
    (sends : (x : Traffic) (m : ℕ) → p.event.moment ≤ m
    → P (Does (sending x p.event.station m)))
    (deliveries : (k j : ℕ) → given after.log ≡ Some k → j < length after.stations
    → P (Does (delivery k (p.event.moment + r.delay) j))) where
  spread_all : Keeping P (spread r present p.event after)
  spread_all t h = by (given after.log) refl
    where
      each : (k : ℕ) → given after.log ≡ Some k → (js : List ℕ)
          → AllByRecursion (λ j. j < length after.stations) js
          → AllByRecursion (λ j. P (Does (delivery k (p.event.moment + r.delay) j))) js
      each k is [] all = tt
      each k is (j ∷ js) all = (deliveries k j is all.0, each k is js all.1)

      by : (o : Option ℕ) → given after.log ≡ o
          → AllByRecursion P (spread_frame r present p.event after o t).waiting
      by None is = h
      by (Some k) is =
          let js = heard_by r.range present after p.event.station in
          sent_all P r.loss k (p.event.moment + r.delay) js
          (each k is js (hearers_there r.range present after p.event.station)) t h

  tick_all : (b : ℕ) → Keeping P (schedule_tick p.event.station p.event.moment b)
  tick_all b t h =
      all_put P (Does (tick p.event.station p.event.moment b (draw t % 751))) t.waiting
      (ticks b (draw t % 751)) h

  followed_all : Keeping P (follow_tick p after)
  followed_all t h =
      either P (p.own && (is_tick p.event.what && not (was_refused after.log)))
      (tick_again p.event (slice_get after.stations p.event.station) t) t
      (by (slice_get after.stations p.event.station)) h
    where
      by : (o : Option StationModel) → AllByRecursion P (tick_again p.event o t).waiting
      by None = h
      by (Some s) = tick_all s.beacon_from t h

  again_all : (o : Option Traffic) → Keeping P (send_again p.event o)
  again_all None t h = h
  again_all (Some x) t h =
      all_put P (Does (sending x p.event.station (p.event.moment + x.period))) t.waiting
      (sends x (p.event.moment + x.period) (omega arith)) h

  sending_all : (every : List Traffic)
      → Keeping P (come_sending_all every p.event.station p.event.moment)
  sending_all [] t h = h
  sending_all (x ∷ every) t h =
      let n = p.event.station in
      let m = p.event.moment in
      sending_all every (come_sending x n m t)
      (either P (none_waits (is_send_of x.number n) t) (schedule_send x n m t) t
      (all_put P (Does (sending x n (m + draw t % x.period))) t.waiting
      (sends x (m + draw t % x.period) (omega arith)) h) h)

  come_all : Keeping P (come r p.event.station p.event.moment)
  come_all t h =
      let n = p.event.station in
      let m = p.event.moment in
      sending_all r.every (come_ticking r.beacons n m t)
      (either P (r.beacons && none_waits (is_tick_of n) t) (schedule_tick n m m t) t
      (tick_all m t h) h)

  after_all : Keeping P (after_one r present p after)
  after_all t h =
      let s = spread r present p.event after t in
      let u = follow_all r present p after t in
      let g : AllByRecursion P u.waiting = again_all p.traffic (follow_tick p after s)
      (followed_all s (spread_all t h)) in
      either P (comes present p.event after) (come r p.event.station p.event.moment u) u
      (come_all u g) g

-- What is so of all that wait is so of all that wait once one was taken, if it is so of each tick
-- and each send of its station, and of each delivery of the frame that was given then.
pub taken_all : (P : Pending → Type 0) (r : Rules) (configs : List Config) (a : AirModel)
    (p : Planned) (t : Timetable)
    → ((b j : ℕ) → P (Does (tick p.event.station p.event.moment b j)))
    → ((x : Traffic) (m : ℕ) → p.event.moment ≤ m → P (Does (sending x p.event.station m)))
    → ((k j : ℕ) → given (world_run (opening configs) (a.done ++ p.event ∷ [])).log ≡ Some k
    → j < length configs → P (Does (delivery k (p.event.moment + r.delay) j)))
    → AllByRecursion P t.waiting
    → AllByRecursion P (take_one r configs a (Does p) t).timetable.waiting
taken_all P r configs a p t ticks sends deliveries h = by (is_passed_over a.present p)
  where
    by : (b : Bool) → AllByRecursion P (cond b
        (record { done = a.done; timetable = t; present = a.present })
        (do_one r configs a p t)).timetable.waiting
    by true = h
    by false =
        after_all P r a.present p (world_run (opening configs) (a.done ++ p.event ∷ [])) ticks
        sends
        (λ k j is lt. deliveries k j is
        (subst (λ (n : ℕ). j < n) (stations_of_run configs (a.done ++ p.event ∷ [])) lt)) t h

-- what waits is the air's own, of stations that are there
pub taken_own : (r : Rules) (configs : List Config) (a : AirModel) (p : Pending) (t : Timetable)
    → station_of_pending p < length configs → AllByRecursion (IsOwnOf configs) t.waiting
    → AllByRecursion (IsOwnOf configs) (take_one r configs a p t).timetable.waiting
taken_own r configs a (Departs station moment) t lt h = h
taken_own r configs a (Does p) t lt h =
    taken_all (IsOwnOf configs) r configs a p t (λ b j. (refl, lt)) (λ x m le. (refl, lt))
    (λ k j is there. (refl, there)) h

-- ---- an event of a station that isn't there

run_push : (es : List Event) (w : WorldModel) (e : Event)
    → world_run w (es ++ e ∷ []) ≡ world_step (world_run w es) e
run_push [] w e = refl
run_push (x ∷ es) w e = run_push es (world_step w x) e

-- the world refuses it
refused_away : (configs : List Config) (es : List Event) (e : Event)
    → length configs ≤ e.station
    → world_run (opening configs) (es ++ e ∷ [])
    ≡ passed_over (world_run (opening configs) es) e NoSuchStation
refused_away configs es e le =
    let w = world_run (opening configs) es in
    let many = stations_of_run configs es in
    run_push es (opening configs) e
    ∙ ap (at_station w e) (slice_get_past w.stations e.station (omega (arith, le, many)))

-- nothing follows it
pub taken_away : (r : Rules) (configs : List Config) (a : AirModel) (e : Event) (t : Timetable)
    → length configs ≤ e.station
    → take_one r configs a (Does (by_file e)) t
    ≡ record { done = a.done ++ e ∷ []; timetable = t; present = a.present }
taken_away r configs a e t le =
    ap (λ (w : WorldModel). record {
      done = a.done ++ e ∷ [];
      timetable = after_one r a.present (by_file e) w t;
      present = present_after a.present e w;
    }) (refused_away configs a.done e le)

-- ---- what waits is in order

-- what comes leaves only the air's own waiting, of stations that are there
pub coming_own : (r : Rules) (configs : List Config) (a : AirModel) (f : Filed) (t : Timetable)
    → AllByRecursion (IsOwnOf configs) t.waiting
    → AllByRecursion (IsOwnOf configs) (take_one r configs a (of_file f) t).timetable.waiting
coming_own r configs a (Leaves station moment) t h = h
coming_own r configs a (Happens e) t h = either (cases_lt e.station (length configs))
  where
    either : (e.station < length configs) ⊎ (length configs ≤ e.station)
        → AllByRecursion (IsOwnOf configs)
        (take_one r configs a (Does (by_file e)) t).timetable.waiting
    either (inl lt) = taken_own r configs a (Does (by_file e)) t lt h
    either (inr le) =
        subst (λ (x : AirModel). AllByRecursion (IsOwnOf configs) x.timetable.waiting)
        (sym (taken_away r configs a e t le)) h

-- it waits in order
pub taken_in_order : (r : Rules) (configs : List Config) (a : AirModel) (p : Pending)
    (t : Timetable) → InOrder t.waiting
    → InOrder (take_one r configs a p t).timetable.waiting
taken_in_order r configs a (Departs station moment) t h = h
taken_in_order r configs a (Does p) t h = by (is_passed_over a.present p)
  where
    by : (b : Bool) → InOrder (cond b
        (record { done = a.done; timetable = t; present = a.present })
        (do_one r configs a p t)).timetable.waiting
    by true = h
    by false =
        (one_after [] r a.present p
        (world_run (opening configs) (a.done ++ p.event ∷ []))).order t h

-- ---- what was done

pub taken_there : (grows : Bool) (r : Rules) (configs : List Config) (a : AirModel) (p : Pending)
    (t : Timetable) → IsThere grows (length configs) (station_of_pending p)
    → AreThere grows configs a.done → AreThere grows configs (take_one r configs a p t).done
taken_there false r configs a p t lt h = tt
taken_there true r configs a (Departs station moment) t lt h = h
taken_there true r configs a (Does p) t lt h = by (is_passed_over a.present p)
  where
    by : (b : Bool) → All (λ e. e.station < length configs) (cond b
        (record { done = a.done; timetable = t; present = a.present })
        (do_one r configs a p t)).done
    by true = h
    by false = All-push (λ (e : Event). e.station < length configs) a.done p.event h lt

-- ---- who is present

pub taken_present : (r : Rules) (configs : List Config) (a : AirModel) (p : Pending)
    (t : Timetable) → length (take_one r configs a p t).present ≡ length a.present
taken_present r configs a (Departs station moment) t = length_set a.present station false
taken_present r configs a (Does p) t = by (is_passed_over a.present p)
  where
    w : WorldModel
    w = world_run (opening configs) (a.done ++ p.event ∷ [])

    came : (b : Bool)
        → length (cond b (slice_set a.present p.event.station true) a.present)
        ≡ length a.present
    came true = length_set a.present p.event.station true
    came false = refl

    by : (b : Bool) → length (cond b
        (record { done = a.done; timetable = t; present = a.present })
        (do_one r configs a p t)).present ≡ length a.present
    by true = refl
    by false = came (comes a.present p.event w)

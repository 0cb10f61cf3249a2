-- Stations that are made later, and are absent until they come, change nothing of what is done.
use Rattle.std.proofs.Common.{◌≡◌, ℕ, zero, suc, ◌+◌, ◌<◌, ◌≤◌, List, [], ◌∷◌, ◌++◌, refl, sym}
use Rattle.std.proofs.Common.{ap, ◌∙◌, arith, length, map, All, Bool, true, false, cond, Option}
use Rattle.std.proofs.Common.{Some, None, append_assoc, append-nil}
use Rattle.std.specs.Prelude.{slice_get, slice_set, not, ◌&&◌, ◌==◌}
use Rattle.std.specs.List.{filter}
use Rattle.std.proofs.lemmas.List.{length-append, length-map}
use Rattle.its_gnvalue.specs.Values.{Position}
use Rattle.its_model.specs.Station.{StationModel}
use Rattle.its_model.specs.World.{Config, Event, WorldModel, station_of, opening}
use Rattle.its_model.specs.World.{world_run, world_step}
use Rattle.its_world.proofs.Late.{get_before, set_before, length_step, were_there}
use Rattle.sim_air_model.specs.Range.{is_within}
use Rattle.sim_air.specs.Beside.{absent, rules_beside}
use Rattle.sim_air_model.specs.Timetable.{Rules, Planned, Timetable, is_present, heard_from}
use Rattle.sim_air_model.specs.Timetable.{hear_it}
use Rattle.sim_air_model.specs.Timetable.{in_reach_of, heard_by, given, spread, spread_frame}
use Rattle.sim_air_model.specs.Timetable.{send_all}
use Rattle.sim_air_model.specs.Timetable.{is_tick, was_refused, was_moved, tick_again, follow_tick}
use Rattle.sim_air_model.specs.Timetable.{send_again, follow_all, comes, come, after_one}
use Rattle.sim_air_model.specs.Timetable.{present_after}
use Rattle.sim_air_model.specs.Timetable.{is_passed_over, is_delivery}

-- ---- the world

-- with stations of these configs behind all others, to which nothing happened yet
abbrev pub with_made : WorldModel → List Config → WorldModel
with_made w made =
    record { stations = w.stations ++ map station_of made; air = w.air; log = w.log }

-- as many stations as configs
pub stations_of_run : (configs : List Config) (events : List Event)
    → length (world_run (opening configs) events).stations ≡ length configs
stations_of_run configs events =
    run_as_many (opening configs) events ∙ length-map configs station_of
  where
    run_as_many : (w : WorldModel) (es : List Event)
        → length (world_run w es).stations ≡ length w.stations
    run_as_many w [] = refl
    run_as_many w (e ∷ es) = run_as_many (world_step w e) es ∙ length_step w e

-- a station that is there is there beside more
pub still_there : (n : ℕ) (configs made : List Config) → n < length configs
    → n < length (configs ++ made)
still_there n configs made lt = let is = length-append configs made in omega (arith, is, lt)

pub run_made : (configs made : List Config) (events : List Event)
    → All (λ e. e.station < length configs) events
    → world_run (opening (configs ++ made)) events
    ≡ with_made (world_run (opening configs) events) made
run_made configs [] events h =
    ap (λ (l : List Config). world_run (opening l) events) (append-nil configs)
    ∙ ap (λ (l : List StationModel). record {
      stations = l;
      air = (world_run (opening configs) events).air;
      log = (world_run (opening configs) events).log;
    }) (sym (append-nil (world_run (opening configs) events).stations))
run_made configs (c ∷ made) events h =
    let w = world_run (opening configs) events in
    ap (λ (l : List Config). world_run (opening l) events)
    (sym (append_assoc configs (c ∷ []) made))
    ∙ run_made (configs ++ c ∷ []) made events
    (λ k d lt. still_there _ configs (c ∷ []) (h k d lt))
    ∙ ap (λ (x : WorldModel). with_made x made) (were_there configs c events h)
    ∙ ap (λ (l : List StationModel). record { stations = l; air = w.air; log = w.log })
    (append_assoc w.stations (station_of c ∷ []) (map station_of made))

-- ---- presence

absent_is : (made : List Config) (n : ℕ) → is_present (absent made) n ≡ false
absent_is [] n = refl
absent_is (c ∷ made) zero = refl
absent_is (c ∷ made) (suc n) = absent_is made n

pub present_made : (present : List Bool) (made : List Config) (n : ℕ)
    → is_present (present ++ absent made) n ≡ is_present present n
present_made [] made n = absent_is made n
present_made (b ∷ present) made zero = refl
present_made (b ∷ present) made (suc n) = present_made present made n

pub not_present : (present : List Bool) (n : ℕ) → length present ≤ n
    → is_present present n ≡ false
not_present [] n le = refl
not_present (b ∷ present) zero le = absurd (omega (arith, le))
not_present (b ∷ present) (suc n) le = not_present present n (omega (arith, le))

same_presence : (present : List Bool) (made : List Config)
    → is_present (present ++ absent made) ≡ is_present present
same_presence present made = λ i n. present_made present made n i

-- ---- who hears

-- of stations none of which passes none is left
none_passes : (passes : ℕ → Bool) (range giver : ℕ) (place : Position) (n : ℕ)
    (stations : List StationModel) → ((k : ℕ) → n ≤ k → passes k ≡ false)
    → filter passes (heard_from range giver place n stations) ≡ []
none_passes passes range giver place n [] none = refl
none_passes passes range giver place n (s ∷ stations) none =
    by (not (n == giver) && is_within range place s.vector.place)
    (none_passes passes range giver place (n + 1) stations (λ k le. none k (omega (arith, le))))
  where
    by : (b : Bool) → filter passes (heard_from range giver place (n + 1) stations) ≡ []
        → filter passes (cond b (n ∷ heard_from range giver place (n + 1) stations)
        (heard_from range giver place (n + 1) stations)) ≡ []
    by true on =
        ap (λ (b : Bool). cond b
        (n ∷ filter passes (heard_from range giver place (n + 1) stations))
        (filter passes (heard_from range giver place (n + 1) stations)))
        (none n (omega arith)) ∙ on
    by false on = on

-- more stations behind, none of which passes
heard_more : (passes : ℕ → Bool) (range giver : ℕ) (place : Position) (n : ℕ)
    (stations more : List StationModel)
    → ((k : ℕ) → n + length stations ≤ k → passes k ≡ false)
    → filter passes (heard_from range giver place n (stations ++ more))
    ≡ filter passes (heard_from range giver place n stations)
heard_more passes range giver place n [] more none =
    none_passes passes range giver place n more
    (λ k le. none k (omega (arith, le)))
heard_more passes range giver place n (s ∷ stations) more none =
    by (not (n == giver) && is_within range place s.vector.place)
    (heard_more passes range giver place (n + 1) stations more
    (λ k le. none k (omega (arith, le))))
  where
    us : List ℕ
    us = heard_from range giver place (n + 1) (stations ++ more)

    vs : List ℕ
    vs = heard_from range giver place (n + 1) stations

    by : (b : Bool) → filter passes us ≡ filter passes vs
        → filter passes (cond b (n ∷ us) us) ≡ filter passes (cond b (n ∷ vs) vs)
    by true on = ap (λ (l : List ℕ). cond (passes n) (n ∷ l) l) on
    by false on = on

reach_more : (passes : ℕ → Bool) (range giver : ℕ) (stations more : List StationModel)
    → ((k : ℕ) → length stations ≤ k → passes k ≡ false) → giver < length stations
    → filter passes (hear_it range (stations ++ more) giver (slice_get (stations ++ more) giver))
    ≡ filter passes (hear_it range stations giver (slice_get stations giver))
reach_more passes range giver stations more none lt =
    ap (λ (o : Option StationModel). filter passes (hear_it range (stations ++ more) giver o))
    (get_before stations more giver lt)
    ∙ by (slice_get stations giver)
  where
    by : (o : Option StationModel) → filter passes (hear_it range (stations ++ more) giver o)
        ≡ filter passes (hear_it range stations giver o)
    by None = refl
    by (Some s) =
        heard_more passes range giver s.vector.place 0 stations more
        (λ k le. none k (omega (arith, le)))

heard_made : (range : ℕ) (present : List Bool) (w : WorldModel) (made : List Config) (giver : ℕ)
    → length present ≡ length w.stations → giver < length w.stations
    → heard_by range (present ++ absent made) (with_made w made) giver
    ≡ heard_by range present w giver
heard_made range present w made giver long lt =
    ap (λ (f : ℕ → Bool). cond (f giver)
    (filter f (in_reach_of range (with_made w made) giver)) [])
    (same_presence present made)
    ∙ ap (λ (l : List ℕ). cond (is_present present giver) l [])
    (reach_more (is_present present) range giver w.stations (map station_of made)
    (λ k le. not_present present k (omega (arith, le, long))) lt)

-- ---- an event is done

module _ (made : List Config) (until : ℕ) (r : Rules) (present : List Bool) (p : Planned)
    (w : WorldModel) (long : length present ≡ length w.stations)
    (there : p.event.station < length w.stations) where
  spread_made : (t : Timetable)
      → spread (rules_beside made until r) (present ++ absent made) p.event (with_made w made) t
      ≡ spread r present p.event w t
  spread_made t = by (given w.log)
    where
      by : (o : Option ℕ)
          → spread_frame (rules_beside made until r) (present ++ absent made) p.event
          (with_made w made) o t
          ≡ spread_frame r present p.event w o t
      by None = refl
      by (Some k) =
          ap (λ (js : List ℕ). send_all r.loss k (p.event.moment + r.delay) js t)
          (heard_made r.range present w made p.event.station long there)

  tick_made : (t : Timetable) → follow_tick p (with_made w made) t ≡ follow_tick p w t
  tick_made t =
      ap (λ (o : Option StationModel). cond
      (p.own && (is_tick p.event.what && not (was_refused w.log))) (tick_again p.event o t) t)
      (get_before w.stations (map station_of made) p.event.station there)

  follow_made : (t : Timetable)
      → follow_all (rules_beside made until r) (present ++ absent made) p (with_made w made) t
      ≡ follow_all r present p w t
  follow_made t =
      ap (λ (u : Timetable). send_again p.event p.traffic (follow_tick p (with_made w made) u))
      (spread_made t)
      ∙ ap (send_again p.event p.traffic) (tick_made (spread r present p.event w t))

  comes_made : comes (present ++ absent made) p.event (with_made w made)
      ≡ comes present p.event w
  comes_made =
      ap (λ (b : Bool). was_moved w.log && not b) (present_made present made p.event.station)

  pub after_made : (t : Timetable)
      → after_one (rules_beside made until r) (present ++ absent made) p (with_made w made) t
      ≡ after_one r present p w t
  after_made t =
      ap (λ (u : Timetable). cond (comes (present ++ absent made) p.event (with_made w made))
      (come r p.event.station p.event.moment u) u) (follow_made t)
      ∙ ap (λ (b : Bool). cond b
      (come r p.event.station p.event.moment (follow_all r present p w t))
      (follow_all r present p w t)) comes_made

  pub presence_made : present_after (present ++ absent made) p.event (with_made w made)
      ≡ present_after present p.event w ++ absent made
  presence_made =
      ap (λ (b : Bool). cond b (slice_set (present ++ absent made) p.event.station true)
      (present ++ absent made)) comes_made
      ∙ by (comes present p.event w)
    where
      by : (b : Bool)
          → cond b (slice_set (present ++ absent made) p.event.station true)
          (present ++ absent made)
          ≡ cond b (slice_set present p.event.station true) present ++ absent made
      by true =
          set_before present (absent made) p.event.station true (omega (arith, long, there))
      by false = refl

pub passed_made : (present : List Bool) (made : List Config) (p : Planned)
    → is_passed_over (present ++ absent made) p ≡ is_passed_over present p
passed_made present made p =
    ap (λ (b : Bool). p.own && (not (is_delivery p.event.what) && not b))
    (present_made present made p.event.station)

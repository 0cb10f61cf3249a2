-- The air delivers each frame to a station at most once.
use Rattle.std.proofs.Common.{◌≡◌, ◌≢◌, ℕ, zero, suc, ◌+◌, ◌≤◌, ◌<◌, List, [], ◌∷◌, refl, ap}
use Rattle.std.proofs.Common.{◌∙◌, arith, Bool, true, false, cond, subst, Option, Some, None}
use Rattle.std.proofs.Common.{◌⊎◌, inl, inr, length, map, zero-add}
use Rattle.std.specs.Prelude.{nat_le, nat_lt, ◌%◌, ◌-◌, slice_get, not, ◌&&◌, ◌==◌}
use Rattle.std.specs.List.{filter}
use Rattle.std.proofs.lemmas.Bool.{cases_lt}
use Rattle.its_gnvalue.specs.Values.{Position}
use Rattle.its_model.specs.Station.{StationModel}
use Rattle.its_model.specs.World.{Config, Event, What, WorldModel, opening, world_run}
use Rattle.its_model.specs.World.What.{Calls, Deliver}
use Rattle.its_model.proofs.NumberTests.{eqb_same, eq_test}
use Rattle.sim_air_model.specs.Carried.{world_at}
use Rattle.sim_air_model.specs.Heard.{air_at, IsDone, world_after, DeliversOnce}
use Rattle.sim_air_model.specs.Range.{is_within}
use Rattle.sim_air_model.specs.Timetable.{Rules, Planned, Timetable, AirModel, schedule}
use Rattle.sim_air_model.specs.Timetable.{schedule_all}
use Rattle.sim_air_model.specs.Timetable.{draw, of_file}
use Rattle.sim_air_model.specs.Timetable.{draw_alone, draw_and_schedule, delivery, send, send_all}
use Rattle.sim_air_model.specs.Timetable.{given}
use Rattle.sim_air_model.specs.Timetable.{spread, spread_frame, heard_by, heard_from, hear_it}
use Rattle.sim_air_model.specs.Timetable.{in_reach_of, tick, is_tick, was_refused}
use Rattle.sim_air_model.specs.Timetable.{schedule_first_ticks}
use Rattle.sim_air_model.specs.Timetable.{schedule_tick}
use Rattle.sim_air_model.specs.Timetable.{tick_again, follow_tick, with_file, with_ticks}
use Rattle.sim_air_model.specs.Timetable.{schedule_traffic}
use Rattle.sim_air_model.specs.Timetable.{schedule_send, is_present, Traffic, sending, send_again}
use Rattle.sim_air_model.specs.Timetable.{schedule_first_sends, after_one, follow_all, comes, come}
use Rattle.sim_air_model.specs.Timetable.{come_ticking, come_sending, come_sending_all, none_waits}
use Rattle.sim_air_model.specs.Timetable.{is_tick_of, is_send_of, at, Pending, Filed}
use Rattle.sim_air_model.specs.Timetable.Pending.{Does, Departs}
use Rattle.sim_air_model.specs.Timetable.Filed.{Happens, Leaves}
use Rattle.sim_air_model.proofs.InLine.{frames_in, next_frame}
use Rattle.sim_air_model.proofs.Lasting.{IsDropped, step_case, step_does, rest_of}
use Rattle.sim_air_model.proofs.Logs.{world_next}

-- ---- what waits

abbrev is_of : ℕ → What → Bool
is_of k (Calls call) = false
is_of k (Deliver frame) = frame == k

-- a delivery of the air's own of frame k to station j
abbrev is_it : ℕ → ℕ → Pending → Bool
is_it k j (Does p) = p.own && (is_of k p.event.what && (p.event.station == j))
is_it k j (Departs station moment) = false

abbrev bit : Bool → ℕ
bit b = cond b 1 0

-- how many of them wait
abbrev count : ℕ → ℕ → List Pending → ℕ
count k j [] = 0
count k j (p ∷ ws) = bit (is_it k j p) + count k j ws

count_put : (k j : ℕ) (p : Pending) (ws : List Pending)
    → count k j (schedule p ws) ≡ bit (is_it k j p) + count k j ws
count_put k j p [] = refl
count_put k j p (q ∷ ws) = by (nat_le (at q) (at p)) (count_put k j p ws)
  where
    by : (b : Bool) → count k j (schedule p ws) ≡ bit (is_it k j p) + count k j ws
        → count k j (cond b (q ∷ schedule p ws) (p ∷ q ∷ ws))
        ≡ bit (is_it k j p) + count k j (q ∷ ws)
    by true more = omega (arith, more)
    by false more = refl

-- another one that is put doesn't count
schedule_other : (k j : ℕ) (p : Pending) (ws : List Pending) → is_it k j p ≡ false
    → count k j (schedule p ws) ≡ count k j ws
schedule_other k j p ws other =
    count_put k j p ws ∙ ap (λ (b : Bool). bit b + count k j ws) other ∙ zero-add (count k j ws)

-- one of two
either : (k j n : ℕ) (b : Bool) (t u : Timetable) → count k j t.waiting ≡ n
    → count k j u.waiting ≡ n → count k j (cond b t u).waiting ≡ n
either k j n true t u h g = h
either k j n false t u h g = g

-- ---- ticks and sends

tick_none : (k j n m b : ℕ) (t : Timetable)
    → count k j (schedule_tick n m b t).waiting ≡ count k j t.waiting
tick_none k j n m b t = schedule_other k j (Does (tick n m b (draw t % 751))) t.waiting refl

ticks_none : (k j : ℕ) (present : List Bool) (n : ℕ) (t : Timetable)
    → count k j (schedule_first_ticks present n t).waiting ≡ count k j t.waiting
ticks_none k j present zero t = refl
ticks_none k j present (suc n) t =
    let u = schedule_first_ticks present n t in
    let same = ticks_none k j present n t in
    either k j (count k j t.waiting) (is_present present n) (schedule_tick n 0 0 u) u
    (tick_none k j n 0 0 u ∙ same) same

again_none : (k j : ℕ) (e : Event) (s : Option StationModel) (t : Timetable)
    → count k j (tick_again e s t).waiting ≡ count k j t.waiting
again_none k j e None t = refl
again_none k j e (Some s) t = tick_none k j e.station e.moment s.beacon_from t

send_none : (k j : ℕ) (x : Traffic) (n m : ℕ) (t : Timetable)
    → count k j (schedule_send x n m t).waiting ≡ count k j t.waiting
send_none k j x n m t =
    schedule_other k j (Does (sending x n (m + draw t % x.period))) t.waiting refl

first_sends_none : (k j : ℕ) (present : List Bool) (x : Traffic) (n : ℕ) (t : Timetable)
    → count k j (schedule_first_sends present x n t).waiting ≡ count k j t.waiting
first_sends_none k j present x zero t = refl
first_sends_none k j present x (suc n) t =
    let u = schedule_first_sends present x n t in
    let same = first_sends_none k j present x n t in
    either k j (count k j t.waiting) (is_present present n) (schedule_send x n 0 u) u
    (send_none k j x n 0 u ∙ same) same

traffic_none : (k j : ℕ) (present : List Bool) (every : List Traffic) (n : ℕ) (t : Timetable)
    → count k j (schedule_traffic present every n t).waiting ≡ count k j t.waiting
traffic_none k j present [] n t = refl
traffic_none k j present (x ∷ every) n t =
    traffic_none k j present every n (schedule_first_sends present x n t)
    ∙ first_sends_none k j present x n t

next_send_none : (k j : ℕ) (e : Event) (o : Option Traffic) (t : Timetable)
    → count k j (send_again e o t).waiting ≡ count k j t.waiting
next_send_none k j e None t = refl
next_send_none k j e (Some x) t =
    schedule_other k j (Does (sending x e.station (e.moment + x.period))) t.waiting refl

come_none : (k j : ℕ) (every : List Traffic) (n m : ℕ) (t : Timetable)
    → count k j (come_sending_all every n m t).waiting ≡ count k j t.waiting
come_none k j [] n m t = refl
come_none k j (x ∷ every) n m t =
    come_none k j every n m (come_sending x n m t)
    ∙ either k j (count k j t.waiting) (none_waits (is_send_of x.number n) t)
    (schedule_send x n m t) t
    (send_none k j x n m t) refl

-- all that follows an event once its frame was spread
after_none : (k j : ℕ) (r : Rules) (present : List Bool) (p : Planned) (after : WorldModel)
    (t : Timetable)
    → count k j (after_one r present p after t).waiting
    ≡ count k j (spread r present p.event after t).waiting
after_none k j r present p after t =
    let n = p.event.station in
    let m = p.event.moment in
    let s = spread r present p.event after t in
    let u = follow_all r present p after t in
    let v = follow_tick p after s in
    let same : count k j u.waiting ≡ count k j s.waiting =
    next_send_none k j p.event p.traffic v
    ∙ either k j (count k j s.waiting)
    (p.own && (is_tick p.event.what && not (was_refused after.log)))
    (tick_again p.event (slice_get after.stations n) s) s
    (again_none k j p.event (slice_get after.stations n) s) refl in
    either k j (count k j s.waiting) (comes present p.event after) (come r n m u) u
    (come_none k j r.every n m (come_ticking r.beacons n m u)
    ∙ either k j (count k j u.waiting) (r.beacons && none_waits (is_tick_of n) u)
    (schedule_tick n m m u) u (tick_none k j n m m u) refl
    ∙ same) same

file_none : (k j : ℕ) (es : List Filed) (ws : List Pending)
    → count k j (schedule_all (map of_file es) ws) ≡ count k j ws
file_none k j [] ws = refl
file_none k j (Happens e ∷ es) ws =
    file_none k j es (schedule (of_file (Happens e)) ws)
    ∙ schedule_other k j (of_file (Happens e)) ws refl
file_none k j (Leaves station moment ∷ es) ws =
    file_none k j es (schedule (Departs station moment) ws)
    ∙ schedule_other k j (Departs station moment) ws refl

-- ---- deliveries

-- how often station j is among these
abbrev times : ℕ → List ℕ → ℕ
times j [] = 0
times j (s ∷ js) = bit (s == j) + times j js

times_filter : (j : ℕ) (p : ℕ → Bool) (js : List ℕ) → times j (filter p js) ≤ times j js
times_filter j p [] = omega arith
times_filter j p (s ∷ js) = by (p s) (times_filter j p js)
  where
    by : (b : Bool) → times j (filter p js) ≤ times j js
        → times j (cond b (s ∷ filter p js) (filter p js)) ≤ times j (s ∷ js)
    by true le = omega (arith, le)
    by false le = omega (arith, le)

-- of those that are numbered from n on, each is one
from_once : (range j giver : ℕ) (place : Position) (n : ℕ) (stations : List StationModel)
    → (times j (heard_from range giver place n stations) ≤ 1)
    × (j < n → times j (heard_from range giver place n stations) ≡ 0)
from_once range j giver place n [] = (omega arith, λ lt. refl)
from_once range j giver place n (s ∷ stations) =
    by (not (n == giver) && is_within range place s.vector.place) (eq_test n j)
    (from_once range j giver place (n + 1) stations)
  where
    js : List ℕ
    js = heard_from range giver place (n + 1) stations

    by : (b : Bool) → (((n == j) ≡ true) × (n ≡ j)) ⊎ (((n == j) ≡ false) × (n ≢ j))
        → (times j js ≤ 1) × (j < n + 1 → times j js ≡ 0)
        → (times j (cond b (n ∷ js) js) ≤ 1) × (j < n → times j (cond b (n ∷ js) js) ≡ 0)
    by false test more = (more.0, λ lt. more.1 (omega (arith, lt)))
    by true (inl test) more =
        let is = test.1 in
        let one = ap bit test.0 in
        let none = more.1 (omega (arith, is)) in
        (omega (arith, one, none), λ lt. absurd (omega (arith, lt, is)))
    by true (inr test) more =
        let zero' = ap bit test.0 in
        let le = more.0 in (
          omega (arith, zero', le),
          λ lt. (let none = more.1 (omega (arith, lt)) in omega (arith, zero', none)),
        )

in_reach_once : (range j giver : ℕ) (stations : List StationModel) (s : Option StationModel)
    → times j (hear_it range stations giver s) ≤ 1
in_reach_once range j giver stations None = omega arith
in_reach_once range j giver stations (Some s) =
    (from_once range j giver s.vector.place 0 stations).0

heard_once : (range j : ℕ) (present : List Bool) (w : WorldModel) (giver : ℕ)
    → times j (heard_by range present w giver) ≤ 1
heard_once range j present w giver = by (is_present present giver)
  where
    js : List ℕ
    js = in_reach_of range w giver

    by : (b : Bool) → times j (cond b (filter (is_present present) js) []) ≤ 1
    by true =
        let le = times_filter j (is_present present) js in
        let one = in_reach_once range j giver w.stations (slice_get w.stations giver) in
        omega (arith, le, one)
    by false = omega arith

-- a frame comes to each of them at most as often as it is among them
sent_few : (k j loss f m : ℕ) (js : List ℕ) (t : Timetable)
    → count k j (send_all loss f m js t).waiting ≤ times j js + count k j t.waiting
sent_few k j loss f m [] t = omega arith
sent_few k j loss f m (s ∷ js) t =
    let more = sent_few k j loss f m js (send loss f m s t) in
    let one = one_few (nat_lt (draw t % 100) loss) in
    omega (arith, more, one)
  where
    both : (b c : Bool) → bit (b && c) ≤ bit c
    both true c = omega arith
    both false true = omega arith
    both false false = omega arith

    one_few : (b : Bool)
        → count k j (cond b (draw_alone t) (draw_and_schedule (delivery f m s) t)).waiting
        ≤ bit (s == j) + count k j t.waiting
    one_few true = omega arith
    one_few false =
        let schedule' = count_put k j (Does (delivery f m s)) t.waiting in
        let le = both (f == k) (s == j) in
        omega (arith, schedule', le)

-- another frame isn't this one
sent_none : (k j loss f m : ℕ) (js : List ℕ) (t : Timetable) → (f == k) ≡ false
    → count k j (send_all loss f m js t).waiting ≡ count k j t.waiting
sent_none k j loss f m [] t other = refl
sent_none k j loss f m (s ∷ js) t other =
    sent_none k j loss f m js (send loss f m s t) other
    ∙ either k j (count k j t.waiting) (nat_lt (draw t % 100) loss) (draw_alone t)
    (draw_and_schedule (delivery f m s) t) refl
    (schedule_other k j (Does (delivery f m s)) t.waiting (ap (λ (b : Bool). b && (s == j)) other))

spread_few : (k j : ℕ) (r : Rules) (present : List Bool) (e : Event) (after : WorldModel)
    (o : Option ℕ) (t : Timetable)
    → count k j (spread_frame r present e after o t).waiting ≤ 1 + count k j t.waiting
spread_few k j r present e after None t = omega arith
spread_few k j r present e after (Some f) t =
    let js = heard_by r.range present after e.station in
    let few = sent_few k j r.loss f (e.moment + r.delay) js t in
    let once = heard_once r.range j present after e.station in
    omega (arith, few, once)

spread_none : (k j : ℕ) (r : Rules) (present : List Bool) (e : Event) (after : WorldModel)
    (o : Option ℕ) (t : Timetable) → (o ≡ Some k → ⊥)
    → count k j (spread_frame r present e after o t).waiting ≡ count k j t.waiting
spread_none k j r present e after None t other = refl
spread_none k j r present e after (Some f) t other = by (eq_test f k)
  where
    by : (((f == k) ≡ true) × (f ≡ k)) ⊎ (((f == k) ≡ false) × (f ≢ k))
        → count k j (spread_frame r present e after (Some f) t).waiting ≡ count k j t.waiting
    by (inl test) = absurd (other (ap (λ (n : ℕ). Some n) test.1))
    by (inr test) =
        sent_none k j r.loss f (e.moment + r.delay) (heard_by r.range present after e.station) t
        test.0

-- ---- steps

abbrev waiting_at : Rules → List Config → List Filed → ℕ → List Pending
waiting_at r configs file n = (air_at r configs file n).timetable.waiting

abbrev frames_at : Rules → List Config → List Filed → ℕ → ℕ
frames_at r configs file n = frames_in (world_at r configs file n)

-- At most one waits, and none of a frame that wasn't given yet.
record IsOnce (r : Rules) (configs : List Config) (file : List Filed) (k j n : ℕ) : Type 0 where
  pub few : count k j (waiting_at r configs file n) ≤ 1
  pub late : frames_at r configs file n ≤ k → count k j (waiting_at r configs file n) ≡ 0

-- The frame was given, and none of it waits for the station.
record IsGone (r : Rules) (configs : List Config) (file : List Filed) (k j n : ℕ) : Type 0 where
  pub early : k < frames_at r configs file n
  pub none : count k j (waiting_at r configs file n) ≡ 0

-- A step gives the next frame, or none: none that was given before, or that isn't given by then.
frames_next : (r : Rules) (configs : List Config) (file : List Filed) (k n : ℕ) (p : Planned)
    → IsDone r configs file n p
    → (frames_at r configs file n ≤ frames_at r configs file (suc n))
    × ((k < frames_at r configs file n) ⊎ (frames_at r configs file (suc n) ≤ k)
    → given (world_after r configs file n p).log ≡ Some k → ⊥)
frames_next r configs file k n p d = (omega (arith, up, is), other)
  where
    is : frames_at r configs file (suc n) ≡ frames_in (world_after r configs file n p)
    is = ap frames_in (world_next r configs file n p d)

    up : frames_at r configs file n ≤ frames_in (world_after r configs file n p)
    up = (next_frame r configs file n p).0

    other : (k < frames_at r configs file n) ⊎ (frames_at r configs file (suc n) ≤ k)
        → given (world_after r configs file n p).log ≡ Some k → ⊥
    other (inl lt) gives =
        let next = (next_frame r configs file n p).1 k gives in
        let same = next.0 in omega (arith, lt, same)
    other (inr le) gives =
        let next = (next_frame r configs file n p).1 k gives in
        let last = next.1 in omega (arith, le, is, last)

-- It puts at most one delivery of a frame to a station, and none where it doesn't give the frame.
step_few : (r : Rules) (configs : List Config) (file : List Filed) (k j n : ℕ) (p : Planned)
    (d : IsDone r configs file n p)
    → (count k j (waiting_at r configs file (suc n)) ≤ 1 + count k j d.rest)
    × ((given (world_after r configs file n p).log ≡ Some k → ⊥)
    → count k j (waiting_at r configs file (suc n)) ≡ count k j d.rest)
step_few r configs file k j n p d =
    let a = air_at r configs file n in
    let after = world_after r configs file n p in
    let t = rest_of a d.rest in
    let is : count k j (waiting_at r configs file (suc n))
    ≡ count k j (spread r a.present p.event after t).waiting =
    ap (λ (x : AirModel). count k j x.timetable.waiting) (step_does r configs file n p d)
    ∙ after_none k j r a.present p after t in
    let few = spread_few k j r a.present p.event after (given after.log) t in (
      omega (arith, is, few),
      λ other. is ∙ spread_none k j r a.present p.event after (given after.log) t other,
    )

-- what waits is that which is taken, and the rest
taken_first : (r : Rules) (configs : List Config) (file : List Filed) (k j n : ℕ) (p : Planned)
    (d : IsDone r configs file n p)
    → count k j (waiting_at r configs file n) ≡ bit (is_it k j (Does p)) + count k j d.rest
taken_first r configs file k j n p d = ap (count k j) d.first

-- what is dropped puts nothing
drop_few : (r : Rules) (configs : List Config) (file : List Filed) (k j n : ℕ)
    → IsDropped r configs file n
    → (count k j (waiting_at r configs file (suc n)) ≤ count k j (waiting_at r configs file n))
    × (frames_at r configs file (suc n) ≡ frames_at r configs file n)
drop_few r configs file k j n d =
    let first : count k j (waiting_at r configs file n)
    ≡ bit (is_it k j d.dropped) + count k j d.rest = ap (count k j) d.first in
    let left : count k j (waiting_at r configs file (suc n)) ≡ count k j d.rest =
    ap (count k j) d.left in (
      omega (arith, first, left),
      ap (λ (es : List Event). frames_in (world_run (opening configs) es)) d.done,
    )

-- ---- at most one waits

once_by : (r : Rules) (configs : List Config) (file : List Filed) (k j n : ℕ) (p : Planned)
    → IsDone r configs file n p → IsOnce r configs file k j n
    → IsOnce r configs file k j (suc n)
once_by r configs file k j n p d h = by (cases_lt k (frames_at r configs file n))
  where
    by : (k < frames_at r configs file n) ⊎ (frames_at r configs file n ≤ k)
        → IsOnce r configs file k j (suc n)
    by (inl lt) =
        let next = frames_next r configs file k n p d in
        let up = next.0 in
        let same = (step_few r configs file k j n p d).1 (next.1 (inl lt)) in
        let first = taken_first r configs file k j n p d in
        let few = h.few in
        record {
          few = omega (arith, same, first, few);
          late = λ le. absurd (omega (arith, lt, up, le));
        }
    by (inr ge) =
        let next = frames_next r configs file k n p d in
        let more = step_few r configs file k j n p d in
        let few = more.0 in
        let first = taken_first r configs file k j n p d in
        let none = h.late ge in
        record {
          few = omega (arith, few, first, none);
          late = λ le. (let same = more.1 (next.1 (inr le)) in omega (arith, same, first, none));
        }

once_next : (r : Rules) (configs : List Config) (file : List Filed) (k j n : ℕ)
    → IsOnce r configs file k j n → IsOnce r configs file k j (suc n)
once_next r configs file k j n h = by (step_case r configs file n)
  where
    by : (air_at r configs file (suc n) ≡ air_at r configs file n)
        ⊎ (IsDropped r configs file n ⊎ ((p : Planned) × IsDone r configs file n p))
        → IsOnce r configs file k j (suc n)
    by (inl same) =
        let ws = ap (λ (a : AirModel). count k j a.timetable.waiting) same in
        let top : frames_at r configs file (suc n) ≡ frames_at r configs file n =
        ap (λ (a : AirModel). frames_in (world_run (opening configs) a.done)) same in
        record {
          few = (let few = h.few in omega (arith, ws, few));
          late = λ le. (let none = h.late (omega (arith, top, le)) in omega (arith, ws, none));
        }
    by (inr (inl d)) =
        let less = drop_few r configs file k j n d in
        let ws = less.0 in
        let top = less.1 in
        record {
          few = (let few = h.few in omega (arith, ws, few));
          late = λ le. (let none = h.late (omega (arith, top, le)) in omega (arith, ws, none));
        }
    by (inr (inr x)) = once_by r configs file k j n x.0 x.1 h

opens_empty : (r : Rules) (configs : List Config) (file : List Filed) (k j : ℕ)
    → count k j (waiting_at r configs file 0) ≡ 0
opens_empty r configs file k j =
    traffic_none k j r.present r.every (length configs) (with_ticks r configs file)
    ∙ ticks_none k j r.present (cond r.beacons (length configs) 0) (with_file r file)
    ∙ file_none k j file []

once : (r : Rules) (configs : List Config) (file : List Filed) (k j n : ℕ)
    → IsOnce r configs file k j n
once r configs file k j zero =
    let none = opens_empty r configs file k j in
    record { few = omega (arith, none); late = λ le. none }
once r configs file k j (suc n) =
    once_next r configs file k j n (once r configs file k j n)

-- ---- once it was done none waits

-- this one counts
counts : (k j : ℕ) (p : Planned) → p.own ≡ true → p.event.what ≡ Deliver k → p.event.station ≡ j
    → is_it k j (Does p) ≡ true
counts k j p own what there =
    ap (λ (b : Bool). b && (is_of k p.event.what && (p.event.station == j))) own
    ∙ ap (λ (x : What). is_of k x && (p.event.station == j)) what
    ∙ ap (λ (b : Bool). b && (p.event.station == j)) (eqb_same k)
    ∙ ap (λ (s : ℕ). s == j) there ∙ eqb_same j

gone_by : (r : Rules) (configs : List Config) (file : List Filed) (k j n : ℕ) (p : Planned)
    → IsDone r configs file n p → is_it k j (Does p) ≡ true → IsGone r configs file k j (suc n)
gone_by r configs file k j n p d is = by (cases_lt k (frames_at r configs file n))
  where
    one : count k j (waiting_at r configs file n) ≡ 1 + count k j d.rest
    one = taken_first r configs file k j n p d ∙ ap (λ (b : Bool). bit b + count k j d.rest) is

    h : IsOnce r configs file k j n
    h = once r configs file k j n

    by : (k < frames_at r configs file n) ⊎ (frames_at r configs file n ≤ k)
        → IsGone r configs file k j (suc n)
    by (inl lt) =
        let next = frames_next r configs file k n p d in
        let up = next.0 in
        let same = (step_few r configs file k j n p d).1 (next.1 (inl lt)) in
        let few = h.few in
        record { early = omega (arith, lt, up); none = omega (arith, same, one, few) }
    by (inr ge) = let none = h.late ge in absurd (omega (arith, one, none))

gone_next : (r : Rules) (configs : List Config) (file : List Filed) (k j n : ℕ)
    → IsGone r configs file k j n → IsGone r configs file k j (suc n)
gone_next r configs file k j n h = by (step_case r configs file n)
  where
    early : k < frames_at r configs file n
    early = h.early

    none : count k j (waiting_at r configs file n) ≡ 0
    none = h.none

    by : (air_at r configs file (suc n) ≡ air_at r configs file n)
        ⊎ (IsDropped r configs file n ⊎ ((p : Planned) × IsDone r configs file n p))
        → IsGone r configs file k j (suc n)
    by (inl same) =
        let ws = ap (λ (a : AirModel). count k j a.timetable.waiting) same in
        let top : frames_at r configs file (suc n) ≡ frames_at r configs file n =
        ap (λ (a : AirModel). frames_in (world_run (opening configs) a.done)) same in
        record { early = omega (arith, top, early); none = omega (arith, ws, none) }
    by (inr (inl d)) =
        let less = drop_few r configs file k j n d in
        let ws = less.0 in
        let top = less.1 in
        record { early = omega (arith, top, early); none = omega (arith, ws, none) }
    by (inr (inr x)) =
        let next = frames_next r configs file k n x.0 x.1 in
        let up = next.0 in
        let same = (step_few r configs file k j n x.0 x.1).1 (next.1 (inl early)) in
        let first = taken_first r configs file k j n x.0 x.1 in
        record { early = omega (arith, early, up); none = omega (arith, same, first, none) }

gone_on : (r : Rules) (configs : List Config) (file : List Filed) (k j n d end : ℕ)
    → end ≡ d + n → IsGone r configs file k j n → IsGone r configs file k j end
gone_on r configs file k j n zero end is h =
    let same : n ≡ end = omega (arith, is) in
    subst (λ (m : ℕ). IsGone r configs file k j m) same h
gone_on r configs file k j n (suc d) end is h =
    let same : suc (d + n) ≡ end = omega (arith, is) in
    subst (λ (m : ℕ). IsGone r configs file k j m) same
    (gone_next r configs file k j (d + n) (gone_on r configs file k j n d (d + n) refl h))

-- so no later step does another
none_later : (r : Rules) (configs : List Config) (file : List Filed) (k j m n : ℕ) (p q : Planned)
    → m < n → IsDone r configs file m p → IsDone r configs file n q
    → is_it k j (Does p) ≡ true → is_it k j (Does q) ≡ true → ⊥
none_later r configs file k j m n p q lt d e is_p is_q =
    let gone = gone_on r configs file k j (suc m) (n - suc m) n (omega (arith, lt))
    (gone_by r configs file k j m p d is_p) in
    let none = gone.none in
    let one : count k j (waiting_at r configs file n) ≡ 1 + count k j e.rest =
    taken_first r configs file k j n q e ∙ ap (λ (b : Bool). bit b + count k j e.rest) is_q in
    omega (arith, none, one)

pub delivers_once : (r : Rules) (configs : List Config) (file : List Filed)
    → DeliversOnce r configs file
delivers_once r configs file m n k p q d e own_p own_q is_p is_q there =
    by (cases_lt m n) (cases_lt n m)
  where
    first : is_it k q.event.station (Does p) ≡ true
    first = counts k q.event.station p own_p is_p there

    second : is_it k q.event.station (Does q) ≡ true
    second = counts k q.event.station q own_q is_q refl

    by : (m < n) ⊎ (n ≤ m) → (n < m) ⊎ (m ≤ n) → m ≡ n
    by (inl lt) x =
        absurd (none_later r configs file k q.event.station m n p q lt d e first second)
    by (inr le) (inl lt) =
        absurd (none_later r configs file k q.event.station n m q p lt e d second first)
    by (inr le) (inr ge) = omega (arith, le, ge)

-- What is heard in an air is delivered, and what is delivered was heard.
use Rattle.std.proofs.Common.{◌≡◌, ℕ, zero, suc, ◌+◌, ◌≤◌, ◌<◌, List, [], ◌∷◌, refl, sym, ap}
use Rattle.std.proofs.Common.{◌∙◌, arith, Bool, true, false, cond, subst, Option, Some, None, ◌⊎◌}
use Rattle.std.proofs.Common.{inl, inr, map, length, true≢false}
use Rattle.std.specs.Prelude.{nat_lt, ◌%◌, ◌-◌, slice_get, not, ◌&&◌}
use Rattle.std.specs.List.{filter}
use Rattle.std.proofs.lemmas.Bool.{ltb-false, cases_lt}
use Rattle.rand_core.specs.Stream.{Stream}
use Rattle.its_model.specs.Station.{StationModel}
use Rattle.its_model.specs.World.{Config, Event, WorldModel}
use Rattle.its_model.specs.World.What.{Calls, Deliver}
use Rattle.its_model.specs.Calls.OwnCall.{Tick, SendShb}
use Rattle.sim_air_model.specs.Heard.{air_at, IsDone, IsTaken, IsTakenByStation, IsHeard}
use Rattle.sim_air_model.specs.Heard.{draw_of, world_after}
use Rattle.sim_air_model.specs.Heard.{WhatIsHeardIsDelivered, DeliveriesAreHeard, StepsDoEvents}
use Rattle.sim_air_model.specs.Timetable.{IsOver, is_present, is_passed_over, is_delivery}
use Rattle.sim_air_model.specs.Timetable.{Rules, Planned, Timetable, AirModel, schedule}
use Rattle.sim_air_model.specs.Timetable.{schedule_all}
use Rattle.sim_air_model.specs.Timetable.{draw, of_file}
use Rattle.sim_air_model.specs.Timetable.{draw_alone, draw_and_schedule, delivery, send, send_all}
use Rattle.sim_air_model.specs.Timetable.{given}
use Rattle.sim_air_model.specs.Timetable.{spread, spread_frame, heard_by, in_reach_of, tick_again}
use Rattle.sim_air_model.specs.Timetable.{follow_tick, follow_all, schedule_send, schedule_tick}
use Rattle.sim_air_model.specs.Timetable.{by_file}
use Rattle.sim_air_model.specs.Timetable.{comes}
use Rattle.sim_air_model.specs.Timetable.{tick, is_tick, was_refused, schedule_first_ticks, Pending}
use Rattle.sim_air_model.specs.Timetable.{Filed}
use Rattle.sim_air_model.specs.Timetable.{air_opening, NoneWaits, with_file, with_ticks}
use Rattle.sim_air_model.specs.Timetable.{schedule_traffic}
use Rattle.sim_air_model.specs.Timetable.{Traffic, sending, send_again, schedule_first_sends}
use Rattle.sim_air_model.specs.Timetable.Pending.{Does}
use Rattle.sim_air_model.specs.Timetable.Filed.{Happens, Leaves}
use Rattle.sim_air_model.proofs.Comings.{planned_is, planned_any, after_of, IsComeTick, IsComeSend}
use Rattle.sim_air_model.proofs.Lasting.{IsIn, IsDropped, step_does, step_case, waits_on, none_left}
use Rattle.sim_air_model.proofs.Lasting.{heard_waits, send_draws, rest_of}
use Rattle.sim_air_model.proofs.OneRun.{later}

pub steps_do_events : (r : Rules) (configs : List Config) (file : List Filed)
    → StepsDoEvents r configs file
steps_do_events r configs file n p d =
    ap (λ (a : AirModel). a.done) (step_does r configs file n p d)

-- ---- what is heard is delivered

-- In a run that is over, what waits after a step is taken by a later one, where it is due.
pub schedule_is_taken : (r : Rules) (configs : List Config) (file : List Filed) (end n : ℕ)
    (p q : Planned)
    → IsDone r configs file n p → IsOver r (air_at r configs file end)
    → IsIn q (air_at r configs file (suc n)).timetable.waiting → q.event.moment ≤ r.until
    → (m : ℕ) × (n < m) × (m < end) × IsTaken r configs file m q
schedule_is_taken r configs file end n p q done over waits due = by (cases_lt n end)
  where
    ended : ((m : ℕ) × (suc n ≤ m) × (m < end) × IsTaken r configs file m q)
        ⊎ IsIn q (air_at r configs file end).timetable.waiting
        → (m : ℕ) × (n < m) × (m < end) × IsTaken r configs file m q
    ended (inl x) = (x.0, omega (arith, x.1), x.2, x.3)
    ended (inr x) =
        let late = none_left r configs file end q over x in absurd (omega (arith, late, due))

    by : (n < end) ⊎ (end ≤ n) → (m : ℕ) × (n < m) × (m < end) × IsTaken r configs file m q
    by (inl lt) =
        ended (waits_on r configs file (suc n) (end - suc n) end q (omega (arith, lt)) waits)
    by (inr le) =
        let same : air_at r configs file n ≡ air_at r configs file end =
        later r configs (air_opening r configs file) n end le over in
        let none : NoneWaits r.until (Does p ∷ done.rest) =
        subst (NoneWaits r.until) done.first
        (subst (λ (a : AirModel). NoneWaits r.until a.timetable.waiting) (sym same) over) in
        let in_time = done.in_time in absurd (omega (arith, none, in_time))

-- what isn't passed over is done
pub is_done : (r : Rules) (configs : List Config) (file : List Filed) (m : ℕ) (q : Planned)
    → IsTaken r configs file m q → is_passed_over (air_at r configs file m).present q ≡ false
    → IsDone r configs file m q
is_done r configs file m q taken run =
    record { rest = taken.rest; first = taken.first; in_time = taken.in_time; is_run = run }

-- a call of the air's own is done where its station is present
pub done_if_present : (r : Rules) (configs : List Config) (file : List Filed) (m : ℕ) (q : Planned)
    → IsTaken r configs file m q → IsTakenByStation r configs file m q
done_if_present r configs file m q taken = (
  taken,
  λ present. is_done r configs file m q taken
      (ap (λ (b : Bool). q.own && (not (is_delivery q.event.what) && not b)) present
      ∙ never q.own (not (is_delivery q.event.what))),
)
  where
    never : (b c : Bool) → (b && (c && false)) ≡ false
    never true true = refl
    never true false = refl
    never false c = refl

pub what_is_heard_is_delivered : (r : Rules) (configs : List Config) (file : List Filed)
    → WhatIsHeardIsDelivered r configs file
what_is_heard_is_delivered r configs file end n k j p over h due =
    let q = delivery k (p.event.moment + r.delay) j in
    let t = schedule_is_taken r configs file end n p q h.done over
    (subst (λ (a : AirModel). IsIn q a.timetable.waiting)
    (sym (step_does r configs file n p h.done))
    (heard_waits r configs (air_at r configs file n) p h.done.rest k h.place j h.gives h.in_range
    h.is_kept)) due in
    (t.0, t.1, t.2, is_done r configs file t.0 q t.3 refl)

-- ---- what is delivered was heard

-- it waited before, or was put for one of these stations, whose draw loses nothing
abbrev pub IsSent : Planned → ℕ → ℕ → ℕ → List ℕ → Timetable → Type 0
IsSent q loss k m js t =
    (i : ℕ) × (j : ℕ) × (slice_get js i ≡ Some j) × (loss ≤ draw_of i t.draws % 100)
    × (q ≡ delivery k m j)

send_of : (q : Planned) (loss k m j : ℕ) (t : Timetable) → IsIn q (send loss k m j t).waiting
    → IsIn q t.waiting ⊎ ((loss ≤ draw t % 100) × (q ≡ delivery k m j))
send_of q loss k m j t h = by (nat_lt (draw t % 100) loss) refl h
  where
    by : (b : Bool) → nat_lt (draw t % 100) loss ≡ b
        → IsIn q (cond b (draw_alone t) (draw_and_schedule (delivery k m j) t)).waiting
        → IsIn q t.waiting ⊎ ((loss ≤ draw t % 100) × (q ≡ delivery k m j))
    by true test g = inl g
    by false test g = told (planned_is q (delivery k m j) t.waiting g)
      where
        told : (q ≡ delivery k m j) ⊎ IsIn q t.waiting
            → IsIn q t.waiting ⊎ ((loss ≤ draw t % 100) × (q ≡ delivery k m j))
        told (inl is) = inr (ltb-false (draw t % 100) loss test, is)
        told (inr x) = inl x

pub sent_of : (q : Planned) (loss k m : ℕ) (js : List ℕ) (t : Timetable)
    → IsIn q (send_all loss k m js t).waiting → IsIn q t.waiting ⊎ IsSent q loss k m js t
sent_of q loss k m [] t h = inl h
sent_of q loss k m (x ∷ js) t h = by (sent_of q loss k m js (send loss k m x t) h)
  where
    first : IsIn q t.waiting ⊎ ((loss ≤ draw t % 100) × (q ≡ delivery k m x))
        → IsIn q t.waiting ⊎ IsSent q loss k m (x ∷ js) t
    first (inl g) = inl g
    first (inr g) = inr (0, x, refl, g.0, g.1)

    by : IsIn q (send loss k m x t).waiting ⊎ IsSent q loss k m js (send loss k m x t)
        → IsIn q t.waiting ⊎ IsSent q loss k m (x ∷ js) t
    by (inl g) = first (send_of q loss k m x t g)
    by (inr g) = inr (
      suc g.0,
      g.1,
      g.2,
      subst (λ (s : Stream). loss ≤ draw_of g.0 s % 100) (send_draws loss k m x t) g.3,
      g.4,
    )

-- a tick is no delivery, and an event of the file isn't the air's own
no_tick : (q : Planned) (k n m b j : ℕ) → q ≡ tick n m b j → q.event.what ≡ Deliver k → ⊥
no_tick q k n m b j is what =
    let ticks : q.event.what ≡ Calls (Tick j) = ap (λ (p : Planned). p.event.what) is in
    let both : Calls (Tick j) ≡ Deliver k = sym ticks ∙ what in cc

follow_of : (q p : Planned) (k : ℕ) (after : WorldModel) (t : Timetable)
    → IsIn q (follow_tick p after t).waiting → q.event.what ≡ Deliver k → IsIn q t.waiting
follow_of q p k after t h what =
    by (p.own && (is_tick p.event.what && not (was_refused after.log)))
    (slice_get after.stations p.event.station) h
  where
    by : (b : Bool) (s : Option StationModel) → IsIn q (cond b (tick_again p.event s t) t).waiting
        → IsIn q t.waiting
    by false s g = g
    by true None g = g
    by true (Some s) g =
        told (planned_is q (tick p.event.station p.event.moment s.beacon_from (draw t % 751))
        t.waiting g)
      where
        told : (q ≡ tick p.event.station p.event.moment s.beacon_from (draw t % 751))
            ⊎ IsIn q t.waiting → IsIn q t.waiting
        told (inl is) =
            absurd (no_tick q k p.event.station p.event.moment s.beacon_from (draw t % 751) is what)
        told (inr x) = x

ticks_of : (q : Planned) (k : ℕ) (present : List Bool) (n : ℕ) (t : Timetable)
    → IsIn q (schedule_first_ticks present n t).waiting → q.event.what ≡ Deliver k
    → IsIn q t.waiting
ticks_of q k present zero t h what = h
ticks_of q k present (suc n) t h what =
    ticks_of q k present n t (by (is_present present n) h) what
  where
    u : Timetable
    u = schedule_first_ticks present n t

    told : (q ≡ tick n 0 0 (draw u % 751)) ⊎ IsIn q u.waiting → IsIn q u.waiting
    told (inl is) = absurd (no_tick q k n 0 0 (draw u % 751) is what)
    told (inr x) = x

    by : (b : Bool) → IsIn q (cond b (schedule_tick n 0 0 u) u).waiting → IsIn q u.waiting
    by true g = told (planned_is q (tick n 0 0 (draw u % 751)) u.waiting g)
    by false g = g

-- a send is no delivery
no_send : (q : Planned) (k n m : ℕ) (x : Traffic) → q ≡ sending x n m → q.event.what ≡ Deliver k → ⊥
no_send q k n m x is what =
    let sends : q.event.what ≡ Calls (SendShb x.request) = ap (λ (p : Planned). p.event.what) is in
    let both : Calls (SendShb x.request) ≡ Deliver k = sym sends ∙ what in cc

again_of : (q : Planned) (e : Event) (k : ℕ) (o : Option Traffic) (t : Timetable)
    → IsIn q (send_again e o t).waiting → q.event.what ≡ Deliver k → IsIn q t.waiting
again_of q e k None t h what = h
again_of q e k (Some x) t h what =
    by (planned_is q (sending x e.station (e.moment + x.period)) t.waiting h)
  where
    by : (q ≡ sending x e.station (e.moment + x.period)) ⊎ IsIn q t.waiting → IsIn q t.waiting
    by (inl is) = absurd (no_send q k e.station (e.moment + x.period) x is what)
    by (inr g) = g

first_sends_of : (q : Planned) (k : ℕ) (present : List Bool) (x : Traffic) (n : ℕ) (t : Timetable)
    → IsIn q (schedule_first_sends present x n t).waiting → q.event.what ≡ Deliver k
    → IsIn q t.waiting
first_sends_of q k present x zero t h what = h
first_sends_of q k present x (suc n) t h what =
    first_sends_of q k present x n t (by (is_present present n) h) what
  where
    u : Timetable
    u = schedule_first_sends present x n t

    told : (q ≡ sending x n (0 + draw u % x.period)) ⊎ IsIn q u.waiting → IsIn q u.waiting
    told (inl is) = absurd (no_send q k n (0 + draw u % x.period) x is what)
    told (inr g) = g

    by : (b : Bool) → IsIn q (cond b (schedule_send x n 0 u) u).waiting → IsIn q u.waiting
    by true g = told (planned_is q (sending x n (0 + draw u % x.period)) u.waiting g)
    by false g = g

sends_of : (q : Planned) (k : ℕ) (present : List Bool) (every : List Traffic) (n : ℕ)
    (t : Timetable)
    → IsIn q (schedule_traffic present every n t).waiting → q.event.what ≡ Deliver k
    → IsIn q t.waiting
sends_of q k present [] n t h what = h
sends_of q k present (x ∷ every) n t h what =
    first_sends_of q k present x n t
    (sends_of q k present every n (schedule_first_sends present x n t) h what) what

-- what the file has is none of the air's own
not_of_file : (q : Planned) (e : Filed) → q.own ≡ true → Does q ≡ of_file e → ⊥
not_of_file q (Happens e) own is =
    let same : q ≡ by_file e = cc in
    let both : true ≡ false = sym own ∙ ap (λ (p : Planned). p.own) same in
    true≢false both
not_of_file q (Leaves station moment) own is = cc

pub file_of : (q : Planned) (es : List Filed) (ws : List Pending)
    → IsIn q (schedule_all (map of_file es) ws) → q.own ≡ true → IsIn q ws
file_of q [] ws h own = h
file_of q (e ∷ es) ws h own =
    by (planned_any q (of_file e) ws (file_of q es (schedule (of_file e) ws) h own))
  where
    by : (Does q ≡ of_file e) ⊎ IsIn q ws → IsIn q ws
    by (inl is) = absurd (not_of_file q e own is)
    by (inr x) = x

-- a station that comes puts no delivery
no_coming : (q : Planned) (k n m : ℕ) (beacons : Bool) (every : List Traffic)
    → IsComeTick beacons n m q ⊎ IsComeSend every n m q → q.event.what ≡ Deliver k → ⊥
no_coming q k n m beacons every (inl x) what = no_tick q k n m m x.0 x.2 what
no_coming q k n m beacons every (inr x) what =
    no_send q k n (m + x.3 % x.1.period) x.1 x.4 what

-- ---- who hears is present

-- each of those that are filtered passes
passes : (p : ℕ → Bool) (xs : List ℕ) (i j : ℕ) → slice_get (filter p xs) i ≡ Some j
    → p j ≡ true
passes p [] i j is = let no : ⊥ = cc in absurd no
passes p (x ∷ xs) i j is = by (λ n g. passes p xs n j g) (p x) refl i is
  where
    by : ((n : ℕ) → slice_get (filter p xs) n ≡ Some j → p j ≡ true) → (b : Bool) → p x ≡ b
        → (n : ℕ) → slice_get (cond b (x ∷ filter p xs) (filter p xs)) n ≡ Some j → p j ≡ true
    by on true test zero g = let same : x ≡ j = cc in ap p (sym same) ∙ test
    by on true test (suc n) g = on n g
    by on false test n g = on n g

-- giver and hearer
pub are_present : (range : ℕ) (present : List Bool) (w : WorldModel) (giver i j : ℕ)
    → slice_get (heard_by range present w giver) i ≡ Some j
    → (is_present present giver ≡ true) × (is_present present j ≡ true)
are_present range present w giver i j is = by (is_present present giver) refl is
  where
    by : (b : Bool) → is_present present giver ≡ b
        → slice_get (cond b (filter (is_present present) (in_reach_of range w giver)) []) i ≡ Some j
        → (is_present present giver ≡ true) × (is_present present j ≡ true)
    by true test g = (test, passes (is_present present) (in_reach_of range w giver) i j g)
    by false test g = let no : ⊥ = cc in absurd no

-- an earlier step gave the frame
abbrev IsCaused : Rules → List Config → List Filed → ℕ → ℕ → Planned → Type 0
IsCaused r configs file m k q =
    (n : ℕ) × (p : Planned) × (n < m) × IsHeard r configs file n p k q.event.station
    × (q.event.moment ≡ p.event.moment + r.delay)

caused_on : (r : Rules) (configs : List Config) (file : List Filed) (m k : ℕ) (q : Planned)
    → IsCaused r configs file m k q → IsCaused r configs file (suc m) k q
caused_on r configs file m k q c = (c.0, c.1, omega (arith, c.2), c.3, c.4)

-- what a step put
spread_of : (r : Rules) (configs : List Config) (file : List Filed) (m k : ℕ) (p q : Planned)
    (rest : List Pending) → IsDone r configs file m p → q.event.what ≡ Deliver k
    → IsIn q (spread r (air_at r configs file m).present p.event (world_after r configs file m p)
    (rest_of (air_at r configs file m) rest)).waiting
    → IsIn q rest ⊎ IsCaused r configs file (suc m) k q
spread_of r configs file m k p q rest done what h = by (given after.log) refl h
  where
    after : WorldModel
    after = world_after r configs file m p

    present : List Bool
    present = (air_at r configs file m).present

    t : Timetable
    t = rest_of (air_at r configs file m) rest

    due : ℕ
    due = p.event.moment + r.delay

    told : (f : ℕ) → given after.log ≡ Some f
        → IsIn q rest ⊎ IsSent q r.loss f due (heard_by r.range present after p.event.station) t
        → IsIn q rest ⊎ IsCaused r configs file (suc m) k q
    told f is (inl g) = inl g
    told f is (inr g) =
        let named : Deliver f ≡ Deliver k = sym (ap (λ (x : Planned). x.event.what) g.4) ∙ what in
        let same : f ≡ k = cc in
        let there : g.1 ≡ q.event.station = sym (ap (λ (x : Planned). x.event.station) g.4) in
        let heard : slice_get (heard_by r.range present after p.event.station) g.0
        ≡ Some q.event.station = g.2 ∙ ap (λ (x : ℕ). Some x) there in
        let both = are_present r.range present after p.event.station g.0 q.event.station heard in
        inr (
          m,
          p,
          omega arith,
          record {
            done = done;
            gives = is ∙ ap (λ (x : ℕ). Some x) same;
            place = g.0;
            giver_present = both.0;
            present = both.1;
            in_range = heard;
            is_kept = g.3;
          },
          ap (λ (x : Planned). x.event.moment) g.4,
        )

    by : (o : Option ℕ) → given after.log ≡ o
        → IsIn q (spread_frame r present p.event after o t).waiting
        → IsIn q rest ⊎ IsCaused r configs file (suc m) k q
    by None is g = inl g
    by (Some f) is g =
        told f is (sent_of q r.loss f due (heard_by r.range present after p.event.station) t g)

-- what follows a step waited, or was caused by it
done_of : (r : Rules) (configs : List Config) (file : List Filed) (m k : ℕ) (p q : Planned)
    → IsDone r configs file m p → IsIn q (air_at r configs file (suc m)).timetable.waiting
    → q.event.what ≡ Deliver k
    → IsIn q (air_at r configs file m).timetable.waiting ⊎ IsCaused r configs file (suc m) k q
done_of r configs file m k p q d h what =
    by (after_of r a.present p q after t
    (subst (λ (x : AirModel). IsIn q x.timetable.waiting) (step_does r configs file m p d) h))
  where
    a : AirModel
    a = air_at r configs file m

    after : WorldModel
    after = world_after r configs file m p

    t : Timetable
    t = rest_of a d.rest

    s : Timetable
    s = spread r a.present p.event after t

    told : IsIn q d.rest ⊎ IsCaused r configs file (suc m) k q
        → IsIn q a.timetable.waiting ⊎ IsCaused r configs file (suc m) k q
    told (inl x) = inl (subst (IsIn q) (sym d.first) (inr x))
    told (inr x) = inr x

    by : IsIn q (follow_all r a.present p after t).waiting
        ⊎ ((comes a.present p.event after ≡ true)
        × (IsComeTick r.beacons p.event.station p.event.moment q
        ⊎ IsComeSend r.every p.event.station p.event.moment q))
        → IsIn q a.timetable.waiting ⊎ IsCaused r configs file (suc m) k q
    by (inl g) =
        told (spread_of r configs file m k p q d.rest d what
        (follow_of q p k after s (again_of q p.event k p.traffic (follow_tick p after s) g what)
        what))
    by (inr g) =
        absurd (no_coming q k p.event.station p.event.moment r.beacons r.every g.1 what)

-- each delivery of the air's own that waits was caused
waits_caused : (r : Rules) (configs : List Config) (file : List Filed) (m k : ℕ) (q : Planned)
    → IsIn q (air_at r configs file m).timetable.waiting → q.own ≡ true
    → q.event.what ≡ Deliver k → IsCaused r configs file m k q
waits_caused r configs file zero k q h own what =
    absurd (file_of q file []
    (ticks_of q k r.present (cond r.beacons (length configs) 0) (with_file r file)
    (sends_of q k r.present r.every (length configs) (with_ticks r configs file) h what) what) own)
waits_caused r configs file (suc m) k q h own what =
    by (λ g. waits_caused r configs file m k q g own what) (step_case r configs file m)
  where
    a : AirModel
    a = air_at r configs file m

    by : (IsIn q a.timetable.waiting → IsCaused r configs file m k q)
        → (air_at r configs file (suc m) ≡ a)
        ⊎ (IsDropped r configs file m ⊎ ((p : Planned) × IsDone r configs file m p))
        → IsCaused r configs file (suc m) k q
    by on (inl same) =
        caused_on r configs file m k q
        (on (subst (λ (x : AirModel). IsIn q x.timetable.waiting) same h))
    by on (inr (inl d)) =
        caused_on r configs file m k q
        (on (subst (IsIn q) (sym d.first) (inr (subst (IsIn q) d.left h))))
    by on (inr (inr d)) = either (done_of r configs file m k d.0 q d.1 h what)
      where
        either : IsIn q a.timetable.waiting ⊎ IsCaused r configs file (suc m) k q
            → IsCaused r configs file (suc m) k q
        either (inl x) = caused_on r configs file m k q (on x)
        either (inr x) = x

pub deliveries_are_heard : (r : Rules) (configs : List Config) (file : List Filed)
    → DeliveriesAreHeard r configs file
deliveries_are_heard r configs file m k q d own what =
    waits_caused r configs file m k q (subst (IsIn q) (sym d.first) (inl refl)) own what

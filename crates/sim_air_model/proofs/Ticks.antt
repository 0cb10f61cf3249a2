-- The ticks of an air: each is the first of its station, or follows one that wasn't refused, or is
-- that of a station that came.
use Rattle.std.proofs.Common.{◌≡◌, ℕ, zero, suc, ◌+◌, ◌≤◌, List, [], ◌∷◌, refl, sym, ap}
use Rattle.std.proofs.Common.{◌∙◌, arith, Bool, true, false, cond, subst, Option, Some, None, ◌⊎◌}
use Rattle.std.proofs.Common.{inl, inr, map, length, true≢false}
use Rattle.std.specs.Prelude.{◌%◌, slice_get, not, ◌&&◌}
use Rattle.its_model.specs.Station.{StationModel}
use Rattle.its_model.specs.World.{Config, Event, WorldModel}
use Rattle.sim_air_model.specs.Heard.{air_at, IsDone, IsFirstTick, world_after}
use Rattle.sim_air_model.specs.Heard.{HasTickReason, next_tick, TicksGoOn, TicksAreDue}
use Rattle.sim_air_model.specs.Timetable.{Rules, Planned, Timetable, AirModel, schedule_all, draw}
use Rattle.sim_air_model.specs.Timetable.{of_file, comes}
use Rattle.sim_air_model.specs.Timetable.{delivery, given, heard_by, spread, spread_frame}
use Rattle.sim_air_model.specs.Timetable.{tick_again}
use Rattle.sim_air_model.specs.Timetable.{follow_tick, follow_all, tick, is_tick, was_refused}
use Rattle.sim_air_model.specs.Timetable.{schedule_tick}
use Rattle.sim_air_model.specs.Timetable.{schedule_first_ticks, with_file, with_ticks}
use Rattle.sim_air_model.specs.Timetable.{schedule_traffic}
use Rattle.sim_air_model.specs.Timetable.{schedule_send}
use Rattle.sim_air_model.specs.Timetable.{Traffic, sending, send_again, schedule_first_sends}
use Rattle.sim_air_model.specs.Timetable.{is_present}
use Rattle.sim_air_model.specs.Timetable.{Filed}
use Rattle.sim_air_model.proofs.Comings.{planned_is, after_of, IsComeTick, IsComeSend}
use Rattle.sim_air_model.proofs.Heard.{schedule_is_taken, done_if_present, sent_of, file_of, IsSent}
use Rattle.sim_air_model.proofs.Lasting.{IsIn, IsDropped, step_does, step_case, schedule_self}
use Rattle.sim_air_model.proofs.Lasting.{again_more}
use Rattle.sim_air_model.proofs.Lasting.{come_more, rest_of}

-- ---- a tick is followed

followed : (p : Planned) (after : WorldModel) (s : StationModel) (t : Timetable) → p.own ≡ true
    → is_tick p.event.what ≡ true → was_refused after.log ≡ false
    → slice_get after.stations p.event.station ≡ Some s
    → IsIn (tick p.event.station p.event.moment s.beacon_from (draw t % 751))
    (follow_tick p after t).waiting
followed p after s t own ticks answered at' =
    let q = tick p.event.station p.event.moment s.beacon_from (draw t % 751) in
    let test : (p.own && (is_tick p.event.what && not (was_refused after.log))) ≡ true =
    ap (λ (b : Bool). b && (is_tick p.event.what && not (was_refused after.log))) own
    ∙ ap (λ (b : Bool). b && not (was_refused after.log)) ticks ∙ ap not answered in
    subst (λ (b : Bool). IsIn q
    (cond b (tick_again p.event (slice_get after.stations p.event.station) t) t).waiting) (sym test)
    (subst (λ (o : Option StationModel). IsIn q (tick_again p.event o t).waiting) (sym at')
    (schedule_self q t.waiting))

pub ticks_go_on : (r : Rules) (configs : List Config) (file : List Filed)
    → TicksGoOn r configs file
ticks_go_on r configs file end n p s h over due =
    let q = next_tick r configs file n p s h.done.rest in
    let t = schedule_is_taken r configs file end n p q h.done over
    (subst (λ (a : AirModel). IsIn q a.timetable.waiting)
    (sym (step_does r configs file n p h.done))
    (come_more q r present p after (rest_of (air_at r configs file n) h.done.rest)
    (again_more q p.event p.traffic (follow_tick p after u)
    (followed p after s u h.own h.ticks h.answered h.station)))) due in
    (t.0, t.1, t.2, done_if_present r configs file t.0 q t.3)
  where
    after : WorldModel
    after = world_after r configs file n p

    present : List Bool
    present = (air_at r configs file n).present

    u : Timetable
    u = spread r present p.event after (rest_of (air_at r configs file n) h.done.rest)

-- ---- a tick has a reason

-- a delivery is no tick
no_delivery : (q : Planned) (k m j : ℕ) → q ≡ delivery k m j → is_tick q.event.what ≡ true → ⊥
no_delivery q k m j is ticks =
    true≢false (sym ticks ∙ ap (λ (x : Planned). is_tick x.event.what) is)

-- a send is no tick
no_send : (q : Planned) (n m : ℕ) (x : Traffic) → q ≡ sending x n m → is_tick q.event.what ≡ true
    → ⊥
no_send q n m x is ticks =
    true≢false (sym ticks ∙ ap (λ (y : Planned). is_tick y.event.what) is)

again_kept : (q : Planned) (e : Event) (o : Option Traffic) (t : Timetable)
    → IsIn q (send_again e o t).waiting → is_tick q.event.what ≡ true → IsIn q t.waiting
again_kept q e None t h ticks = h
again_kept q e (Some x) t h ticks =
    by (planned_is q (sending x e.station (e.moment + x.period)) t.waiting h)
  where
    by : (q ≡ sending x e.station (e.moment + x.period)) ⊎ IsIn q t.waiting → IsIn q t.waiting
    by (inl is) = absurd (no_send q e.station (e.moment + x.period) x is ticks)
    by (inr g) = g

first_sends_kept : (q : Planned) (present : List Bool) (x : Traffic) (n : ℕ) (t : Timetable)
    → IsIn q (schedule_first_sends present x n t).waiting → is_tick q.event.what ≡ true
    → IsIn q t.waiting
first_sends_kept q present x zero t h ticks = h
first_sends_kept q present x (suc n) t h ticks =
    first_sends_kept q present x n t (by (is_present present n) h) ticks
  where
    u : Timetable
    u = schedule_first_sends present x n t

    told : (q ≡ sending x n (0 + draw u % x.period)) ⊎ IsIn q u.waiting → IsIn q u.waiting
    told (inl is) = absurd (no_send q n (0 + draw u % x.period) x is ticks)
    told (inr g) = g

    by : (b : Bool) → IsIn q (cond b (schedule_send x n 0 u) u).waiting → IsIn q u.waiting
    by true g = told (planned_is q (sending x n (0 + draw u % x.period)) u.waiting g)
    by false g = g

traffic_kept : (q : Planned) (present : List Bool) (every : List Traffic) (n : ℕ) (t : Timetable)
    → IsIn q (schedule_traffic present every n t).waiting → is_tick q.event.what ≡ true
    → IsIn q t.waiting
traffic_kept q present [] n t h ticks = h
traffic_kept q present (x ∷ every) n t h ticks =
    first_sends_kept q present x n t
    (traffic_kept q present every n (schedule_first_sends present x n t) h ticks) ticks

spread_kept : (q : Planned) (r : Rules) (present : List Bool) (e : Event) (after : WorldModel)
    (o : Option ℕ) (t : Timetable) → IsIn q (spread_frame r present e after o t).waiting
    → is_tick q.event.what ≡ true → IsIn q t.waiting
spread_kept q r present e after None t h ticks = h
spread_kept q r present e after (Some k) t h ticks =
    by (sent_of q r.loss k (e.moment + r.delay) (heard_by r.range present after e.station) t h)
  where
    by : IsIn q t.waiting
        ⊎ IsSent q r.loss k (e.moment + r.delay) (heard_by r.range present after e.station) t
        → IsIn q t.waiting
    by (inl g) = g
    by (inr g) = absurd (no_delivery q k (e.moment + r.delay) g.1 g.4 ticks)

first_of : (r : Rules) (configs : List Config) (q : Planned) (n : ℕ) (t : Timetable)
    → n ≤ cond r.beacons (length configs) 0 → IsIn q (schedule_first_ticks r.present n t).waiting
    → IsFirstTick r configs q ⊎ IsIn q t.waiting
first_of r configs q zero t le h = inr h
first_of r configs q (suc n) t le h =
    by (λ g. first_of r configs q n t (omega (arith, le)) g) (is_present r.present n) refl h
  where
    u : Timetable
    u = schedule_first_ticks r.present n t

    told : (IsIn q u.waiting → IsFirstTick r configs q ⊎ IsIn q t.waiting)
        → is_present r.present n ≡ true → (q ≡ tick n 0 0 (draw u % 751)) ⊎ IsIn q u.waiting
        → IsFirstTick r configs q ⊎ IsIn q t.waiting
    told on there (inl is) =
        inl (record {
          station = n;
          jitter = draw u % 751;
          among = omega (arith, le);
          present = there;
          is = is;
        })
    told on there (inr g) = on g

    by : (IsIn q u.waiting → IsFirstTick r configs q ⊎ IsIn q t.waiting) → (b : Bool)
        → is_present r.present n ≡ b → IsIn q (cond b (schedule_tick n 0 0 u) u).waiting
        → IsFirstTick r configs q ⊎ IsIn q t.waiting
    by on true there g = told on there (planned_is q (tick n 0 0 (draw u % 751)) u.waiting g)
    by on false there g = on g

-- what follows a step is what waited, or the next tick, or that of a station that comes
next_of : (r : Rules) (configs : List Config) (file : List Filed) (m : ℕ) (p q : Planned)
    → IsDone r configs file m p → IsIn q (air_at r configs file (suc m)).timetable.waiting
    → is_tick q.event.what ≡ true
    → IsIn q (air_at r configs file m).timetable.waiting ⊎ HasTickReason r configs file (suc m) q
next_of r configs file m p q d h ticks =
    whole (after_of r a.present p q after t
    (subst (λ (x : AirModel). IsIn q x.timetable.waiting) (step_does r configs file m p d) h))
  where
    a : AirModel
    a = air_at r configs file m

    after : WorldModel
    after = world_after r configs file m p

    t : Timetable
    t = rest_of a d.rest

    u : Timetable
    u = spread r a.present p.event after t

    Goal : Type 0
    Goal = IsIn q a.timetable.waiting ⊎ HasTickReason r configs file (suc m) q

    kept : IsIn q u.waiting → Goal
    kept g =
        inl (subst (IsIn q) (sym d.first)
        (inr (spread_kept q r a.present p.event after (given after.log) t g ticks)))

    by : (o : Bool) → p.own ≡ o → (i : Bool) → is_tick p.event.what ≡ i
        → (f : Bool) → was_refused after.log ≡ f → (s : Option StationModel)
        → slice_get after.stations p.event.station ≡ s
        → IsIn q (cond (o && (i && not f)) (tick_again p.event s u) u).waiting → Goal
    by false a' i b f c s d' g = kept g
    by true a' false b f c s d' g = kept g
    by true a' true b true c s d' g = kept g
    by true a' true b false c None d' g = kept g
    by true a' true b false c (Some s) d' g =
        told (planned_is q (tick p.event.station p.event.moment s.beacon_from (draw u % 751))
        u.waiting g)
      where
        told : (q ≡ tick p.event.station p.event.moment s.beacon_from (draw u % 751))
            ⊎ IsIn q u.waiting → Goal
        told (inr x) = kept x
        told (inl is) = inr (inr (inl (record {
          n = m;
          p = p;
          s = s;
          earlier = omega arith;
          ticked = record { done = d; own = a'; ticks = b; answered = c; station = d' };
          is = is;
        })))

    comes_so : comes a.present p.event after ≡ true
        → IsComeTick r.beacons p.event.station p.event.moment q
        ⊎ IsComeSend r.every p.event.station p.event.moment q → Goal
    comes_so is (inl x) =
        inr (inr (inr (record {
          n = m;
          p = p;
          jitter = x.0;
          earlier = omega arith;
          coming = record { done = d; comes = is };
          beacons = x.1;
          is = x.2;
        })))
    comes_so is (inr x) =
        absurd (no_send q p.event.station (p.event.moment + x.3 % x.1.period) x.1 x.4 ticks)

    whole : IsIn q (follow_all r a.present p after t).waiting
        ⊎ ((comes a.present p.event after ≡ true)
        × (IsComeTick r.beacons p.event.station p.event.moment q
        ⊎ IsComeSend r.every p.event.station p.event.moment q)) → Goal
    whole (inl g) =
        by p.own refl (is_tick p.event.what) refl (was_refused after.log) refl
        (slice_get after.stations p.event.station) refl
        (again_kept q p.event p.traffic (follow_tick p after u) g ticks)
    whole (inr g) = comes_so g.0 g.1

ticked_on : (r : Rules) (configs : List Config) (file : List Filed) (m : ℕ) (q : Planned)
    → HasTickReason r configs file m q → HasTickReason r configs file (suc m) q
ticked_on r configs file m q (inl x) = inl x
ticked_on r configs file m q (inr (inl x)) =
    let before = x.earlier in
    inr (inl (record {
      n = x.n;
      p = x.p;
      s = x.s;
      earlier = omega (arith, before);
      ticked = x.ticked;
      is = x.is;
    }))
ticked_on r configs file m q (inr (inr x)) =
    let before = x.earlier in
    inr (inr (record {
      n = x.n;
      p = x.p;
      jitter = x.jitter;
      earlier = omega (arith, before);
      coming = x.coming;
      beacons = x.beacons;
      is = x.is;
    }))

-- each tick of the air's own that waits has its reason
waits_ticked : (r : Rules) (configs : List Config) (file : List Filed) (m : ℕ) (q : Planned)
    → IsIn q (air_at r configs file m).timetable.waiting → q.own ≡ true
    → is_tick q.event.what ≡ true → HasTickReason r configs file m q
waits_ticked r configs file zero q h own ticks =
    by (first_of r configs q (cond r.beacons (length configs) 0) (with_file r file) (omega arith)
    (traffic_kept q r.present r.every (length configs) (with_ticks r configs file) h ticks))
  where
    by : IsFirstTick r configs q ⊎ IsIn q (schedule_all (map of_file file) [])
        → HasTickReason r configs file 0 q
    by (inl x) = inl x
    by (inr x) = absurd (file_of q file [] x own)
waits_ticked r configs file (suc m) q h own ticks =
    by (λ g. waits_ticked r configs file m q g own ticks) (step_case r configs file m)
  where
    a : AirModel
    a = air_at r configs file m

    by : (IsIn q a.timetable.waiting → HasTickReason r configs file m q)
        → (air_at r configs file (suc m) ≡ a)
        ⊎ (IsDropped r configs file m ⊎ ((p : Planned) × IsDone r configs file m p))
        → HasTickReason r configs file (suc m) q
    by on (inl same) =
        ticked_on r configs file m q
        (on (subst (λ (x : AirModel). IsIn q x.timetable.waiting) same h))
    by on (inr (inl d)) =
        ticked_on r configs file m q
        (on (subst (IsIn q) (sym d.first) (inr (subst (IsIn q) d.left h))))
    by on (inr (inr d)) = either (next_of r configs file m d.0 q d.1 h ticks)
      where
        either : IsIn q a.timetable.waiting ⊎ HasTickReason r configs file (suc m) q
            → HasTickReason r configs file (suc m) q
        either (inl x) = ticked_on r configs file m q (on x)
        either (inr x) = x

pub ticks_are_due : (r : Rules) (configs : List Config) (file : List Filed)
    → TicksAreDue r configs file
ticks_are_due r configs file m q d own ticks =
    waits_ticked r configs file m q (subst (IsIn q) (sym d.first) (inl refl)) own ticks

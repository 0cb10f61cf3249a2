-- What waits in an air stays until it is taken.
use Rattle.std.proofs.Common.{◌≡◌, ℕ, zero, suc, ◌+◌, ◌≤◌, ◌<◌, List, [], ◌∷◌, ◌++◌, refl, sym, ap}
use Rattle.std.proofs.Common.{◌∙◌, arith, Bool, true, false, cond, subst, Option, Some, None, ◌⊎◌}
use Rattle.std.proofs.Common.{inl, inr}
use Rattle.std.specs.Prelude.{nat_le, nat_lt, ◌%◌, slice_get, not, ◌&&◌}
use Rattle.std.proofs.lemmas.Bool.{leb-true, le-leb, le-ltb}
use Rattle.rand_core.specs.Stream.{Stream, next_u64}
use Rattle.its_model.specs.Station.{StationModel}
use Rattle.its_model.specs.World.{Config, Event, WorldModel, opening, world_run}
use Rattle.sim_air_model.specs.Heard.{air_at, IsDone, IsTaken, draw_of}
use Rattle.sim_air_model.specs.Timetable.{Rules, Planned, Timetable, AirModel, NoneWaits, IsOver}
use Rattle.sim_air_model.specs.Timetable.{schedule, draw}
use Rattle.sim_air_model.specs.Timetable.{draw_alone, draw_and_schedule, delivery, send, send_all}
use Rattle.sim_air_model.specs.Timetable.{given}
use Rattle.sim_air_model.specs.Timetable.{spread, spread_frame, heard_by, tick_again, follow_tick}
use Rattle.sim_air_model.specs.Timetable.{tick, is_tick, was_refused, do_first, do_one, take_one}
use Rattle.sim_air_model.specs.Timetable.{Traffic, sending, send_again, is_passed_over, follow_all}
use Rattle.sim_air_model.specs.Timetable.{after_one, comes, come, come_ticking, come_sending}
use Rattle.sim_air_model.specs.Timetable.{come_sending_all, none_waits, is_tick_of, is_send_of}
use Rattle.sim_air_model.specs.Timetable.{schedule_tick}
use Rattle.sim_air_model.specs.Timetable.{schedule_send}
use Rattle.sim_air_model.specs.Timetable.Pending.{Does, Departs}
use Rattle.sim_air_model.proofs.Moments.{Rises, in_order}
use Rattle.sim_air_model.specs.Timetable.{at, Pending, Filed}

-- it waits
abbrev pub IsIn : Planned → List Pending → Type 0
IsIn p [] = ⊥
IsIn p (q ∷ ws) = (Does p ≡ q) ⊎ IsIn p ws

pub schedule_self : (p : Planned) (ws : List Pending) → IsIn p (schedule (Does p) ws)
schedule_self p [] = inl refl
schedule_self p (q ∷ ws) = by (schedule_self p ws) (nat_le (at q) (at (Does p)))
  where
    by : IsIn p (schedule (Does p) ws) → (b : Bool)
        → IsIn p (cond b (q ∷ schedule (Does p) ws) (Does p ∷ q ∷ ws))
    by on true = inr on
    by on false = inl refl

pub schedule_more : (p : Planned) (q : Pending) (ws : List Pending) → IsIn p ws
    → IsIn p (schedule q ws)
schedule_more p q [] h = absurd h
schedule_more p q (v ∷ ws) h = by (λ g. schedule_more p q ws g) (nat_le (at v) (at q)) h
  where
    by : (IsIn p ws → IsIn p (schedule q ws)) → (b : Bool) → (Does p ≡ v) ⊎ IsIn p ws
        → IsIn p (cond b (v ∷ schedule q ws) (q ∷ v ∷ ws))
    by on true (inl is) = inl is
    by on true (inr more) = inr (on more)
    by on false g = inr g

-- ---- what was put stays

send_more : (p : Planned) (loss k m j : ℕ) (t : Timetable) → IsIn p t.waiting
    → IsIn p (send loss k m j t).waiting
send_more p loss k m j t h = by (nat_lt (draw t % 100) loss)
  where
    by : (b : Bool) → IsIn p (cond b (draw_alone t) (draw_and_schedule (delivery k m j) t)).waiting
    by true = h
    by false = schedule_more p (Does (delivery k m j)) t.waiting h

send_all_more : (p : Planned) (loss k m : ℕ) (js : List ℕ) (t : Timetable) → IsIn p t.waiting
    → IsIn p (send_all loss k m js t).waiting
send_all_more p loss k m [] t h = h
send_all_more p loss k m (j ∷ js) t h =
    send_all_more p loss k m js (send loss k m j t) (send_more p loss k m j t h)

spread_more : (p : Planned) (r : Rules) (present : List Bool) (e : Event) (after : WorldModel)
    (o : Option ℕ) (t : Timetable) → IsIn p t.waiting
    → IsIn p (spread_frame r present e after o t).waiting
spread_more p r present e after None t h = h
spread_more p r present e after (Some k) t h =
    send_all_more p r.loss k (e.moment + r.delay) (heard_by r.range present after e.station) t h

follow_more : (p q : Planned) (after : WorldModel) (t : Timetable) → IsIn p t.waiting
    → IsIn p (follow_tick q after t).waiting
follow_more p q after t h =
    by (q.own && (is_tick q.event.what && not (was_refused after.log)))
    (slice_get after.stations q.event.station)
  where
    by : (b : Bool) (s : Option StationModel)
        → IsIn p (cond b (tick_again q.event s t) t).waiting
    by false s = h
    by true None = h
    by true (Some s) =
        schedule_more p (Does (tick q.event.station q.event.moment s.beacon_from (draw t % 751)))
        t.waiting h

pub again_more : (p : Planned) (e : Event) (o : Option Traffic) (t : Timetable) → IsIn p t.waiting
    → IsIn p (send_again e o t).waiting
again_more p e None t h = h
again_more p e (Some x) t h =
    schedule_more p (Does (sending x e.station (e.moment + x.period))) t.waiting h

come_ticking_more : (p : Planned) (beacons : Bool) (n m : ℕ) (t : Timetable) → IsIn p t.waiting
    → IsIn p (come_ticking beacons n m t).waiting
come_ticking_more p beacons n m t h = by (beacons && none_waits (is_tick_of n) t)
  where
    by : (b : Bool) → IsIn p (cond b (schedule_tick n m m t) t).waiting
    by true = schedule_more p (Does (tick n m m (draw t % 751))) t.waiting h
    by false = h

come_sending_more : (p : Planned) (x : Traffic) (n m : ℕ) (t : Timetable) → IsIn p t.waiting
    → IsIn p (come_sending x n m t).waiting
come_sending_more p x n m t h = by (none_waits (is_send_of x.number n) t)
  where
    by : (b : Bool) → IsIn p (cond b (schedule_send x n m t) t).waiting
    by true = schedule_more p (Does (sending x n (m + draw t % x.period))) t.waiting h
    by false = h

come_sending_all_more : (p : Planned) (every : List Traffic) (n m : ℕ) (t : Timetable)
    → IsIn p t.waiting → IsIn p (come_sending_all every n m t).waiting
come_sending_all_more p [] n m t h = h
come_sending_all_more p (x ∷ every) n m t h =
    come_sending_all_more p every n m (come_sending x n m t) (come_sending_more p x n m t h)

-- what waits once an event was followed waits once its station came
pub come_more : (p : Planned) (r : Rules) (present : List Bool) (q : Planned) (after : WorldModel)
    (t : Timetable) → IsIn p (follow_all r present q after t).waiting
    → IsIn p (after_one r present q after t).waiting
come_more p r present q after t h = by (comes present q.event after)
  where
    u : Timetable
    u = follow_all r present q after t

    by : (b : Bool)
        → IsIn p (cond b (come r q.event.station q.event.moment u) u).waiting
    by true =
        come_sending_all_more p r.every q.event.station q.event.moment
        (come_ticking r.beacons q.event.station q.event.moment u)
        (come_ticking_more p r.beacons q.event.station q.event.moment u h)
    by false = h

-- ---- what a draw doesn't lose is put

pub send_draws : (loss k m j : ℕ) (t : Timetable) → (send loss k m j t).draws ≡ (next_u64 t.draws).1
send_draws loss k m j t = by (nat_lt (draw t % 100) loss)
  where
    by : (b : Bool)
        → (cond b (draw_alone t) (draw_and_schedule (delivery k m j) t)).draws
        ≡ (next_u64 t.draws).1
    by true = refl
    by false = refl

sent_self : (loss k m j : ℕ) (t : Timetable) → loss ≤ draw t % 100
    → IsIn (delivery k m j) (send loss k m j t).waiting
sent_self loss k m j t kept =
    subst (λ (b : Bool). IsIn (delivery k m j)
    (cond b (draw_alone t) (draw_and_schedule (delivery k m j) t)).waiting)
    (sym (le-ltb (draw t % 100) loss kept)) (schedule_self (delivery k m j) t.waiting)

sent : (loss k m i j : ℕ) (js : List ℕ) (t : Timetable) → slice_get js i ≡ Some j
    → loss ≤ draw_of i t.draws % 100 → IsIn (delivery k m j) (send_all loss k m js t).waiting
sent loss k m i j [] t at' kept = let no : ⊥ = cc in absurd no
sent loss k m zero j (x ∷ js) t at' kept =
    let same : x ≡ j = cc in
    subst (λ n. IsIn (delivery k m n) (send_all loss k m js (send loss k m x t)).waiting) same
    (send_all_more (delivery k m x) loss k m js (send loss k m x t) (sent_self loss k m x t kept))
sent loss k m (suc i) j (x ∷ js) t at' kept =
    sent loss k m i j js (send loss k m x t) at'
    (subst (λ (s : Stream). loss ≤ draw_of i s % 100) (sym (send_draws loss k m x t)) kept)

-- ---- steps

-- the timetable once its first is taken
abbrev pub rest_of : AirModel → List Pending → Timetable
rest_of a rest = record { waiting = rest; draws = a.timetable.draws }

-- what waits once this is done first
abbrev pub once_done : Rules → List Config → AirModel → Planned → List Pending → AirModel
once_done r configs a p rest = do_one r configs a p (rest_of a rest)

rest_stays : (r : Rules) (configs : List Config) (a : AirModel) (p q : Planned)
    (rest : List Pending) → IsIn p rest → IsIn p (once_done r configs a q rest).timetable.waiting
rest_stays r configs a p q rest h =
    let after = world_run (opening configs) (a.done ++ q.event ∷ []) in
    let t = rest_of a rest in
    let u = spread r a.present q.event after t in
    come_more p r a.present q after t
    (again_more p q.event q.traffic (follow_tick q after u)
    (follow_more p q after u (spread_more p r a.present q.event after (given after.log) t h)))

-- whatever is taken
taken_stays : (r : Rules) (configs : List Config) (a : AirModel) (p : Planned) (q : Pending)
    (rest : List Pending) → IsIn p rest
    → IsIn p (take_one r configs a q (rest_of a rest)).timetable.waiting
taken_stays r configs a p (Departs station moment) rest h = h
taken_stays r configs a p (Does q) rest h = by (is_passed_over a.present q)
  where
    by : (b : Bool) → IsIn p (cond b
        (record { done = a.done; timetable = rest_of a rest; present = a.present })
        (once_done r configs a q rest)).timetable.waiting
    by true = h
    by false = rest_stays r configs a p q rest h

-- a step takes the first that waits
step_takes : (r : Rules) (configs : List Config) (file : List Filed) (n : ℕ) (p : Pending)
    (rest : List Pending) → (air_at r configs file n).timetable.waiting ≡ p ∷ rest
    → at p ≤ r.until
    → air_at r configs file (suc n)
    ≡ take_one r configs (air_at r configs file n) p (rest_of (air_at r configs file n) rest)
step_takes r configs file n p rest first early =
    let a = air_at r configs file n in
    ap (do_first r configs a) first
    ∙ ap (λ (b : Bool). cond b (take_one r configs a p (rest_of a rest)) a)
    (le-leb (at p) r.until early)

-- it does it
pub step_does : (r : Rules) (configs : List Config) (file : List Filed) (n : ℕ) (p : Planned)
    (d : IsDone r configs file n p)
    → air_at r configs file (suc n) ≡ once_done r configs (air_at r configs file n) p d.rest
step_does r configs file n p d =
    let a = air_at r configs file n in
    step_takes r configs file n (Does p) d.rest d.first d.in_time
    ∙ ap (λ (b : Bool). cond b
    (record { done = a.done; timetable = rest_of a d.rest; present = a.present })
    (once_done r configs a p d.rest)) d.is_run

-- the step of this number takes something of which nothing comes
pub record IsDropped (r : Rules) (configs : List Config) (file : List Filed) (n : ℕ) : Type 0 where
  pub dropped : Pending
  pub rest : List Pending
  pub first : (air_at r configs file n).timetable.waiting ≡ dropped ∷ rest
  pub done : (air_at r configs file (suc n)).done ≡ (air_at r configs file n).done
  pub left : (air_at r configs file (suc n)).timetable.waiting ≡ rest

-- a step does what waits first, or drops it, or does nothing
pub step_case : (r : Rules) (configs : List Config) (file : List Filed) (n : ℕ)
    → (air_at r configs file (suc n) ≡ air_at r configs file n)
    ⊎ (IsDropped r configs file n ⊎ ((p : Planned) × IsDone r configs file n p))
step_case r configs file n = by a.timetable.waiting refl
  where
    a : AirModel
    a = air_at r configs file n

    one : (p : Pending) (rest : List Pending) → a.timetable.waiting ≡ p ∷ rest
        → at p ≤ r.until
        → IsDropped r configs file n ⊎ ((q : Planned) × IsDone r configs file n q)
    one (Departs station moment) rest is early =
        let taken = step_takes r configs file n (Departs station moment) rest is early in
        inl (record {
          dropped = Departs station moment;
          rest = rest;
          first = is;
          done = ap (λ (x : AirModel). x.done) taken;
          left = ap (λ (x : AirModel). x.timetable.waiting) taken;
        })
    one (Does p) rest is early = whether (is_passed_over a.present p) refl
      where
        gone : AirModel
        gone = record { done = a.done; timetable = rest_of a rest; present = a.present }

        whether : (b : Bool) → is_passed_over a.present p ≡ b
            → IsDropped r configs file n ⊎ ((q : Planned) × IsDone r configs file n q)
        whether false test =
            inr (p, record { rest = rest; first = is; in_time = early; is_run = test })
        whether true test =
            let taken = step_takes r configs file n (Does p) rest is early
            ∙ ap (λ (b : Bool). cond b gone (once_done r configs a p rest)) test in
            inl (record {
              dropped = Does p;
              rest = rest;
              first = is;
              done = ap (λ (x : AirModel). x.done) taken;
              left = ap (λ (x : AirModel). x.timetable.waiting) taken;
            })

    by : (ws : List Pending) → a.timetable.waiting ≡ ws
        → (air_at r configs file (suc n) ≡ a)
        ⊎ (IsDropped r configs file n ⊎ ((p : Planned) × IsDone r configs file n p))
    by [] is = inl (ap (do_first r configs a) is)
    by (p ∷ rest) is = if_in_time (nat_le (at p) r.until) refl
      where
        if_in_time : (b : Bool) → nat_le (at p) r.until ≡ b
            → (air_at r configs file (suc n) ≡ a)
            ⊎ (IsDropped r configs file n ⊎ ((q : Planned) × IsDone r configs file n q))
        if_in_time true test = inr (one p rest is (leb-true (at p) r.until test))
        if_in_time false test =
            inl (ap (do_first r configs a) is
            ∙ ap (λ (b : Bool). cond b (take_one r configs a p (rest_of a rest)) a) test)

-- what waits is taken by a step, or waits after it
one_step : (r : Rules) (configs : List Config) (file : List Filed) (n : ℕ) (p : Planned)
    → IsIn p (air_at r configs file n).timetable.waiting
    → IsTaken r configs file n p ⊎ IsIn p (air_at r configs file (suc n)).timetable.waiting
one_step r configs file n p h = by a.timetable.waiting refl h
  where
    a : AirModel
    a = air_at r configs file n

    by : (ws : List Pending) → a.timetable.waiting ≡ ws → IsIn p ws
        → IsTaken r configs file n p ⊎ IsIn p (do_first r configs a ws).timetable.waiting
    by [] is g = absurd g
    by (q ∷ rest) is g = if_in_time (nat_le (at q) r.until) refl g
      where
        if_in_time : (b : Bool) → nat_le (at q) r.until ≡ b → (Does p ≡ q) ⊎ IsIn p rest
            → IsTaken r configs file n p
            ⊎ IsIn p (cond b (take_one r configs a q (rest_of a rest)) a).timetable.waiting
        if_in_time false test x = inr h
        if_in_time true test (inr more) = inr (taken_stays r configs a p q rest more)
        if_in_time true test (inl same) =
            inl (record {
              rest = rest;
              first = is ∙ ap (λ (x : Pending). x ∷ rest) (sym same);
              in_time =
                  subst (λ (x : Pending). at x ≤ r.until) (sym same) (leb-true (at q) r.until test);
            })

-- so it is taken by one of so many steps, or waits after them
pub waits_on : (r : Rules) (configs : List Config) (file : List Filed) (n d end : ℕ) (p : Planned)
    → end ≡ d + n → IsIn p (air_at r configs file n).timetable.waiting
    → ((m : ℕ) × (n ≤ m) × (m < end) × IsTaken r configs file m p)
    ⊎ IsIn p (air_at r configs file end).timetable.waiting
waits_on r configs file n zero end p is h =
    let same : n ≡ end = omega (arith, is) in
    inr (subst (λ m. IsIn p (air_at r configs file m).timetable.waiting) same h)
waits_on r configs file n (suc d) end p is h = by (waits_on r configs file n d (d + n) p refl h)
  where
    last : IsTaken r configs file (d + n) p
        ⊎ IsIn p (air_at r configs file (suc (d + n))).timetable.waiting
        → ((m : ℕ) × (n ≤ m) × (m < end) × IsTaken r configs file m p)
        ⊎ IsIn p (air_at r configs file end).timetable.waiting
    last (inl done) = inl (d + n, omega arith, omega (arith, is), done)
    last (inr more) =
        let same : suc (d + n) ≡ end = omega (arith, is) in
        inr (subst (λ m. IsIn p (air_at r configs file m).timetable.waiting) same more)

    by : ((m : ℕ) × (n ≤ m) × (m < d + n) × IsTaken r configs file m p)
        ⊎ IsIn p (air_at r configs file (d + n)).timetable.waiting
        → ((m : ℕ) × (n ≤ m) × (m < end) × IsTaken r configs file m p)
        ⊎ IsIn p (air_at r configs file end).timetable.waiting
    by (inl x) = inl (x.0, x.1, omega (arith, x.2, is), x.3)
    by (inr x) = last (one_step r configs file (d + n) p x)

-- ---- the end

in_above : (m : ℕ) (p : Planned) (ws : List Pending) → Rises m ws → IsIn p ws
    → m ≤ p.event.moment
in_above m p [] h g = absurd g
in_above m p (q ∷ ws) h (inl is) =
    subst (λ (x : Pending). m ≤ at x) (sym is) h.0
in_above m p (q ∷ ws) h (inr more) =
    let le = in_above (at q) p ws h.1 more in omega (arith, le, h.0)

none_in : (m until : ℕ) (p : Planned) (ws : List Pending) → Rises m ws → NoneWaits until ws
    → IsIn p ws → until < p.event.moment
none_in m until p [] h none g = absurd g
none_in m until p (q ∷ ws) h none (inl is) =
    subst (λ (x : Pending). until < at x) (sym is) none
none_in m until p (q ∷ ws) h none (inr more) =
    let le = in_above (at q) p ws h.1 more in omega (arith, le, none)

-- in a run that is over nothing waits that is due
pub none_left : (r : Rules) (configs : List Config) (file : List Filed) (n : ℕ) (p : Planned)
    → IsOver r (air_at r configs file n) → IsIn p (air_at r configs file n).timetable.waiting
    → r.until < p.event.moment
none_left r configs file n p over h =
    let a = in_order r configs file n in
    none_in a.moment r.until p (air_at r configs file n).timetable.waiting a.waits over h

-- what is heard waits
pub heard_waits : (r : Rules) (configs : List Config) (a : AirModel) (p : Planned)
    (rest : List Pending) (k i j : ℕ)
    → given (world_run (opening configs) (a.done ++ p.event ∷ [])).log ≡ Some k
    → slice_get (heard_by r.range a.present
    (world_run (opening configs) (a.done ++ p.event ∷ [])) p.event.station) i ≡ Some j
    → r.loss ≤ draw_of i a.timetable.draws % 100
    → IsIn (delivery k (p.event.moment + r.delay) j)
    (once_done r configs a p rest).timetable.waiting
heard_waits r configs a p rest k i j gives at' kept =
    let after = world_run (opening configs) (a.done ++ p.event ∷ []) in
    let t = rest_of a rest in
    let q = delivery k (p.event.moment + r.delay) j in
    let u = spread r a.present p.event after t in
    come_more q r a.present p after t
    (again_more q p.event p.traffic (follow_tick p after u)
    (follow_more q p after u
    (subst (λ (o : Option ℕ). IsIn q (spread_frame r a.present p.event after o t).waiting)
    (sym gives)
    (sent r.loss k (p.event.moment + r.delay) i j
    (heard_by r.range a.present after p.event.station) t at' kept))))

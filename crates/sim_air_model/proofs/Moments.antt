-- The moments of the events of an air never fall.
use Rattle.std.proofs.Common.{◌≡◌, ℕ, zero, suc, ◌+◌, ◌≤◌, List, [], ◌∷◌, ◌++◌, map, refl}
use Rattle.std.proofs.Common.{arith, Bool, true, false, cond, subst, Option, Some, None, length}
use Rattle.std.specs.Prelude.{nat_le, nat_lt, All, ◌-◌, ◌%◌, slice_get, not, ◌&&◌}
use Rattle.std.specs.List.Sorted.{IsNonDecreasingBy}
use Rattle.std.proofs.Math.Nat.{le-max_left}
use Rattle.std.proofs.lemmas.Bool.{leb-true, leb-false}
use Rattle.std.proofs.lemmas.List.Elements.{All-push}
use Rattle.std.proofs.lemmas.List.Sorted.{IsNonDecreasingBy-push, IsNonDecreasingBy-short}
use Rattle.its_model.specs.Station.{StationModel}
use Rattle.its_model.specs.World.{Config, Event, WorldModel, opening, world_run}
use Rattle.sim_air_model.specs.Heard.{air_at}
use Rattle.sim_air_model.specs.Timetable.{Rules, Planned, Timetable, AirModel, schedule}
use Rattle.sim_air_model.specs.Timetable.{schedule_all}
use Rattle.sim_air_model.specs.Timetable.{draw}
use Rattle.sim_air_model.specs.Timetable.{draw_alone, draw_and_schedule, delivery, send, send_all}
use Rattle.sim_air_model.specs.Timetable.{given}
use Rattle.sim_air_model.specs.Timetable.{spread, spread_frame, heard_by, tick_again, follow_tick}
use Rattle.sim_air_model.specs.Timetable.{schedule_first_ticks, tick, is_tick, was_refused, of_file}
use Rattle.sim_air_model.specs.Timetable.{air_step, do_first, do_one, take_one, with_ticks}
use Rattle.sim_air_model.specs.Timetable.{schedule_traffic}
use Rattle.sim_air_model.specs.Timetable.{Traffic, sending, send_again, schedule_first_sends}
use Rattle.sim_air_model.specs.Timetable.{schedule_tick}
use Rattle.sim_air_model.specs.Timetable.{at, Pending, Filed, is_present, schedule_send}
use Rattle.sim_air_model.specs.Timetable.{is_passed_over}
use Rattle.sim_air_model.specs.Timetable.{after_one, follow_all, comes, come, come_ticking}
use Rattle.sim_air_model.specs.Timetable.{come_sending}
use Rattle.sim_air_model.specs.Timetable.{come_sending_all, none_waits, is_tick_of, is_send_of}
use Rattle.sim_air_model.specs.Timetable.Pending.{Does, Departs}

-- the moments rise along what waits, from this one on
abbrev pub Rises : ℕ → List Pending → Type 0
Rises m [] = Unit {0}
Rises m (p ∷ ws) = (m ≤ at p) × Rises (at p) ws

lower : (m n : ℕ) (ws : List Pending) → n ≤ m → Rises m ws → Rises n ws
lower m n [] le h = tt
lower m n (p ∷ ws) le h = (omega (arith, le, h.0), h.1)

schedule_rises : (m : ℕ) (p : Pending) (ws : List Pending) → Rises m ws → m ≤ at p
    → Rises m (schedule p ws)
schedule_rises m p [] h le = (le, tt)
schedule_rises m p (q ∷ ws) h le =
    by (λ below. schedule_rises (at q) p ws h.1 below) (nat_le (at q) (at p)) refl
  where
    by : (at q ≤ at p → Rises (at q) (schedule p ws)) → (b : Bool) → nat_le (at q) (at p) ≡ b
        → Rises m (cond b (q ∷ schedule p ws) (p ∷ q ∷ ws))
    by on true is = (h.0, on (leb-true (at q) (at p) is))
    by on false is =
        let lt = leb-false (at q) (at p) is in (le, (omega (arith, lt), h.1))

pub schedule_all_rises : (es : List Filed) (ws : List Pending) → Rises 0 ws
    → Rises 0 (schedule_all (map of_file es) ws)
schedule_all_rises [] ws h = h
schedule_all_rises (e ∷ es) ws h =
    schedule_all_rises es (schedule (of_file e) ws) (schedule_rises 0 (of_file e) ws h
    (omega arith))

pub send_rises : (low loss k m j : ℕ) (t : Timetable) → Rises low t.waiting → low ≤ m
    → Rises low (send loss k m j t).waiting
send_rises low loss k m j t h le = by (nat_lt (draw t % 100) loss)
  where
    by : (b : Bool)
        → Rises low (cond b (draw_alone t) (draw_and_schedule (delivery k m j) t)).waiting
    by true = h
    by false = schedule_rises low (Does (delivery k m j)) t.waiting h le

send_all_rises : (low loss k m : ℕ) (js : List ℕ) (t : Timetable) → Rises low t.waiting → low ≤ m
    → Rises low (send_all loss k m js t).waiting
send_all_rises low loss k m [] t h le = h
send_all_rises low loss k m (j ∷ js) t h le =
    send_all_rises low loss k m js (send loss k m j t) (send_rises low loss k m j t h le) le

pub spread_rises : (r : Rules) (present : List Bool) (e : Event) (after : WorldModel)
    (o : Option ℕ) (t : Timetable) → Rises e.moment t.waiting
    → Rises e.moment (spread_frame r present e after o t).waiting
spread_rises r present e after None t h = h
spread_rises r present e after (Some k) t h =
    send_all_rises e.moment r.loss k (e.moment + r.delay)
    (heard_by r.range present after e.station) t h (omega arith)

again_rises : (e : Event) (s : Option StationModel) (t : Timetable) → Rises e.moment t.waiting
    → Rises e.moment (tick_again e s t).waiting
again_rises e None t h = h
again_rises e (Some s) t h =
    schedule_rises e.moment (Does (tick e.station e.moment s.beacon_from (draw t % 751))) t.waiting
    h
    (le-max_left e.moment (s.beacon_from + draw t % 751))

pub follow_rises : (p : Planned) (after : WorldModel) (t : Timetable)
    → Rises p.event.moment t.waiting → Rises p.event.moment (follow_tick p after t).waiting
follow_rises p after t h =
    by (p.own && (is_tick p.event.what && not (was_refused after.log)))
  where
    by : (b : Bool) → Rises p.event.moment
        (cond b (tick_again p.event (slice_get after.stations p.event.station) t) t).waiting
    by true = again_rises p.event (slice_get after.stations p.event.station) t h
    by false = h

pub sends_again_rise : (e : Event) (o : Option Traffic) (t : Timetable)
    → Rises e.moment t.waiting → Rises e.moment (send_again e o t).waiting
sends_again_rise e None t h = h
sends_again_rise e (Some x) t h =
    schedule_rises e.moment (Does (sending x e.station (e.moment + x.period))) t.waiting h
    (omega arith)

-- a send is put, no earlier than a moment
send_put_rises : (low : ℕ) (x : Traffic) (n m : ℕ) (t : Timetable) → Rises low t.waiting
    → low ≤ m → Rises low (schedule_send x n m t).waiting
send_put_rises low x n m t h le =
    schedule_rises low (Does (sending x n (m + draw t % x.period))) t.waiting h (omega (arith, le))

-- one of two
either_rises : (low : ℕ) (b : Bool) (t u : Timetable) → Rises low t.waiting → Rises low u.waiting
    → Rises low (cond b t u).waiting
either_rises low true t u h g = h
either_rises low false t u h g = g

pub first_sends_rise : (present : List Bool) (x : Traffic) (n : ℕ) (t : Timetable)
    → Rises 0 t.waiting → Rises 0 (schedule_first_sends present x n t).waiting
first_sends_rise present x zero t h = h
first_sends_rise present x (suc n) t h =
    let u = schedule_first_sends present x n t in
    let g = first_sends_rise present x n t h in
    either_rises 0 (is_present present n) (schedule_send x n 0 u) u
    (send_put_rises 0 x n 0 u g (omega arith)) g

pub traffic_rises : (present : List Bool) (every : List Traffic) (n : ℕ) (t : Timetable)
    → Rises 0 t.waiting → Rises 0 (schedule_traffic present every n t).waiting
traffic_rises present [] n t h = h
traffic_rises present (x ∷ every) n t h =
    traffic_rises present every n (schedule_first_sends present x n t)
    (first_sends_rise present x n t h)

pub ticks_rise : (present : List Bool) (n : ℕ) (t : Timetable) → Rises 0 t.waiting
    → Rises 0 (schedule_first_ticks present n t).waiting
ticks_rise present zero t h = h
ticks_rise present (suc n) t h =
    let u = schedule_first_ticks present n t in
    let g = ticks_rise present n t h in
    either_rises 0 (is_present present n) (schedule_tick n 0 0 u) u
    (schedule_rises 0 (Does (tick n 0 0 (draw u % 751))) u.waiting g (omega arith)) g

-- ---- a station comes

come_sending_rises : (every : List Traffic) (n m : ℕ) (t : Timetable) → Rises m t.waiting
    → Rises m (come_sending_all every n m t).waiting
come_sending_rises [] n m t h = h
come_sending_rises (x ∷ every) n m t h =
    come_sending_rises every n m (come_sending x n m t)
    (either_rises m (none_waits (is_send_of x.number n) t) (schedule_send x n m t) t
    (send_put_rises m x n m t h (omega arith)) h)

come_rises : (r : Rules) (n m : ℕ) (t : Timetable) → Rises m t.waiting
    → Rises m (come r n m t).waiting
come_rises r n m t h =
    come_sending_rises r.every n m (come_ticking r.beacons n m t)
    (either_rises m (r.beacons && none_waits (is_tick_of n) t) (schedule_tick n m m t) t
    (schedule_rises m (Does (tick n m m (draw t % 751))) t.waiting h
    (le-max_left m (m + draw t % 751))) h)

-- all that follows an event
pub after_rises : (r : Rules) (present : List Bool) (p : Planned) (after : WorldModel)
    (t : Timetable) → Rises p.event.moment t.waiting
    → Rises p.event.moment (after_one r present p after t).waiting
after_rises r present p after t h =
    let s = spread r present p.event after t in
    let u = follow_all r present p after t in
    let g : Rises p.event.moment u.waiting = sends_again_rise p.event p.traffic
    (follow_tick p after s)
    (follow_rises p after s (spread_rises r present p.event after (given after.log) t h)) in
    either_rises p.event.moment (comes present p.event after)
    (come r p.event.station p.event.moment u) u
    (come_rises r p.event.station p.event.moment u g) g

-- an air whose events are in order: those that are done, then those that wait
pub record IsInOrder (a : AirModel) : Type 0 where
  pub moment : ℕ
  pub waits : Rises moment a.timetable.waiting
  pub past : All (λ e. e.moment ≤ moment) a.done
  pub order : IsNonDecreasingBy (λ e. e.moment) a.done

up : (m n : ℕ) (es : List Event) → m ≤ n → All (λ e. e.moment ≤ m) es → All (λ e. e.moment ≤ n) es
up m n es le h = λ k d lt. let before = h k d lt in omega (arith, le, before)

one_in_order : (r : Rules) (configs : List Config) (a : AirModel) (p : Planned)
    (rest : List Pending) → a.timetable.waiting ≡ Does p ∷ rest → IsInOrder a
    → IsInOrder (do_one r configs a p (record { waiting = rest; draws = a.timetable.draws }))
one_in_order r configs a p rest is h =
    let waits : Rises h.moment (Does p ∷ rest) = subst (Rises h.moment) is h.waits in
    let m = p.event.moment in
    let past : All (λ e. e.moment ≤ m) a.done = up h.moment m a.done waits.0 h.past in
    record {
      moment = m;
      waits = after_rises r a.present p (world_run (opening configs) (a.done ++ p.event ∷ []))
          (record { waiting = rest; draws = a.timetable.draws }) waits.1;
      past = All-push (λ (e : Event). e.moment ≤ m) a.done p.event past (omega arith);
      order = IsNonDecreasingBy-push (λ (e : Event). e.moment) a.done p.event h.order
          (λ d lt. past (length a.done - 1) d (omega (arith, lt)));
    }

-- the first is taken, and nothing done
none_in_order : (a : AirModel) (present : List Bool) (p : Pending) (rest : List Pending)
    → a.timetable.waiting ≡ p ∷ rest → IsInOrder a
    → IsInOrder (record {
      done = a.done;
      timetable = record { waiting = rest; draws = a.timetable.draws };
      present = present;
    })
none_in_order a present p rest is h =
    let waits : Rises h.moment (p ∷ rest) = subst (Rises h.moment) is h.waits in
    record {
      moment = at p;
      waits = waits.1;
      past = up h.moment (at p) a.done waits.0 h.past;
      order = h.order;
    }

take_in_order : (r : Rules) (configs : List Config) (a : AirModel) (p : Pending)
    (rest : List Pending) → a.timetable.waiting ≡ p ∷ rest → IsInOrder a
    → IsInOrder (take_one r configs a p (record { waiting = rest; draws = a.timetable.draws }))
take_in_order r configs a (Departs station moment) rest is h =
    none_in_order a _ (Departs station moment) rest is h
take_in_order r configs a (Does p) rest is h = by (is_passed_over a.present p)
  where
    t : Timetable
    t = record { waiting = rest; draws = a.timetable.draws }

    by : (b : Bool) → IsInOrder (cond b
        (record { done = a.done; timetable = t; present = a.present }) (do_one r configs a p t))
    by true = none_in_order a a.present (Does p) rest is h
    by false = one_in_order r configs a p rest is h

step_in_order : (r : Rules) (configs : List Config) (a : AirModel) → IsInOrder a
    → IsInOrder (air_step r configs a)
step_in_order r configs a h = by a.timetable.waiting refl
  where
    by : (ws : List Pending) → a.timetable.waiting ≡ ws → IsInOrder (do_first r configs a ws)
    by [] is = h
    by (p ∷ rest) is = if_in_time (nat_le (at p) r.until)
      where
        if_in_time : (b : Bool) → IsInOrder (cond b
            (take_one r configs a p (record { waiting = rest; draws = a.timetable.draws })) a)
        if_in_time true = take_in_order r configs a p rest is h
        if_in_time false = h

pub in_order : (r : Rules) (configs : List Config) (file : List Filed) (n : ℕ)
    → IsInOrder (air_at r configs file n)
in_order r configs file zero =
    record {
      moment = 0;
      waits = traffic_rises r.present r.every (length configs) (with_ticks r configs file)
          (ticks_rise r.present (cond r.beacons (length configs) 0) _
          (schedule_all_rises file [] tt));
      past = λ k d lt. absurd (omega (arith, lt));
      order = IsNonDecreasingBy-short (λ (e : Event). e.moment) [] (omega arith);
    }
in_order r configs file (suc n) =
    step_in_order r configs (air_at r configs file n) (in_order r configs file n)

pub moments_never_fall : (r : Rules) (configs : List Config) (file : List Filed) (n : ℕ)
    → IsNonDecreasingBy (λ e. e.moment) (air_at r configs file n).done
moments_never_fall r configs file n = (in_order r configs file n).order

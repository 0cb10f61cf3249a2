-- What is put when a station comes.
use Rattle.std.proofs.Common.{◌≡◌, ℕ, suc, ◌+◌, List, [], ◌∷◌, refl, Bool, true, false, cond}
use Rattle.std.proofs.Common.{◌⊎◌, inl, inr, Some}
use Rattle.std.specs.Prelude.{◌%◌, slice_get, ◌&&◌}
use Rattle.std.proofs.lemmas.Bool.{and_parts}
use Rattle.its_model.specs.World.{WorldModel}
use Rattle.sim_air_model.specs.Timetable.{Rules, Planned, Pending, Timetable, Traffic, draw, tick}
use Rattle.sim_air_model.specs.Timetable.{sending}
use Rattle.sim_air_model.specs.Timetable.{schedule, at, schedule_tick, schedule_send, come}
use Rattle.sim_air_model.specs.Timetable.{come_ticking}
use Rattle.sim_air_model.specs.Timetable.{come_sending}
use Rattle.sim_air_model.specs.Timetable.{come_sending_all, comes, after_one, follow_all}
use Rattle.sim_air_model.specs.Timetable.{none_waits}
use Rattle.sim_air_model.specs.Timetable.{is_tick_of, is_send_of}
use Rattle.sim_air_model.specs.Timetable.Pending.{Does}
use Rattle.std.specs.Prelude.{nat_le}
use Rattle.sim_air_model.proofs.Lasting.{IsIn}

same_does : (q v : Planned) → Does q ≡ Does v → q ≡ v
same_does q v is = cc

-- what waits once one more was put is that one, or waited before
pub planned_any : (q : Planned) (v : Pending) (ws : List Pending) → IsIn q (schedule v ws)
    → (Does q ≡ v) ⊎ IsIn q ws
planned_any q v [] (inl is) = inl is
planned_any q v [] (inr g) = absurd g
planned_any q v (w ∷ ws) h = by (λ g. planned_any q v ws g) (nat_le (at w) (at v)) h
  where
    by : (IsIn q (schedule v ws) → (Does q ≡ v) ⊎ IsIn q ws) → (b : Bool)
        → IsIn q (cond b (w ∷ schedule v ws) (v ∷ w ∷ ws))
        → (Does q ≡ v) ⊎ ((Does q ≡ w) ⊎ IsIn q ws)
    by on true (inl is) = inr (inl is)
    by on true (inr more) = behind (on more)
      where
        behind : (Does q ≡ v) ⊎ IsIn q ws → (Does q ≡ v) ⊎ ((Does q ≡ w) ⊎ IsIn q ws)
        behind (inl is) = inl is
        behind (inr x) = inr (inr x)
    by on false g = g

pub planned_is : (q v : Planned) (ws : List Pending) → IsIn q (schedule (Does v) ws)
    → (q ≡ v) ⊎ IsIn q ws
planned_is q v ws h = by (planned_any q (Does v) ws h)
  where
    by : (Does q ≡ Does v) ⊎ IsIn q ws → (q ≡ v) ⊎ IsIn q ws
    by (inl is) = inl (same_does q v is)
    by (inr g) = inr g

-- it is the tick of a station that comes at a moment
abbrev pub IsComeTick : Bool → ℕ → ℕ → Planned → Type 0
IsComeTick beacons n m q = (jitter : ℕ) × (beacons ≡ true) × (q ≡ tick n m m jitter)

-- it is its send of one of these
abbrev pub IsComeSend : List Traffic → ℕ → ℕ → Planned → Type 0
IsComeSend every n m q =
    (place : ℕ) × (x : Traffic) × (slice_get every place ≡ Some x) × (drawn : ℕ)
    × (q ≡ sending x n (m + drawn % x.period))

ticking_of : (beacons : Bool) (n m : ℕ) (q : Planned) (t : Timetable)
    → IsIn q (come_ticking beacons n m t).waiting → IsIn q t.waiting ⊎ IsComeTick beacons n m q
ticking_of beacons n m q t h = by (beacons && none_waits (is_tick_of n) t) refl h
  where
    by : (b : Bool) → (beacons && none_waits (is_tick_of n) t) ≡ b
        → IsIn q (cond b (schedule_tick n m m t) t).waiting
        → IsIn q t.waiting ⊎ IsComeTick beacons n m q
    by false is g = inl g
    by true is g = told (planned_is q (tick n m m (draw t % 751)) t.waiting g)
      where
        told : (q ≡ tick n m m (draw t % 751)) ⊎ IsIn q t.waiting
            → IsIn q t.waiting ⊎ IsComeTick beacons n m q
        told (inl one) = inr (draw t % 751, (and_parts beacons _ is).0, one)
        told (inr x) = inl x

-- it is put for one traffic
sending_of : (x : Traffic) (n m : ℕ) (q : Planned) (t : Timetable)
    → IsIn q (come_sending x n m t).waiting
    → IsIn q t.waiting ⊎ ((drawn : ℕ) × (q ≡ sending x n (m + drawn % x.period)))
sending_of x n m q t h = by (none_waits (is_send_of x.number n) t) h
  where
    by : (b : Bool) → IsIn q (cond b (schedule_send x n m t) t).waiting
        → IsIn q t.waiting ⊎ ((drawn : ℕ) × (q ≡ sending x n (m + drawn % x.period)))
    by false g = inl g
    by true g = told (planned_is q (sending x n (m + draw t % x.period)) t.waiting g)
      where
        told : (q ≡ sending x n (m + draw t % x.period)) ⊎ IsIn q t.waiting
            → IsIn q t.waiting ⊎ ((drawn : ℕ) × (q ≡ sending x n (m + drawn % x.period)))
        told (inl one) = inr (draw t, one)
        told (inr g') = inl g'

sending_all_of : (every : List Traffic) (n m : ℕ) (q : Planned) (t : Timetable)
    → IsIn q (come_sending_all every n m t).waiting → IsIn q t.waiting ⊎ IsComeSend every n m q
sending_all_of [] n m q t h = inl h
sending_all_of (x ∷ every) n m q t h = by (sending_all_of every n m q (come_sending x n m t) h)
  where
    first : IsIn q t.waiting ⊎ ((drawn : ℕ) × (q ≡ sending x n (m + drawn % x.period)))
        → IsIn q t.waiting ⊎ IsComeSend (x ∷ every) n m q
    first (inl g) = inl g
    first (inr g) = inr (0, x, refl, g.0, g.1)

    by : IsIn q (come_sending x n m t).waiting ⊎ IsComeSend every n m q
        → IsIn q t.waiting ⊎ IsComeSend (x ∷ every) n m q
    by (inl g) = first (sending_of x n m q t g)
    by (inr g) = inr (suc g.0, g.1, g.2, g.3, g.4)

-- what follows an event followed it before its station came, or is what the station puts then
pub after_of : (r : Rules) (present : List Bool) (p q : Planned) (after : WorldModel)
    (t : Timetable)
    → IsIn q (after_one r present p after t).waiting
    → IsIn q (follow_all r present p after t).waiting
    ⊎ ((comes present p.event after ≡ true)
    × (IsComeTick r.beacons p.event.station p.event.moment q
    ⊎ IsComeSend r.every p.event.station p.event.moment q))
after_of r present p q after t h = by (comes present p.event after) refl h
  where
    n : ℕ
    n = p.event.station

    m : ℕ
    m = p.event.moment

    u : Timetable
    u = follow_all r present p after t

    by : (b : Bool) → comes present p.event after ≡ b → IsIn q (cond b (come r n m u) u).waiting
        → IsIn q u.waiting
        ⊎ ((comes present p.event after ≡ true)
        × (IsComeTick r.beacons n m q ⊎ IsComeSend r.every n m q))
    by false is g = inl g
    by true is g = sends (sending_all_of r.every n m q (come_ticking r.beacons n m u) g)
      where
        ticks : IsIn q u.waiting ⊎ IsComeTick r.beacons n m q
            → IsIn q u.waiting
            ⊎ ((comes present p.event after ≡ true)
            × (IsComeTick r.beacons n m q ⊎ IsComeSend r.every n m q))
        ticks (inl x) = inl x
        ticks (inr x) = inr (is, inl x)

        sends : IsIn q (come_ticking r.beacons n m u).waiting ⊎ IsComeSend r.every n m q
            → IsIn q u.waiting
            ⊎ ((comes present p.event after ≡ true)
            × (IsComeTick r.beacons n m q ⊎ IsComeSend r.every n m q))
        sends (inl x) = ticks (ticking_of r.beacons n m q u x)
        sends (inr x) = inr (is, inr x)

-- The sends of an air's traffic: each is the first of its station, or comes a period after another,
-- or is that of a station that came.
use Rattle.std.proofs.Common.{◌≡◌, ℕ, zero, suc, ◌+◌, ◌≤◌, ◌<◌, List, [], ◌∷◌, refl, sym, ap}
use Rattle.std.proofs.Common.{◌∙◌, arith, Bool, true, false, cond, subst, Option, Some, None, ◌⊎◌}
use Rattle.std.proofs.Common.{inl, inr, map, length}
use Rattle.std.specs.Prelude.{◌%◌, slice_get, not, ◌&&◌}
use Rattle.its_model.specs.Station.{StationModel}
use Rattle.its_model.specs.World.{Config, Event, WorldModel}
use Rattle.sim_air_model.specs.Heard.{air_at, IsDone, IsFirstSend}
use Rattle.sim_air_model.specs.Heard.{HasSendReason, world_after, SendsGoOn, SendsAreDue}
use Rattle.sim_air_model.specs.Timetable.{Rules, Planned, Timetable, AirModel, schedule}
use Rattle.sim_air_model.specs.Timetable.{schedule_all}
use Rattle.sim_air_model.specs.Timetable.{draw, of_file}
use Rattle.sim_air_model.specs.Timetable.{given, heard_by, spread, spread_frame, tick_again}
use Rattle.sim_air_model.specs.Timetable.{follow_tick, follow_all, tick, is_tick, was_refused}
use Rattle.sim_air_model.specs.Timetable.{schedule_tick}
use Rattle.sim_air_model.specs.Timetable.{schedule_first_ticks, with_file, with_ticks}
use Rattle.sim_air_model.specs.Timetable.{schedule_traffic}
use Rattle.sim_air_model.specs.Timetable.{schedule_send}
use Rattle.sim_air_model.specs.Timetable.{Traffic, sending, send_again, schedule_first_sends}
use Rattle.sim_air_model.specs.Timetable.{is_present}
use Rattle.sim_air_model.specs.Timetable.{Pending, Filed, comes, by_file}
use Rattle.sim_air_model.specs.Timetable.Pending.{Does}
use Rattle.sim_air_model.specs.Timetable.Filed.{Happens, Leaves}
use Rattle.sim_air_model.proofs.Comings.{planned_is, planned_any, after_of, IsComeTick, IsComeSend}
use Rattle.sim_air_model.proofs.Heard.{schedule_is_taken, done_if_present, sent_of, IsSent}
use Rattle.sim_air_model.proofs.Lasting.{IsIn, IsDropped, step_does, step_case, schedule_self}
use Rattle.sim_air_model.proofs.Lasting.{come_more}
use Rattle.sim_air_model.proofs.Lasting.{rest_of}

-- ---- a send is followed

sent_again : (e : Event) (o : Option Traffic) (x : Traffic) (t : Timetable) → o ≡ Some x
    → IsIn (sending x e.station (e.moment + x.period)) (send_again e o t).waiting
sent_again e o x t is =
    let q = sending x e.station (e.moment + x.period) in
    subst (λ (y : Option Traffic). IsIn q (send_again e y t).waiting) (sym is)
    (schedule_self q t.waiting)

pub sends_go_on : (r : Rules) (configs : List Config) (file : List Filed)
    → SendsGoOn r configs file
sends_go_on r configs file end n p x done is over due =
    let q = sending x p.event.station (p.event.moment + x.period) in
    let t = schedule_is_taken r configs file end n p q done over
    (subst (λ (a : AirModel). IsIn q a.timetable.waiting)
    (sym (step_does r configs file n p done))
    (come_more q r a.present p after (rest_of a done.rest)
    (sent_again p.event p.traffic x
    (follow_tick p after (spread r a.present p.event after (rest_of a done.rest))) is))) due in
    (t.0, t.1, t.2, done_if_present r configs file t.0 q t.3)
  where
    a : AirModel
    a = air_at r configs file n

    after : WorldModel
    after = world_after r configs file n p

-- ---- a send has a reason

-- what is put without traffic is no send
plain : (q v : Planned) (x : Traffic) (ws : List Pending) → v.traffic ≡ None → q.traffic ≡ Some x
    → IsIn q (schedule (Does v) ws) → IsIn q ws
plain q v x ws none sends h = by (planned_is q v ws h)
  where
    by : (q ≡ v) ⊎ IsIn q ws → IsIn q ws
    by (inl is) =
        let both : Some x ≡ None = sym sends ∙ ap (λ (y : Planned). y.traffic) is ∙ none in
        let no : ⊥ = cc in absurd no
    by (inr g) = g

-- what the file has is no send
not_of_file : (q : Planned) (x : Traffic) (e : Filed) → q.traffic ≡ Some x → Does q ≡ of_file e → ⊥
not_of_file q x (Happens e) sends is =
    let same : q ≡ by_file e = cc in
    let both : Some x ≡ None = sym sends ∙ ap (λ (y : Planned). y.traffic) same in
    cc
not_of_file q x (Leaves station moment) sends is = cc

file_kept : (q : Planned) (x : Traffic) (es : List Filed) (ws : List Pending) → q.traffic ≡ Some x
    → IsIn q (schedule_all (map of_file es) ws) → IsIn q ws
file_kept q x [] ws sends h = h
file_kept q x (e ∷ es) ws sends h =
    by (planned_any q (of_file e) ws (file_kept q x es (schedule (of_file e) ws) sends h))
  where
    by : (Does q ≡ of_file e) ⊎ IsIn q ws → IsIn q ws
    by (inl is) = absurd (not_of_file q x e sends is)
    by (inr g) = g

ticks_kept : (q : Planned) (x : Traffic) (present : List Bool) (n : ℕ) (t : Timetable)
    → q.traffic ≡ Some x → IsIn q (schedule_first_ticks present n t).waiting → IsIn q t.waiting
ticks_kept q x present zero t sends h = h
ticks_kept q x present (suc n) t sends h =
    ticks_kept q x present n t sends (by (is_present present n) h)
  where
    u : Timetable
    u = schedule_first_ticks present n t

    by : (b : Bool) → IsIn q (cond b (schedule_tick n 0 0 u) u).waiting → IsIn q u.waiting
    by true g = plain q (tick n 0 0 (draw u % 751)) x u.waiting refl sends g
    by false g = g

follow_kept : (q p : Planned) (x : Traffic) (after : WorldModel) (t : Timetable)
    → q.traffic ≡ Some x → IsIn q (follow_tick p after t).waiting → IsIn q t.waiting
follow_kept q p x after t sends h =
    by (p.own && (is_tick p.event.what && not (was_refused after.log)))
    (slice_get after.stations p.event.station) h
  where
    by : (b : Bool) (s : Option StationModel) → IsIn q (cond b (tick_again p.event s t) t).waiting
        → IsIn q t.waiting
    by false s g = g
    by true None g = g
    by true (Some s) g =
        plain q (tick p.event.station p.event.moment s.beacon_from (draw t % 751)) x t.waiting refl
        sends g

spread_kept : (q : Planned) (x : Traffic) (r : Rules) (present : List Bool) (e : Event)
    (after : WorldModel) (o : Option ℕ) (t : Timetable) → q.traffic ≡ Some x
    → IsIn q (spread_frame r present e after o t).waiting → IsIn q t.waiting
spread_kept q x r present e after None t sends h = h
spread_kept q x r present e after (Some k) t sends h =
    by (sent_of q r.loss k (e.moment + r.delay) (heard_by r.range present after e.station) t h)
  where
    by : IsIn q t.waiting
        ⊎ IsSent q r.loss k (e.moment + r.delay) (heard_by r.range present after e.station) t
        → IsIn q t.waiting
    by (inl g) = g
    by (inr g) =
        let both : Some x ≡ None = sym sends ∙ ap (λ (y : Planned). y.traffic) g.4 in
        let no : ⊥ = cc in absurd no

-- two sends that are one are of one traffic
same_traffic : (q : Planned) (x y : Traffic) (n m : ℕ) → q ≡ sending y n m → q.traffic ≡ Some x
    → y ≡ x
same_traffic q x y n m is sends =
    let both : Some y ≡ Some x = sym (ap (λ (p : Planned). p.traffic) is) ∙ sends in cc

-- the first sends of one traffic
abbrev IsOneOf : List Bool → Traffic → ℕ → Planned → Type 0
IsOneOf present y count q =
    (station : ℕ) × (drawn : ℕ) × (station < count) × (is_present present station ≡ true)
    × (q ≡ sending y station (drawn % y.period))

one_of : (q : Planned) (present : List Bool) (y : Traffic) (count n : ℕ) (t : Timetable) → n ≤ count
    → IsIn q (schedule_first_sends present y n t).waiting
    → IsOneOf present y count q ⊎ IsIn q t.waiting
one_of q present y count zero t le h = inr h
one_of q present y count (suc n) t le h =
    by (λ g. one_of q present y count n t (omega (arith, le)) g) (is_present present n) refl h
  where
    u : Timetable
    u = schedule_first_sends present y n t

    at_once : 0 + draw u % y.period ≡ draw u % y.period
    at_once = omega arith

    told : (IsIn q u.waiting → IsOneOf present y count q ⊎ IsIn q t.waiting)
        → is_present present n ≡ true
        → (q ≡ sending y n (0 + draw u % y.period)) ⊎ IsIn q u.waiting
        → IsOneOf present y count q ⊎ IsIn q t.waiting
    told on there (inl is) =
        inl (n, draw u, omega (arith, le), there, is ∙ ap (sending y n) at_once)
    told on there (inr g) = on g

    by : (IsIn q u.waiting → IsOneOf present y count q ⊎ IsIn q t.waiting) → (b : Bool)
        → is_present present n ≡ b → IsIn q (cond b (schedule_send y n 0 u) u).waiting
        → IsOneOf present y count q ⊎ IsIn q t.waiting
    by on true there g =
        told on there (planned_is q (sending y n (0 + draw u % y.period)) u.waiting g)
    by on false there g = on g

-- the first sends of all traffic
abbrev IsOneOfAll : List Bool → List Traffic → ℕ → Planned → Type 0
IsOneOfAll present every count q =
    (place : ℕ) × (y : Traffic) × (slice_get every place ≡ Some y) × IsOneOf present y count q

one_of_all : (q : Planned) (present : List Bool) (every : List Traffic) (count : ℕ) (t : Timetable)
    → IsIn q (schedule_traffic present every count t).waiting
    → IsOneOfAll present every count q ⊎ IsIn q t.waiting
one_of_all q present [] count t h = inr h
one_of_all q present (y ∷ every) count t h =
    by (one_of_all q present every count (schedule_first_sends present y count t) h)
  where
    first : IsOneOf present y count q ⊎ IsIn q t.waiting
        → IsOneOfAll present (y ∷ every) count q ⊎ IsIn q t.waiting
    first (inl g) = inl (0, y, refl, g)
    first (inr g) = inr g

    by : IsOneOfAll present every count q ⊎ IsIn q (schedule_first_sends present y count t).waiting
        → IsOneOfAll present (y ∷ every) count q ⊎ IsIn q t.waiting
    by (inl g) = inl (suc g.0, g.1, g.2, g.3)
    by (inr g) = first (one_of q present y count count t (omega arith) g)

first_of : (r : Rules) (configs : List Config) (q : Planned) (x : Traffic) → q.traffic ≡ Some x
    → IsOneOfAll r.present r.every (length configs) q → IsFirstSend r configs q x
first_of r configs q x sends g =
    let same = same_traffic q x g.1 g.3.0 (g.3.1 % g.1.period) g.3.4 sends in
    record {
      place = g.0;
      traffic = g.2 ∙ ap (λ (y : Traffic). Some y) same;
      station = g.3.0;
      among = g.3.2;
      present = g.3.3;
      drawn = g.3.1;
      is = g.3.4 ∙ ap (λ (y : Traffic). sending y g.3.0 (g.3.1 % y.period)) same;
    }

next_on : (r : Rules) (configs : List Config) (file : List Filed) (m : ℕ) (q : Planned)
    (x : Traffic)
    → HasSendReason r configs file m q x → HasSendReason r configs file (suc m) q x
next_on r configs file m q x (inl g) = inl g
next_on r configs file m q x (inr (inl g)) =
    let before = g.earlier in
    inr (inl (record {
      n = g.n;
      p = g.p;
      earlier = omega (arith, before);
      done = g.done;
      traffic = g.traffic;
      is = g.is;
    }))
next_on r configs file m q x (inr (inr g)) =
    let before = g.earlier in
    inr (inr (record {
      n = g.n;
      p = g.p;
      earlier = omega (arith, before);
      coming = g.coming;
      place = g.place;
      traffic = g.traffic;
      drawn = g.drawn;
      is = g.is;
    }))

-- what follows a step is what waited, or the next send, or that of a station that comes
next_of : (r : Rules) (configs : List Config) (file : List Filed) (m : ℕ) (p q : Planned)
    (x : Traffic) → IsDone r configs file m p
    → IsIn q (air_at r configs file (suc m)).timetable.waiting → q.traffic ≡ Some x
    → IsIn q (air_at r configs file m).timetable.waiting
    ⊎ HasSendReason r configs file (suc m) q x
next_of r configs file m p q x d h sends =
    whole (after_of r a.present p q after t
    (subst (λ (y : AirModel). IsIn q y.timetable.waiting) (step_does r configs file m p d) h))
  where
    a : AirModel
    a = air_at r configs file m

    after : WorldModel
    after = world_after r configs file m p

    n : ℕ
    n = p.event.station

    moment : ℕ
    moment = p.event.moment

    t : Timetable
    t = rest_of a d.rest

    s : Timetable
    s = spread r a.present p.event after t

    u : Timetable
    u = follow_tick p after s

    Goal : Type 0
    Goal = IsIn q a.timetable.waiting ⊎ HasSendReason r configs file (suc m) q x

    kept : IsIn q u.waiting → Goal
    kept g =
        inl (subst (IsIn q) (sym d.first)
        (inr (spread_kept q x r a.present p.event after (given after.log) t sends
        (follow_kept q p x after s sends g))))

    by : (o : Option Traffic) → p.traffic ≡ o → IsIn q (send_again p.event o u).waiting → Goal
    by None is g = kept g
    by (Some y) is g =
        told (planned_is q (sending y n (moment + y.period)) u.waiting g)
      where
        told : (q ≡ sending y n (moment + y.period)) ⊎ IsIn q u.waiting → Goal
        told (inr k) = kept k
        told (inl one) =
            let same = same_traffic q x y n (moment + y.period) one sends in
            inr (inr (inl (record {
              n = m;
              p = p;
              earlier = omega arith;
              done = d;
              traffic = is ∙ ap (λ (z : Traffic). Some z) same;
              is = one ∙ ap (λ (z : Traffic). sending z n (moment + z.period)) same;
            })))

    comes_so : comes a.present p.event after ≡ true
        → IsComeTick r.beacons n moment q ⊎ IsComeSend r.every n moment q → Goal
    comes_so is (inl k) =
        let both : Some x ≡ None = sym sends ∙ ap (λ (y : Planned). y.traffic) k.2 in
        let no : ⊥ = cc in absurd no
    comes_so is (inr k) =
        let same = same_traffic q x k.1 n (moment + k.3 % k.1.period) k.4 sends in
        inr (inr (inr (record {
          n = m;
          p = p;
          earlier = omega arith;
          coming = record { done = d; comes = is };
          place = k.0;
          traffic = k.2 ∙ ap (λ (z : Traffic). Some z) same;
          drawn = k.3;
          is = k.4 ∙ ap (λ (z : Traffic). sending z n (moment + k.3 % z.period)) same;
        })))

    whole : IsIn q (follow_all r a.present p after t).waiting
        ⊎ ((comes a.present p.event after ≡ true)
        × (IsComeTick r.beacons n moment q ⊎ IsComeSend r.every n moment q)) → Goal
    whole (inl g) = by p.traffic refl g
    whole (inr g) = comes_so g.0 g.1

-- each send that waits has its reason
waits_sent : (r : Rules) (configs : List Config) (file : List Filed) (m : ℕ) (q : Planned)
    (x : Traffic) → IsIn q (air_at r configs file m).timetable.waiting → q.traffic ≡ Some x
    → HasSendReason r configs file m q x
waits_sent r configs file zero q x h sends =
    by (one_of_all q r.present r.every (length configs) (with_ticks r configs file) h)
  where
    by : IsOneOfAll r.present r.every (length configs) q
        ⊎ IsIn q (with_ticks r configs file).waiting
        → HasSendReason r configs file 0 q x
    by (inl g) = inl (first_of r configs q x sends g)
    by (inr g) =
        absurd (file_kept q x file [] sends
        (ticks_kept q x r.present (cond r.beacons (length configs) 0) (with_file r file) sends g))
waits_sent r configs file (suc m) q x h sends =
    by (λ g. waits_sent r configs file m q x g sends) (step_case r configs file m)
  where
    a : AirModel
    a = air_at r configs file m

    by : (IsIn q a.timetable.waiting → HasSendReason r configs file m q x)
        → (air_at r configs file (suc m) ≡ a)
        ⊎ (IsDropped r configs file m ⊎ ((p : Planned) × IsDone r configs file m p))
        → HasSendReason r configs file (suc m) q x
    by on (inl same) =
        next_on r configs file m q x
        (on (subst (λ (y : AirModel). IsIn q y.timetable.waiting) same h))
    by on (inr (inl d)) =
        next_on r configs file m q x
        (on (subst (IsIn q) (sym d.first) (inr (subst (IsIn q) d.left h))))
    by on (inr (inr d)) = either (next_of r configs file m d.0 q x d.1 h sends)
      where
        either : IsIn q a.timetable.waiting ⊎ HasSendReason r configs file (suc m) q x
            → HasSendReason r configs file (suc m) q x
        either (inl g) = next_on r configs file m q x (on g)
        either (inr g) = g

pub sends_are_due : (r : Rules) (configs : List Config) (file : List Filed)
    → SendsAreDue r configs file
sends_are_due r configs file m q x d sends =
    waits_sent r configs file m q x (subst (IsIn q) (sym d.first) (inl refl)) sends

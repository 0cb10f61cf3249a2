-- A queue and a generator keep a timetable, once more was put or drawn.
use Rattle.std.proofs.Common.{◌≡◌, ℕ, ◌+◌, ◌%◌, ◌<◌, List, [], ◌∷◌, ◌++◌, refl, sym, ap, ◌∙◌}
use Rattle.std.proofs.Common.{subst, cond, Bool, true, false, max}
use Rattle.std.proofs.Common.{suc, length, arith}
use Rattle.std.specs.Prelude.{nat_lt}
use Rattle.std.specs.Prelude.{OnOk}
use Rattle.std.proofs.Common.{Result, Ok, Err}
use Rattle.std.specs.List.Sorted.{IsPermutation}
use Rattle.std.proofs.lemmas.Bool.{lt-ltb, ltb-true}
use Rattle.rand_core.specs.Stream.{Stream, next_u64}
use Rattle.sim_queue.specs.declared.scheduled.AirAction.TheVariants as owns
use Rattle.sim_queue.specs.declared.scheduled.Scheduled.{Scheduled}
use Rattle.sim_queue.specs.declared.queue.Queue.{Queue}
use Rattle.sim_air_model.specs.Draws.{draws_at}
use Rattle.sim_queue.specs.Keeps.{Keeps}
use Rattle.sim_air_model.specs.Timetable.{Timetable, Planned, draw, draw_and_schedule, draw_alone}
use Rattle.sim_air_model.specs.Timetable.{delivery, send}
use Rattle.sim_air_model.specs.Timetable.{send_all, tick}
use Rattle.sim_air_model.specs.Timetable.{schedule_alone, schedule_traffic, schedule_first_sends}
use Rattle.sim_air_model.specs.Timetable.{Pending}
use Rattle.sim_air_model.specs.Timetable.{Traffic, come_sending, come_sending_all}
use Rattle.sim_settings.specs.declared.traffic.Traffic.{Traffic as Flow}
use Rattle.sim_queue.specs.Traffics.{traffic_of, traffic_from}
use Rattle.sim_queue.specs.Waits.{Waits, planned_of}
use Rattle.sim_queue.proofs.Waits.{waits_put}

-- the same, of a number that is the same
waits_at : (heap : List Scheduled) (n n' : ℕ) (ws : List Pending) → n' ≡ n → Waits heap n ws
    → Waits heap n' ws
waits_at heap n n' ws same h = subst (λ x. Waits heap x ws) (sym same) h

-- one more was put, by one draw
pub keeps_put : (old new : Queue) (before after : List ℕ) (t : Timetable) (x : Scheduled)
    (p : Planned)
    → IsPermutation (x ∷ old.own) new.own
    → new.pushed ≡ old.pushed + 1 → x.place ≡ old.pushed → planned_of x ≡ p
    → draws_at after ≡ (next_u64 (draws_at before)).1
    → Keeps old before t → Keeps new after (draw_and_schedule p t)
keeps_put old new before after t x p moves count place is drawn h =
    record {
      waits = subst (λ (q : Planned). Waits new.own new.pushed (draw_and_schedule q t).waiting) is
          (waits_at new.own (old.pushed + 1) _ _ count
          (waits_put old.own new.own old.pushed t.waiting x moves place h.waits));
      draws = ap (λ (s : Stream). (next_u64 s).1) h.draws ∙ sym drawn;
    }

-- one more was put, and none was drawn
pub keeps_put_alone : (old new : Queue) (words : List ℕ) (t : Timetable) (x : Scheduled)
    (p : Planned)
    → IsPermutation (x ∷ old.own) new.own
    → new.pushed ≡ old.pushed + 1 → x.place ≡ old.pushed → planned_of x ≡ p
    → Keeps old words t → Keeps new words (schedule_alone p t)
keeps_put_alone old new words t x p moves count place is h =
    record {
      waits = subst (λ (q : Planned). Waits new.own new.pushed (schedule_alone q t).waiting) is
          (waits_at new.own (old.pushed + 1) _ _ count
          (waits_put old.own new.own old.pushed t.waiting x moves place h.waits));
      draws = h.draws;
    }

-- none was put, by one draw
pub keeps_draw : (queue : Queue) (before after : List ℕ) (t : Timetable)
    → draws_at after ≡ (next_u64 (draws_at before)).1
    → Keeps queue before t → Keeps queue after (draw_alone t)
keeps_draw queue before after t drawn h =
    record {
      waits = h.waits;
      draws = ap (λ (s : Stream). (next_u64 s).1) h.draws ∙ sym drawn;
    }

-- what is drawn is what the timetable draws
pub drawn_is : (queue : Queue) (words : List ℕ) (t : Timetable) → Keeps queue words t
    → draw t ≡ (next_u64 (draws_at words)).0
drawn_is queue words t h = ap (λ (s : Stream). (next_u64 s).0) h.draws

-- the tick that is put
pub tick_is : (station moment beacon_from m place jitter drawn : ℕ)
    → m ≡ max moment (beacon_from + jitter) → jitter ≡ drawn % 751
    → planned_of (record { moment = m; place = place; station = station; own = owns.Tick jitter })
    ≡ tick station moment beacon_from (drawn % 751)
tick_is station moment beacon_from m place jitter drawn at is =
    ap (λ n. planned_of (record {
      moment = n;
      place = place;
      station = station;
      own = owns.Tick
          jitter;
    })) at
    ∙ ap (tick station moment beacon_from) is

-- one traffic more
pub traffic_more : (xs : List Flow) (x : Flow) (k n : ℕ) → n ≡ k + length xs
    → traffic_from k (xs ++ x ∷ []) ≡ traffic_from k xs ++ traffic_of n x ∷ []
traffic_more [] x k n is =
    let same : n ≡ k = omega (arith, is) in
    ap (λ m. traffic_of m x ∷ []) (sym same)
traffic_more (y ∷ xs) x k n is =
    ap (λ (l : List Traffic). traffic_of k y ∷ l) (traffic_more xs x (suc k) n (omega (arith, is)))

-- its first sends
pub first_sends_more : (present : List Bool) (ys : List Traffic) (y : Traffic) (n : ℕ)
    (t : Timetable)
    → schedule_traffic present (ys ++ y ∷ []) n t
    ≡ schedule_first_sends present y n (schedule_traffic present ys n t)
first_sends_more present [] y n t = refl
first_sends_more present (x ∷ ys) y n t =
    first_sends_more present ys y n (schedule_first_sends present x n t)

-- that of a station that comes
pub coming_more : (ys : List Traffic) (y : Traffic) (n m : ℕ) (t : Timetable)
    → come_sending_all (ys ++ y ∷ []) n m t ≡ come_sending y n m (come_sending_all ys n m t)
coming_more [] y n m t = refl
coming_more (x ∷ ys) y n m t = coming_more ys y n m (come_sending x n m t)

-- a delivery that is lost, and one that isn't
pub keeps_lost : (queue : Queue) (before after : List ℕ) (t : Timetable)
    (loss frame moment station : ℕ) → draws_at after ≡ (next_u64 (draws_at before)).1
    → (next_u64 (draws_at before)).0 % 100 < loss → Keeps queue before t
    → Keeps queue after (send loss frame moment station t)
keeps_lost queue before after t loss frame moment station drawn lost h =
    let is : nat_lt (draw t % 100) loss ≡ true =
    ap (λ n. nat_lt (n % 100) loss) (drawn_is queue before t h)
    ∙ lt-ltb ((next_u64 (draws_at before)).0 % 100) loss lost in
    subst (λ (b : Bool). Keeps queue after (cond b (draw_alone t)
    (draw_and_schedule (delivery frame moment station) t))) (sym is)
    (keeps_draw queue before after t drawn h)

pub keeps_sent : (old new : Queue) (before after : List ℕ) (t : Timetable)
    (loss frame moment station : ℕ)
    → IsPermutation (record {
      moment = moment;
      place = old.pushed;
      station = station;
      own =
          owns.Deliver frame;
    }
    ∷ old.own) new.own
    → new.pushed ≡ old.pushed + 1 → draws_at after ≡ (next_u64 (draws_at before)).1
    → ((next_u64 (draws_at before)).0 % 100 < loss → ⊥) → Keeps old before t
    → Keeps new after (send loss frame moment station t)
keeps_sent old new before after t loss frame moment station moves count drawn kept h =
    let is : nat_lt (draw t % 100) loss ≡ false =
    ap (λ n. nat_lt (n % 100) loss) (drawn_is old before t h)
    ∙ no_less ((next_u64 (draws_at before)).0 % 100) loss kept in
    subst (λ (b : Bool). Keeps new after (cond b (draw_alone t)
    (draw_and_schedule (delivery frame moment station) t))) (sym is)
    (keeps_put old new before after t
    (record { moment = moment; place = old.pushed; station = station; own = owns.Deliver frame })
    (delivery frame moment station) moves count refl refl drawn h)
  where
    no_less : (a b : ℕ) → (a < b → ⊥) → nat_lt a b ≡ false
    no_less a b never = by (nat_lt a b) refl
      where
        by : (t : Bool) → nat_lt a b ≡ t → nat_lt a b ≡ false
        by false is = is
        by true is = absurd (never (ltb-true a b is))

-- one station more
pub send_all_more : (loss frame moment : ℕ) (js : List ℕ) (j : ℕ) (t : Timetable)
    → send_all loss frame moment (js ++ j ∷ []) t
    ≡ send loss frame moment j (send_all loss frame moment js t)
send_all_more loss frame moment [] j t = refl
send_all_more loss frame moment (i ∷ js) j t =
    send_all_more loss frame moment js j (send loss frame moment i t)

-- ---- results

pub on_ok : {X E : Type 0} (r : Result X E) (P Q : Type 0) → (P → Q) → OnOk r P → OnOk r Q
on_ok (Ok x) P Q f h = f h
on_ok (Err e) P Q f h = tt

pub on_ok_both : {X E : Type 0} (r : Result X E) (P Q R : Type 0) → (P → Q → R) → OnOk r P
    → OnOk r Q → OnOk r R
on_ok_both (Ok x) P Q R f h g = f h g
on_ok_both (Err e) P Q R f h g = tt

pub on_ok_from : {X E : Type 0} (r : Result X E) (P : Type 0) → P → OnOk r P
on_ok_from (Ok x) P p = p
on_ok_from (Err e) P p = tt

-- How many of a kind wait.
use Rattle.std.proofs.Common.{◌≡◌, ℕ, ◌+◌, List, [], ◌∷◌, ◌++◌, map, refl, ap, ◌∙◌, arith}
use Rattle.std.proofs.Common.{Bool, true, false, cond}
use Rattle.std.specs.Prelude.{count_by, nat_le, ◌==◌}
use Rattle.std.proofs.lemmas.List.Sums.{sum_by-cons, sum_by_push}
use Rattle.sim_queue.specs.declared.queue.Queue.{Queue}
use Rattle.sim_queue.specs.declared.scheduled.Scheduled.{Scheduled}
use Rattle.sim_queue.specs.Keeps.{Keeps}
use Rattle.sim_queue.specs.Waiting.{is_tick_at, is_send_at}
use Rattle.sim_air_model.specs.Timetable.{Pending, Filed, Timetable, at, of_file, schedule}
use Rattle.sim_air_model.specs.Timetable.{schedule_all}
use Rattle.sim_air_model.specs.Timetable.{is_tick_of, is_send_of, none_waits}
use Rattle.sim_air_model.specs.Timetable.Filed.{Happens, Leaves}
use Rattle.sim_queue.specs.Waits.{Waits, pending_of}

abbrev bit : Bool → ℕ
bit b = cond b 1 0

count_more : {X : Type 0} (kind : X → Bool) (x : X) (xs : List X)
    → count_by kind (x ∷ xs) ≡ bit (kind x) + count_by kind xs
count_more kind x xs = sum_by-cons (λ y. cond (kind y) 1 0) x xs

-- one more at the end
pub count_push : {X : Type 0} (kind : X → Bool) (xs : List X) (x : X)
    → count_by kind (xs ++ x ∷ []) ≡ count_by kind xs + bit (kind x)
count_push kind xs x = let a = sum_by_push (λ y. cond (kind y) 1 0) xs x in omega (arith, a)

-- one more was put
count_put : (kind : Pending → Bool) (p : Pending) (ws : List Pending)
    → count_by kind (schedule p ws) ≡ bit (kind p) + count_by kind ws
count_put kind p [] = count_more kind p []
count_put kind p (q ∷ ws) = by (nat_le (at q) (at p)) (count_put kind p ws)
  where
    by : (b : Bool) → count_by kind (schedule p ws) ≡ bit (kind p) + count_by kind ws
        → count_by kind (cond b (q ∷ schedule p ws) (p ∷ q ∷ ws))
        ≡ bit (kind p) + count_by kind (q ∷ ws)
    by true more =
        let a = count_more kind q (schedule p ws) in
        let b = count_more kind q ws in omega (arith, a, b, more)
    by false more = count_more kind p (q ∷ ws)

pub count_put_all : (kind : Pending → Bool) (ps ws : List Pending)
    → count_by kind (schedule_all ps ws) ≡ count_by kind ps + count_by kind ws
count_put_all kind [] ws = let none : count_by kind [] ≡ 0 = refl in omega (arith, none)
count_put_all kind (p ∷ ps) ws =
    let a = count_put_all kind ps (schedule p ws) in
    let b = count_put kind p ws in
    let c = count_more kind p ps in omega (arith, a, b, c)

-- none of the file is of the kind
pub count_file : (kind : Pending → Bool) → ((e : Filed) → kind (of_file e) ≡ false)
    → (es : List Filed) → count_by kind (map of_file es) ≡ 0
count_file kind none [] = refl
count_file kind none (e ∷ es) =
    let a = count_more kind (of_file e) (map of_file es) in
    let b = ap bit (none e) in
    let c = count_file kind none es in omega (arith, a, b, c)

-- those of the air's own
count_own : (kind : Pending → Bool) (one : Scheduled → Bool)
    → ((w : Scheduled) → kind (pending_of w) ≡ one w) → (own : List Scheduled)
    → count_by kind (map pending_of own) ≡ count_by one own
count_own kind one same [] = refl
count_own kind one same (w ∷ own) =
    let a = count_more kind (pending_of w) (map pending_of own) in
    let b = count_more one w own in
    let c = ap bit (same w) in
    let d = count_own kind one same own in omega (arith, a, b, c, d)

-- as many wait as are in the heap
counted : (kind : Pending → Bool) (one : Scheduled → Bool)
    → ((w : Scheduled) → kind (pending_of w) ≡ one w)
    → (heap : List Scheduled) (count : ℕ) (ws : List Pending)
    → Waits heap count ws → count_by kind ws ≡ count_by one heap
counted kind one same heap count ws h =
    let a = count_put_all kind (map pending_of h.own) [] in
    let b = count_own kind one same h.own in
    let c : count_by kind [] ≡ 0 = refl in
    let d : count_by one h.own ≡ count_by one heap = h.same (λ w. cond (one w) 1 0) in
    ap (count_by kind) h.is ∙ omega (arith, a, b, c, d)

pub no_tick : (station : ℕ) (e : Filed) → is_tick_of station (of_file e) ≡ false
no_tick station (Happens e) = refl
no_tick station (Leaves other moment) = refl

pub no_send : (number station : ℕ) (e : Filed) → is_send_of number station (of_file e) ≡ false
no_send number station (Happens e) = refl
no_send number station (Leaves other moment) = refl

-- no tick of a station waits where none is in the heap
pub no_tick_waits : (queue : Queue) (words : List ℕ) (t : Timetable) (station : ℕ)
    → Keeps queue words t
    → none_waits (is_tick_of station) t
    ≡ (count_by (is_tick_at station) queue.own == 0)
no_tick_waits queue words t station h =
    ap (λ (n : ℕ). n == 0)
    (counted (is_tick_of station) (is_tick_at station) (λ w. refl) _ _ t.waiting h.waits)

-- and no send of a traffic
pub no_send_waits : (queue : Queue) (words : List ℕ) (t : Timetable) (number station : ℕ)
    → Keeps queue words t
    → none_waits (is_send_of number station) t
    ≡ (count_by (is_send_at number station) queue.own == 0)
no_send_waits queue words t number station h =
    ap (λ (n : ℕ). n == 0)
    (counted (is_send_of number station) (is_send_at number station) (λ w. refl) _ _
    t.waiting h.waits)

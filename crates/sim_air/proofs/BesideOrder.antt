-- What waits in the order of moments, and what is put there.
use Rattle.std.proofs.Common.{◌≡◌, ℕ, ◌≤◌, ◌<◌, List, [], ◌∷◌, ◌++◌, map, refl, sym, ap, ◌∙◌}
use Rattle.std.proofs.Common.{arith, Bool, true, false, cond}
use Rattle.std.specs.Prelude.{nat_le}
use Rattle.std.specs.List.{AllByRecursion}
use Rattle.std.proofs.lemmas.Bool.{leb-true, leb-false}
use Rattle.sim_air_model.specs.Timetable.{moment_in}
use Rattle.sim_air.specs.Beside.{InOrder, Rises, IsFrom}
use Rattle.sim_air_model.specs.Timetable.{Pending, Filed, at, of_file, schedule, schedule_all}
use Rattle.sim_air_model.specs.Timetable.{NoneWaits}
use Rattle.sim_air_model.proofs.Putting.{schedule_front, schedule_behind, schedule_all_behind}
use Rattle.sim_air_model.proofs.Putting.{schedule_above}

-- ---- of all

pub all_by : {X : Type 0} (P Q : X → Type 0) (xs : List X) → ((x : X) → P x → Q x)
    → AllByRecursion P xs → AllByRecursion Q xs
all_by P Q [] f h = tt
all_by P Q (x ∷ xs) f h = (f x h.0, all_by P Q xs f h.1)

pub all_push : {X : Type 0} (P : X → Type 0) (xs : List X) (x : X) → AllByRecursion P xs → P x
    → AllByRecursion P (xs ++ x ∷ [])
all_push P [] x h p = (p, tt)
all_push P (y ∷ xs) x h p = (h.0, all_push P xs x h.1 p)

-- of all that wait once one was put
pub all_put : (P : Pending → Type 0) (p : Pending) (ws : List Pending) → P p
    → AllByRecursion P ws → AllByRecursion P (schedule p ws)
all_put P p [] one h = (one, tt)
all_put P p (q ∷ ws) one h = by (all_put P p ws one h.1) (nat_le (at q) (at p))
  where
    by : AllByRecursion P (schedule p ws) → (b : Bool)
        → AllByRecursion P (cond b (q ∷ schedule p ws) (p ∷ q ∷ ws))
    by on true = (h.0, on)
    by on false = (one, h)

-- no earlier than a moment, and than one before
pub all_from : (m n : ℕ) (ws : List Pending) → n ≤ m → AllByRecursion (λ q. m ≤ at q) ws
    → AllByRecursion (λ q. n ≤ at q) ws
all_from m n ws le h =
    all_by (λ (q : Pending). m ≤ at q) (λ (q : Pending). n ≤ at q) ws
    (λ q a. omega (arith, le, a)) h

-- later than a moment
pub all_past : (m n : ℕ) (ws : List Pending) → n < m → AllByRecursion (λ q. m ≤ at q) ws
    → AllByRecursion (λ q. n < at q) ws
all_past m n ws lt h =
    all_by (λ (q : Pending). m ≤ at q) (λ (q : Pending). n < at q) ws
    (λ q a. omega (arith, lt, a)) h

-- what a file has waits no earlier than its moments
pub all_of_file : (m : ℕ) (file : List Filed) → IsFrom m file
    → AllByRecursion (λ q. m ≤ at q) (map of_file file)
all_of_file m [] h = tt
all_of_file m (f ∷ file) h = (h.0, all_of_file m file h.1)

-- ---- in order

pub schedule_in_order : (p : Pending) (ws : List Pending) → InOrder ws → InOrder (schedule p ws)
schedule_in_order p [] h = (tt, tt)
schedule_in_order p (q ∷ ws) h = by (schedule_in_order p ws h.1) (nat_le (at q) (at p)) refl
  where
    by : InOrder (schedule p ws) → (b : Bool) → nat_le (at q) (at p) ≡ b
        → InOrder (cond b (q ∷ schedule p ws) (p ∷ q ∷ ws))
    by on true is =
        (all_put (λ (x : Pending). at q ≤ at x) p ws (leb-true (at q) (at p) is) h.0, on)
    by on false is =
        let lt = leb-false (at q) (at p) is in
        ((omega (arith, lt), all_from (at q) (at p) ws (omega (arith, lt)) h.0), h)

-- what waits in order stays as it is, once it is put
pub schedule_all_in_order : (ws : List Pending) → InOrder ws → schedule_all ws [] ≡ ws
schedule_all_in_order [] h = refl
schedule_all_in_order (p ∷ ws) h =
    schedule_all_behind ws p [] h.0 ∙ ap (λ (l : List Pending). p ∷ l)
    (schedule_all_in_order ws h.1)

-- a file whose moments never fall waits as it stands
pub file_in_order : (file : List Filed) → Rises file → InOrder (map of_file file)
file_in_order [] h = tt
file_in_order (f ∷ file) h = (all_of_file (moment_in f) file h.0, file_in_order file h.1)

-- ---- the order of putting

-- of two moments it doesn't matter which is put first
schedule_both : (p q : Pending) (ws : List Pending) → at p < at q
    → schedule q (schedule p ws) ≡ schedule p (schedule q ws)
schedule_both p q [] lt =
    schedule_behind q p [] (omega (arith, lt)) ∙ sym (schedule_front p (q ∷ []) lt)
schedule_both p q (x ∷ ws) lt = by (schedule_both p q ws lt) (nat_le (at x) (at p)) refl
  where
    by : schedule q (schedule p ws) ≡ schedule p (schedule q ws) → (b : Bool) → nat_le (at x) (at p)
        ≡ b
        → schedule q (schedule p (x ∷ ws)) ≡ schedule p (schedule q (x ∷ ws))
    by on true is =
        let le = leb-true (at x) (at p) is in
        ap (schedule q) (schedule_behind p x ws le) ∙ schedule_behind q x (schedule p ws)
        (omega (arith, le, lt))
        ∙ ap (λ (l : List Pending). x ∷ l) on
        ∙ sym (ap (schedule p) (schedule_behind q x ws (omega (arith, le, lt)))
        ∙ schedule_behind p x (schedule q ws) le)
    by on false is =
        let above = leb-false (at x) (at p) is in
        ap (schedule q) (schedule_front p (x ∷ ws) above)
        ∙ schedule_behind q p (x ∷ ws) (omega (arith, lt))
        ∙ sym (schedule_front p (schedule q (x ∷ ws)) (schedule_above (at p) q (x ∷ ws) above lt))

-- one before all of these
schedule_before : (p : Pending) (ws fs : List Pending) → AllByRecursion (λ q. at p < at q) ws
    → schedule_all ws (schedule p fs) ≡ schedule p (schedule_all ws fs)
schedule_before p [] fs h = refl
schedule_before p (q ∷ ws) fs h =
    ap (schedule_all ws) (schedule_both p q fs h.0) ∙ schedule_before p ws (schedule q fs) h.1

-- one more of what waits in order
pub schedule_later : (p : Pending) (ws fs : List Pending) → InOrder ws
    → schedule_all (schedule p ws) fs ≡ schedule p (schedule_all ws fs)
schedule_later p [] fs h = refl
schedule_later p (q ∷ ws) fs h = by (schedule_later p ws (schedule q fs) h.1) (nat_le (at q) (at p))
    refl
  where
    by : schedule_all (schedule p ws) (schedule q fs) ≡ schedule p (schedule_all ws (schedule q fs))
        → (b : Bool)
        → nat_le (at q) (at p) ≡ b
        → schedule_all (cond b (q ∷ schedule p ws) (p ∷ q ∷ ws)) fs
        ≡ schedule p (schedule_all ws (schedule q fs))
    by on true is = on
    by on false is =
        let lt = leb-false (at q) (at p) is in
        schedule_before p (q ∷ ws) fs (lt, all_past (at q) (at p) ws lt h.0)

-- ---- the first of all

-- one of the air's own, before all of the file
pub own_first : (p : Pending) (ws fs : List Pending) → InOrder (p ∷ ws) → NoneWaits (at p) fs
    → schedule_all (p ∷ ws) fs ≡ p ∷ schedule_all ws fs
own_first p ws fs h none =
    ap (schedule_all ws) (schedule_front p fs none) ∙ schedule_all_behind ws p fs h.0

-- What waits, once more is put.
use Rattle.std.proofs.Common.{◌≡◌, ℕ, ◌<◌, ◌≤◌, List, [], ◌∷◌, ◌++◌, refl, ap, ◌∙◌}
use Rattle.std.proofs.Common.{Bool, true, false, cond}
use Rattle.std.specs.Prelude.{nat_le}
use Rattle.std.specs.List.{AllByRecursion}
use Rattle.std.proofs.lemmas.Bool.{le-leb, lt-leb}
use Rattle.sim_air_model.specs.Timetable.{Pending, at, schedule, schedule_all, NoneWaits}

-- it goes in front of what is later
pub schedule_front : (p : Pending) (ws : List Pending) → NoneWaits (at p) ws → schedule p ws
    ≡ p ∷ ws
schedule_front p [] h = refl
schedule_front p (q ∷ ws) h =
    ap (λ (b : Bool). cond b (q ∷ schedule p ws) (p ∷ q ∷ ws)) (lt-leb (at q) (at p) h)

-- it goes behind what is no later
pub schedule_behind : (p q : Pending) (ws : List Pending) → at q ≤ at p → schedule p (q ∷ ws)
    ≡ q ∷ schedule p ws
schedule_behind p q ws h =
    ap (λ (b : Bool). cond b (q ∷ schedule p ws) (p ∷ q ∷ ws)) (le-leb (at q) (at p) h)

pub schedule_all_behind : (ps : List Pending) (q : Pending) (ws : List Pending)
    → AllByRecursion (λ p. at q ≤ at p) ps → schedule_all ps (q ∷ ws) ≡ q ∷ schedule_all ps ws
schedule_all_behind [] q ws h = refl
schedule_all_behind (p ∷ ps) q ws h =
    ap (schedule_all ps) (schedule_behind p q ws h.0) ∙ schedule_all_behind ps q (schedule p ws) h.1

-- all that waits is later than a moment, as before
pub schedule_above : (m : ℕ) (p : Pending) (ws : List Pending) → NoneWaits m ws → m < at p
    → NoneWaits m (schedule p ws)
schedule_above m p [] h lt = lt
schedule_above m p (q ∷ ws) h lt = by (nat_le (at q) (at p))
  where
    by : (b : Bool) → NoneWaits m (cond b (q ∷ schedule p ws) (p ∷ q ∷ ws))
    by true = h
    by false = lt

pub schedule_all_above : (m : ℕ) (ps : List Pending) (ws : List Pending) → NoneWaits m ws
    → AllByRecursion (λ p. m < at p) ps → NoneWaits m (schedule_all ps ws)
schedule_all_above m [] ws h all = h
schedule_all_above m (p ∷ ps) ws h all =
    schedule_all_above m ps (schedule p ws) (schedule_above m p ws h all.0) all.1

-- one more is put
pub schedule_all_push : (ps : List Pending) (p : Pending) (ws : List Pending)
    → schedule_all (ps ++ p ∷ []) ws ≡ schedule p (schedule_all ps ws)
schedule_all_push [] p ws = refl
schedule_all_push (q ∷ ps) p ws = schedule_all_push ps p (schedule q ws)

-- what comes before all others is in front
pub schedule_all_first : (us : List Pending) (p : Pending) (vs ws : List Pending)
    → AllByRecursion (λ a. at p < at a) us → AllByRecursion (λ b. at p ≤ at b) vs
    → NoneWaits (at p) ws → schedule_all (us ++ p ∷ vs) ws ≡ p ∷ schedule_all (us ++ vs) ws
schedule_all_first [] p vs ws above behind none =
    ap (schedule_all vs) (schedule_front p ws none) ∙ schedule_all_behind vs p ws behind
schedule_all_first (a ∷ us) p vs ws above behind none =
    schedule_all_first us p vs (schedule a ws) above.1 behind (schedule_above (at p) a ws none
    above.0)

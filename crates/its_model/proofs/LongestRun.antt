-- A session is the longest run of a source's packets up to a moment.
use Rattle.std.proofs.Common.{◌≡◌, ℕ, ◌+◌, ◌<◌, ◌≤◌, List, [], ◌∷◌, ◌++◌, length, Bool, true, false}
use Rattle.std.proofs.Common.{cond, refl, ap, subst, sym, inl, inr, arith}
use Rattle.std.specs.Prelude.{filter, map}
use Rattle.std.specs.Int.{abs_diff}
use Rattle.its_model.specs.History.{Reception, entry_life, is_from, of_source, unbroken, session}
use Rattle.its_model.specs.History.{moments_to, AreNear, IsLongestRun, NeverFell}
use Rattle.its_model.proofs.NumberTests.{lt_test}

-- the moments of packets
abbrev moments_of : List Reception → List ℕ
moments_of receptions = map (λ r. r.moment) receptions

-- ---- the run

-- one moment has no neighbour
no_neighbour : (moment : ℕ) (newer older : List ℕ) (later earlier : ℕ)
    → moment ∷ [] ≡ newer ++ later ∷ earlier ∷ older → ⊥
no_neighbour moment [] older later earlier e = cc
no_neighbour moment (x ∷ []) older later earlier e = cc
no_neighbour moment (x ∷ y ∷ newer) older later earlier e = cc

-- one more moment that is near
near_more : (first second : ℕ) (moments : List ℕ) → first < second + entry_life
    → AreNear (second ∷ moments) → AreNear (first ∷ second ∷ moments)
near_more first second moments lt near [] older later earlier e =
    let l : first ≡ later = cc in
    let s : second ≡ earlier = cc in
    omega (arith, l, s, lt)
near_more first second moments lt near (x ∷ newer) older later earlier e =
    near newer older later earlier (cc)

-- a run with one more packet that is near
run_more : (moment : ℕ) (r : Reception) (older run : List Reception)
    → moment < r.moment + entry_life → IsLongestRun older r.moment run
    → IsLongestRun (r ∷ older) moment (r ∷ run)
run_more moment r older run lt is = record {
  rest = is.rest;
  front = ap (λ rs. r ∷ rs) is.front;
  near = near_more moment r.moment (moments_of run) lt is.near;
  longest = is.longest;
}

-- an empty run, where the newest packet came too long before
run_over : (moment : ℕ) (r : Reception) (older : List Reception) → r.moment + entry_life ≤ moment
    → IsLongestRun (r ∷ older) moment []
run_over moment r older le = record {
  rest = r ∷ older;
  front = refl;
  near = λ newer more later earlier e. absurd (no_neighbour moment newer more later earlier e);
  longest = λ x xs e. (let is : r ≡ x = cc in
      omega (arith, ap (λ (y : Reception). y.moment) is, le));
}

-- what is unbroken up to a moment is the longest run
pub unbroken-longest : (moment : ℕ) (receptions : List Reception)
    → IsLongestRun receptions moment (unbroken moment receptions)
unbroken-longest moment [] = record {
  rest = [];
  front = refl;
  near = λ newer more later earlier e. absurd (no_neighbour moment newer more later earlier e);
  longest = λ r older e. cc;
}
unbroken-longest moment (r ∷ older) =
    elim (lt_test moment (r.moment + entry_life)) [
      | inl e ↦ rw e.0
          (run_more moment r older (unbroken r.moment older) e.1 (unbroken-longest r.moment older))
      | inr e ↦ rw e.0 (run_over moment r older e.1)
    ]

-- no front of these packets is longer in which all moments are near
pub none_longer : (moment : ℕ) (run rest : List Reception) → AreNear (moments_to moment run)
    → length run ≤ length (unbroken moment (run ++ rest))
none_longer moment [] rest near = omega arith
none_longer moment (r ∷ run) rest near =
    let lt : moment < r.moment + entry_life = near [] (moments_of run) moment r.moment refl in
    let tail : AreNear (moments_to r.moment run) =
    λ newer older later earlier e.
    near (moment ∷ newer) older later earlier (ap (λ ms. moment ∷ ms) e) in
    let more = none_longer r.moment run rest tail in
    elim (lt_test moment (r.moment + entry_life)) [
      | inl e ↦ rw e.0 (omega (arith, more))
      | inr e ↦ absurd (omega (arith, e.1, lt))
    ]

-- ---- moments that never fell

-- nor up to a later moment
fell_later : (earlier later : ℕ) (receptions : List Reception) → earlier ≤ later
    → NeverFell earlier receptions → NeverFell later receptions
fell_later earlier later [] le h = tt
fell_later earlier later (r ∷ older) le h = (omega (arith, h.0, le), h.1)

-- nor those of some of the packets
fell_filter : (p : Reception → Bool) (moment : ℕ) (receptions : List Reception)
    → NeverFell moment receptions → NeverFell moment (filter p receptions)
fell_filter p moment [] h = tt
fell_filter p moment (r ∷ older) h = one (p r) (fell_filter p r.moment older h.1)
  where
    one : (b : Bool) → NeverFell r.moment (filter p older)
        → NeverFell moment (cond b (r ∷ filter p older) (filter p older))
    one true g = (h.0, g)
    one false g = fell_later r.moment moment (filter p older) h.0 g

-- nor those of what is unbroken
fell_unbroken : (moment : ℕ) (receptions : List Reception) → NeverFell moment receptions
    → NeverFell moment (unbroken moment receptions)
fell_unbroken moment [] h = tt
fell_unbroken moment (r ∷ older) h =
    let more = fell_unbroken r.moment older h.1 in
    elim (lt_test moment (r.moment + entry_life)) [
      | inl e ↦ rw e.0 (h.0, more)
      | inr e ↦ rw e.0 tt
    ]

-- of two neighbours the one behind isn't later
in_order : (moment : ℕ) (run : List Reception) → NeverFell moment run
    → (newer older : List ℕ) (later earlier : ℕ)
    → moments_to moment run ≡ newer ++ later ∷ earlier ∷ older → earlier ≤ later
in_order moment [] h newer older later earlier e =
    absurd (no_neighbour moment newer older later earlier e)
in_order moment (r ∷ run) h [] older later earlier e =
    let l : moment ≡ later = cc in
    let s : r.moment ≡ earlier = cc in
    omega (arith, l, s, h.0)
in_order moment (r ∷ run) h (x ∷ newer) older later earlier e =
    in_order r.moment run h.1 newer older later earlier (cc)

-- so neighbours in a session are less than an entry's life apart, whichever is later
pub session_apart : (source moment : ℕ) (history : List Reception) (newer older : List ℕ)
    (later earlier : ℕ) → NeverFell moment history
    → moments_to moment (session source moment history) ≡ newer ++ later ∷ earlier ∷ older
    → abs_diff later earlier < entry_life
session_apart source moment history newer older later earlier h e =
    let mine = fell_unbroken moment (of_source source history)
    (fell_filter (is_from source) moment history h) in
    let le = in_order moment (session source moment history) mine newer older later earlier e in
    let lt : later < earlier + entry_life =
    (unbroken-longest moment (of_source source history)).near newer older later earlier e in
    omega (arith, le, lt)

-- no front of a source's packets is longer than its session
pub session_longest : (source moment : ℕ) (history run rest : List Reception)
    → of_source source history ≡ run ++ rest → AreNear (moments_to moment run)
    → length run ≤ length (session source moment history)
session_longest source moment history run rest e near =
    subst (λ (rs : List Reception). length run ≤ length (unbroken moment rs)) (sym e)
    (none_longer moment run rest near)

-- When a station's next beacon is due.
use Rattle.std.proofs.Common.{◌≡◌, ℕ, ◌≤◌, ◌<◌, ◌+◌, ◌^◌, ◌⊎◌, Bool, true, false, Some, None}
use Rattle.std.proofs.Common.{cond, inl, inr}
use Rattle.std.proofs.Common.{leb, ltb, refl, ap, ◌∙◌, arith, tests}
use Rattle.std.proofs.lemmas.Bool.{le-ltb}
use Rattle.its_model.specs.Calls.Answer.{Sent, Quiet, Refused}
use Rattle.its_model.specs.Calls.OwnCall.{Tick}
use Rattle.its_model.specs.Calls.Refusal.{MomentEarlier, MomentTooLate, JitterRange}
use Rattle.its_model.specs.Station.{StationModel, Step, moment_refusal, own_step, performed, first}
use Rattle.its_model.specs.Station.{beacon_of, after_sending}
use Rattle.its_station.proofs.Stations.{own_done, own_refused}

timely : (s : StationModel) (now : ℕ) → s.clock ≤ now → now ≤ 2 ^ 62 → moment_refusal s now ≡ None
timely s now from to =
    λ i. cond (le-ltb now s.clock from i) (Some MomentEarlier)
    (cond (le-ltb (2 ^ 62) now to i) (Some MomentTooLate) None)

done : (s : StationModel) (now jitter : ℕ) → jitter ≤ 750 → s.clock ≤ now → now ≤ 2 ^ 62
    → own_step s now (Tick jitter) ≡ performed s now (Tick jitter)
done s now jitter short from to =
    own_done s now (Tick jitter) (λ i. first (timely s now from to i)
    (cond (le-ltb 750 jitter short i) (Some JitterRange) None))

abbrev by_due : StationModel → ℕ → Bool → Step
by_due s now due =
    cond due (record { answer = Sent (beacon_of s); station = after_sending s now })
    (record { answer = Quiet; station = record s { clock = now } })

is_due : (from now : ℕ) → from ≤ now → leb from now ≡ true
is_due from now le = grind (arith, tests)

is_early : (from now : ℕ) → now < from → leb from now ≡ false
is_early from now lt = grind (arith, tests)

-- from its moment on a beacon is given
pub beacon_due_with : (s : StationModel) (now jitter : ℕ) → jitter ≤ 750 → s.clock ≤ now
    → s.beacon_from + jitter ≤ now → now ≤ 2 ^ 62
    → (own_step s now (Tick jitter)).answer ≡ Sent (beacon_of s)
beacon_due_with s now jitter short from due to =
    ap (λ (x : Step). x.answer) (done s now jitter short from to
    ∙ ap (by_due s now) (is_due (s.beacon_from + jitter) now due))

no_beacon : (s : StationModel) (now jitter : ℕ) → jitter ≤ 750 → s.clock ≤ now
    → now < s.beacon_from + jitter → now ≤ 2 ^ 62
    → (own_step s now (Tick jitter)).answer ≡ Quiet
no_beacon s now jitter short from early to =
    ap (λ (x : Step). x.answer) (done s now jitter short from to
    ∙ ap (by_due s now) (is_early (s.beacon_from + jitter) now early))

too_early : (s : StationModel) (now jitter : ℕ) → ltb now s.clock ≡ true
    → (own_step s now (Tick jitter)).answer ≡ Refused MomentEarlier
too_early s now jitter lt =
    ap (λ (x : Step). x.answer) (own_refused s now (Tick jitter) MomentEarlier
    (λ i. first (cond (lt i) (Some MomentEarlier)
    (cond (ltb (2 ^ 62) now) (Some MomentTooLate) None))
    (cond (ltb 750 jitter) (Some JitterRange) None)))

not_before : (a b : ℕ) → ltb a b ≡ false → b ≤ a
not_before a b e = grind (arith, tests, e)

-- and before it none
pub beacon_early_with : (s : StationModel) (now jitter : ℕ) → jitter ≤ 750
    → (s.clock ≤ now → now < s.beacon_from + jitter) → now ≤ 2 ^ 62
    → ((own_step s now (Tick jitter)).answer ≡ Quiet)
    ⊎ ((own_step s now (Tick jitter)).answer ≡ Refused MomentEarlier)
beacon_early_with s now jitter short early to = by (ltb now s.clock) refl
  where
    by : (b : Bool) → ltb now s.clock ≡ b
        → ((own_step s now (Tick jitter)).answer ≡ Quiet)
        ⊎ ((own_step s now (Tick jitter)).answer ≡ Refused MomentEarlier)
    by true e = inr (too_early s now jitter e)
    by false e =
        let from = not_before now s.clock e in
        inl (no_beacon s now jitter short from (early from) to)

-- the same with no jitter
pub beacon_due : (s : StationModel) (now : ℕ) → s.clock ≤ now → s.beacon_from ≤ now → now ≤ 2 ^ 62
    → (own_step s now (Tick 0)).answer ≡ Sent (beacon_of s)
beacon_due s now from due to =
    beacon_due_with s now 0 (omega arith) from (omega (arith, due)) to

pub beacon_early : (s : StationModel) (now : ℕ) → (s.clock ≤ now → now < s.beacon_from)
    → now ≤ 2 ^ 62
    → ((own_step s now (Tick 0)).answer ≡ Quiet)
    ⊎ ((own_step s now (Tick 0)).answer ≡ Refused MomentEarlier)
beacon_early s now early to =
    beacon_early_with s now 0 (omega arith)
    (λ from. let before = early from in omega (arith, before)) to

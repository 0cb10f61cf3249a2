-- Frames that pass a bucket are bounded.
use Rattle.std.proofs.Common.{◌≡◌, ℕ, ◌+◌, ◌-◌, ◌*◌, ◌≤◌, ◌<◌, List, [], ◌∷◌, ◌++◌, refl}
use Rattle.std.proofs.Common.{Bool, true, false, leb, sym, ap, ◌∙◌, arith}
use Rattle.std.proofs.Common.{mul-add, mul-le-mul_left, ◌&&◌}
use Rattle.std.proofs.lemmas.Bool.{leb-true, leb-false, le-leb, false≢true, cond-true}
use Rattle.std.proofs.lemmas.Bool.{cond-false}
use Rattle.its_governor.specs.declared.bucket.Bucket.{Bucket}
use Rattle.its_governor.specs.Bucket.{has_room, drawn, drawn_at, parts_at, MayPass, within}
use Rattle.its_governor.specs.Bucket.{IsBounded}

pub both : (p q : Bool) → (p && q) ≡ true → (p ≡ true) × (q ≡ true)
both true true h = (refl, refl)
both true false h = absurd (false≢true h)
both false true h = absurd (false≢true h)
both false false h = absurd (false≢true h)

-- whether a time is in a stretch
abbrev is_in : ℕ → ℕ → ℕ → Bool
is_in from stretch time = leb from time && leb time (from + stretch)

is_in-true : (from stretch time : ℕ) → from ≤ time → time ≤ from + stretch
    → is_in from stretch time ≡ true
is_in-true from stretch time low high =
    by (leb from time) (leb time (from + stretch))
    (le-leb from time low) (le-leb time (from + stretch) high)
  where
    by : (p q : Bool) → p ≡ true → q ≡ true → (p && q) ≡ true
    by true true a b = refl
    by true false a b = b
    by false q a b = absurd (false≢true a)

is_in-low : (from stretch time : ℕ) → is_in from stretch time ≡ true → from ≤ time
is_in-low from stretch time e =
    leb-true from time (both (leb from time) (leb time (from + stretch)) e).0

is_in-high : (from stretch time : ℕ) → is_in from stretch time ≡ true → time ≤ from + stretch
is_in-high from stretch time e =
    leb-true time (from + stretch) (both (leb from time) (leb time (from + stretch)) e).1

is_in-false : (from stretch time : ℕ) → ((from ≤ time) → (time ≤ from + stretch) → ⊥)
    → is_in from stretch time ≡ false
is_in-false from stretch time out = by (is_in from stretch time) refl
  where
    by : (p : Bool) → is_in from stretch time ≡ p → p ≡ false
    by false e = refl
    by true e =
        let parts = both _ _ e in
        absurd (out (leb-true _ _ parts.0) (leb-true _ _ parts.1))

pub room_since : (b : Bucket) (now : ℕ) → has_room b now ≡ true → b.since ≤ now
room_since b now h = leb-true _ _ (both _ _ h).0

pub room_parts : (b : Bucket) (now : ℕ) → has_room b now ≡ true → 1000 ≤ parts_at b now
room_parts b now h = leb-true _ _ (both _ _ h).1

-- no frame passes before the last one
none_later : (b : Bucket) (from stretch : ℕ) (times : List ℕ) → MayPass b times
    → from + stretch < b.since → within from stretch times ≡ 0
none_later b from stretch [] pass late = refl
none_later b from stretch (time ∷ times) pass late =
    let since = room_since b time pass.0 in
    cond-false (is_in from stretch time) _ _
    (is_in-false from stretch time (λ low high. omega arith))
    ∙ none_later (drawn b time) from stretch times pass.1 (omega arith)

-- what one step adds
pub sum_of_parts : (rate a b c : ℕ) → a + b ≡ c → rate * a + rate * b ≡ rate * c
sum_of_parts rate a b c e = sym (mul-add rate a b) ∙ ap (λ n. rate * n) e

-- a time outside of the stretch that isn't before it is after it
is_late : (from stretch time : ℕ) → from ≤ time → is_in from stretch time ≡ false
    → from + stretch < time
is_late from stretch time low out = by (leb time (from + stretch)) refl
  where
    by : (p : Bool) → leb time (from + stretch) ≡ p → from + stretch < time
    by true e =
        absurd (false≢true
        (sym out ∙ is_in-true from stretch time low (leb-true time (from + stretch) e)))
    by false e = leb-false time (from + stretch) e

-- a count with one more time, in the stretch or not
counted_in : (from stretch time : ℕ) (times : List ℕ) → is_in from stretch time ≡ true
    → within from stretch (time ∷ times) ≡ within from stretch times + 1
counted_in from stretch time times e = cond-true (is_in from stretch time) _ _ e

passed_by : (from stretch time : ℕ) (times : List ℕ) → is_in from stretch time ≡ false
    → within from stretch (time ∷ times) ≡ within from stretch times
passed_by from stretch time times e = cond-false (is_in from stretch time) _ _ e

-- by whether a time is in the stretch: once a frame has passed in it
inside_by : (b : Bucket) (from stretch time : ℕ) (times : List ℕ)
    → has_room b time ≡ true → MayPass (drawn b time) times → from ≤ b.since
    → b.since ≤ from + stretch
    → (time ≤ from + stretch → 1000 * within from stretch times
    ≤ parts_at b time - 1000 + b.rate.per_second * (from + stretch - time))
    → (p : Bool) → is_in from stretch time ≡ p
    → 1000 * within from stretch (time ∷ times)
    ≤ b.parts + b.rate.per_second * (from + stretch - b.since)
inside_by b from stretch time times room pass begun ends rest true e =
    let high : time ≤ from + stretch = is_in-high from stretch time e in
    let since = room_since b time room in
    let enough = room_parts b time room in
    let less : 1000 * within from stretch times
    ≤ parts_at b time - 1000 + b.rate.per_second * (from + stretch - time) = rest high in
    let step : b.rate.per_second * (time - b.since) + b.rate.per_second * (from + stretch - time)
    ≡ b.rate.per_second * (from + stretch - b.since) = sum_of_parts b.rate.per_second (time - b.since) (from + stretch - time)
    (from + stretch - b.since) (omega arith) in
    let one = counted_in from stretch time times e in
    omega (arith, less, step, one, enough)
inside_by b from stretch time times room pass begun ends rest false e =
    let since = room_since b time room in
    let late = is_late from stretch time (omega arith) e in
    let none = none_later (drawn b time) from stretch times pass late in
    let skip = passed_by from stretch time times e in
    omega (arith, none, skip)

inside : (b : Bucket) (from stretch : ℕ) (times : List ℕ) → MayPass b times → from ≤ b.since
    → b.since ≤ from + stretch
    → 1000 * within from stretch times
    ≤ b.parts + b.rate.per_second * (from + stretch - b.since)
inside b from stretch [] pass begun ends = omega arith
inside b from stretch (time ∷ times) pass begun ends =
    let since = room_since b time pass.0 in
    inside_by b from stretch time times pass.0 pass.1 begun ends
    (λ high. inside (drawn b time) from stretch times pass.1 (omega arith) high)
    (is_in from stretch time) refl

-- by whether a time is in the stretch: before any frame has passed in it
bounded_by : (b : Bucket) (from stretch time : ℕ) (times : List ℕ)
    → has_room b time ≡ true → MayPass (drawn b time) times
    → 1000 * within from stretch times ≤ 1000 * b.rate.burst + b.rate.per_second * stretch
    → (p : Bool) → is_in from stretch time ≡ p
    → 1000 * within from stretch (time ∷ times)
    ≤ 1000 * b.rate.burst + b.rate.per_second * stretch
bounded_by b from stretch time times room pass rest true e =
    let low : from ≤ time = is_in-low from stretch time e in
    let high : time ≤ from + stretch = is_in-high from stretch time e in
    let enough = room_parts b time room in
    let after : 1000 * within from stretch times
    ≤ parts_at b time - 1000 + b.rate.per_second * (from + stretch - time) = inside (drawn b time) from stretch times pass low high in
    let less : from + stretch - time ≤ stretch = omega arith in
    let most = mul-le-mul_left b.rate.per_second less in
    let one = counted_in from stretch time times e in
    omega (arith, after, most, one, enough)
bounded_by b from stretch time times room pass rest false e =
    let skip = passed_by from stretch time times e in
    omega (arith, skip, rest)

-- in thousandths of a frame
bounded_parts : (b : Bucket) (times : List ℕ) → MayPass b times → (from stretch : ℕ)
    → 1000 * within from stretch times ≤ 1000 * b.rate.burst + b.rate.per_second * stretch
bounded_parts b [] pass from stretch = omega arith
bounded_parts b (time ∷ times) pass from stretch =
    bounded_by b from stretch time times pass.0 pass.1
    (bounded_parts (drawn b time) times pass.1 from stretch)
    (is_in from stretch time) refl

pub bounded : (b : Bucket) (times : List ℕ) → MayPass b times → IsBounded b.rate times
bounded b times pass from stretch =
    let parts = bounded_parts b times pass from stretch in
    omega (arith, parts)

-- one more frame passes after others
pub may_pass-more : (b : Bucket) (times : List ℕ) (time : ℕ) → MayPass b times
    → has_room (drawn_at b times) time ≡ true → MayPass b (times ++ time ∷ [])
may_pass-more b [] time pass room = (room, tt)
may_pass-more b (t ∷ times) time pass room =
    (pass.0, may_pass-more (drawn b t) times time pass.1 room)

pub drawn_at-more : (b : Bucket) (times : List ℕ) (time : ℕ)
    → drawn_at b (times ++ time ∷ []) ≡ drawn (drawn_at b times) time
drawn_at-more b [] time = refl
drawn_at-more b (t ∷ times) time = drawn_at-more (drawn b t) times time

-- A token bucket over whole milliseconds. It holds thousandths of a frame, so that each millisecond
-- adds a whole number of them.
use Rattle.std.specs.Prelude.{ℕ, ◌+◌, ◌-◌, ◌*◌, ◌/◌, ◌≤◌, min, List, [], ◌∷◌}
use Rattle.std.specs.Prelude.{Bool, ◌&&◌, nat_lt, nat_le, if◌then◌else◌, IsTrue}
use Rattle.its_governor.specs.declared.bucket.Bucket.{Bucket}
use Rattle.its_governor.specs.declared.rate.Rate.{Rate}

-- a full bucket
abbrev pub full : Rate → Bucket
full rate = record { rate = rate; parts = 1000 * rate.burst; since = 0 }

-- the thousandths of a frame that the bucket holds at a time
abbrev pub parts_at : Bucket → ℕ → ℕ
parts_at b now = min (1000 * b.rate.burst) (b.parts + b.rate.per_second * (now - b.since))

-- whether a frame may pass: never before the last one that passed
abbrev pub has_room : Bucket → ℕ → Bool
has_room b now = nat_le b.since now && nat_le 1000 (parts_at b now)

-- it holds less than four fifths of its burst
abbrev pub is_low : Bucket → ℕ → Bool
is_low b now = nat_lt (parts_at b now) (800 * b.rate.burst)

-- the bucket after a frame passed
abbrev pub drawn : Bucket → ℕ → Bucket
drawn b now = record { rate = b.rate; parts = parts_at b now - 1000; since = now }

-- the bucket after frames passed at these times
abbrev pub drawn_at : Bucket → List ℕ → Bucket
drawn_at b [] = b
drawn_at b (time ∷ times) = drawn_at (drawn b time) times

-- frames may pass at these times, one after the other
abbrev pub MayPass : Bucket → List ℕ → Type 0
MayPass b [] = Unit {0}
MayPass b (time ∷ times) = IsTrue (has_room b time) × MayPass (drawn b time) times

-- how many of these times are in the stretch, its ends included
abbrev pub within : ℕ → ℕ → List ℕ → ℕ
within from stretch [] = 0
within from stretch (time ∷ times) =
    if nat_le from time && nat_le time (from + stretch)
    then within from stretch times + 1
    else within from stretch times

-- In each stretch of time, in milliseconds, at most a burst and what the rate adds in it.
abbrev pub IsBounded : Rate → List ℕ → Type 0
IsBounded rate times =
    (from stretch : ℕ)
    → within from stretch times ≤ rate.burst + rate.per_second * stretch / 1000

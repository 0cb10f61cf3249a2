-- A format says which fields follow one another, and checks each together with those before it.
-- Its faults are of any type.
use Rattle.std.specs.Prelude.{◌≡◌, ℕ, ◌+◌, ◌/◌, ◌%◌, List, length, drop, take, Bool, Result, Ok}
use Rattle.std.specs.Prelude.{Err, nat_lt, if◌then◌else◌}
use Rattle.byteorder.specs.Endian.{big_number}

infixl 10 ◌>>=◌
abbrev pub ◌>>=◌ : {A B E : Type 0} → Result A E → (A → Result B E) → Result B E
(Ok x) >>= f = f x
(Err e) >>= f = Err e

-- What a function returned, seen by view, is what reading gives.
abbrev pub Gives : {X Y E : Type 0} → (X → Y) → Result X E → Result Y E → Type 0
Gives view (Ok x) read = read ≡ Ok (view x)
Gives view (Err e) read = read ≡ Err e

-- Where what was read ends, or the fault.
abbrev pub end_of : {A E : Type 0} → Result (A × ℕ) E → Result ℕ E
end_of (Ok (x, end)) = Ok end
end_of (Err e) = Err e

-- What was read, or the fault.
abbrev pub value_of : {A E : Type 0} → Result (A × ℕ) E → Result A E
value_of (Ok (x, end)) = Ok x
value_of (Err e) = Err e

-- A format of values of A, each field of which may be wrong in a way of K.
pub data Format (K A : Type 0) : Type 0 where
  -- all fields are read, and say this
  ends : A → Format K A
  -- a number of so many octets
  number : (octets : ℕ) (kind : K) (right : ℕ → Bool) (next : ℕ → Format K A) → Format K A
  -- two fields of half an octet
  halves : (high : K) (is_high : ℕ → Bool) (low : K) (is_low : ℕ → ℕ → Bool)
      (next : ℕ → ℕ → Format K A) → Format K A
  -- so many octets
  octets : (count : ℕ) (next : List ℕ → Format K A) → Format K A

-- one format, and then another that depends on what the first says
abbrev pub after : {K A B : Type 0} → Format K A → (A → Format K B) → Format K B
after (ends x) g = g x
after (number n kind right next) g = number n kind right (λ v. after (next v) g)
after (halves high is_high low is_low next) g =
    halves high is_high low is_low (λ h l. after (next h l) g)
after (octets n next) g = octets n (λ bytes. after (next bytes) g)

-- How the faults of a format are made.
pub record Faults (K E : Type 0) : Type 0 where
  -- so many octets end before or in a field
  pub truncated : ℕ → E
  -- the field at this place is wrong in this way
  pub wrong : ℕ → K → E

-- the number of so many octets at a place
unfoldable pub number_at : {K E : Type 0} → Faults K E → ℕ → ℕ → List ℕ → Result ℕ E
number_at faults n at w =
    if nat_lt (length w) (at + n)
    then Err (faults.truncated (length w)) else Ok (big_number n (drop at w))

-- so many octets at a place
unfoldable pub octets_at : {K E : Type 0} → Faults K E → ℕ → ℕ → List ℕ → Result (List ℕ) E
octets_at faults n at w =
    if nat_lt (length w) (at + n)
    then Err (faults.truncated (length w)) else Ok (take n (drop at w))

abbrev pub fault : {K E A : Type 0} → Faults K E → ℕ → K → Result A E
fault faults at kind = Err (faults.wrong at kind)

-- what the octets from a place on say, and where that ends, or the first fault
abbrev pub walk : {K E A : Type 0} → Faults K E → Format K A → ℕ → List ℕ → Result (A × ℕ) E
walk faults (ends x) at w = Ok (x, at)
walk faults (number n kind right next) at w = number_at faults n at w >>= λ v.
    if right v then walk faults (next v) (at + n) w else fault faults at kind
walk faults (halves high is_high low is_low next) at w = number_at faults 1 at w >>= λ v.
    if is_high (v / 16)
    then (if is_low (v / 16) (v % 16)
    then walk faults (next (v / 16) (v % 16)) (at + 1) w
    else fault faults at low) else fault faults at high
walk faults (octets n next) at w =
    octets_at faults n at w >>= λ bytes. walk faults (next bytes) (at + n) w

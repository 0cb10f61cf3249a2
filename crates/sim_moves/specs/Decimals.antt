-- What a decimal is worth.
use Rattle.std.specs.Prelude.{◌≡◌, ◌==◌, ◌+◌, ◌*◌, ◌/◌, ◌^◌, ◌≤◌, ℕ, ℤ, pos, neg_ℤ, List, [], ◌∷◌}
use Rattle.std.specs.Prelude.{◌++◌}
use Rattle.std.specs.Prelude.{length, drop, if◌then◌else◌}
use Rattle.std.specs.Io.BufRead.{drop_through}
use Rattle.std.specs.Str.Parse.{IsNumeral, AllDigits, digits_value, starts_with_minus}

-- the octets behind a minus that they may begin with
abbrev pub unsigned_part : List ℕ → List ℕ
unsigned_part octets = if starts_with_minus octets then drop 1 octets else octets

-- a magnitude with the sign that the octets begin with
abbrev pub signed_by : List ℕ → ℕ → ℤ
signed_by octets magnitude =
    if starts_with_minus octets then neg_ℤ (pos magnitude) else pos magnitude

-- The octets are a minus, or none, and 1 to 19 digits, and write this whole number.
abbrev pub WritesWhole : List ℕ → ℤ → Type 0
WritesWhole octets number = IsNumeral 10 (unsigned_part octets)
    × (length (unsigned_part octets) ≤ 19)
    × (number ≡ signed_by octets (digits_value 10 (unsigned_part octets)))

-- what stands before the first point, and all where there is none
abbrev pub before_point : List ℕ → List ℕ
before_point [] = []
before_point (octet ∷ octets) = if octet == 46 then [] else octet ∷ before_point octets

-- what stands behind the first point, and nothing where there is none
abbrev pub behind_point : List ℕ → List ℕ
behind_point octets = drop_through 46 octets

-- the whole number nearest to n / d, halves upwards
abbrev pub nearest : ℕ → ℕ → ℕ
nearest n d = (2 * n + d) / (2 * d)

-- the digits on both sides of the point
abbrev pub digits_of : List ℕ → List ℕ
digits_of octets = before_point octets ++ behind_point octets

-- The octets are a minus, or none, and 1 to 18 digits with at most one point among or behind them.
-- So many units of 10 to the minus `places` are nearest to what they write, halves away from zero.
pub record WritesDecimal (places : ℕ) (octets : List ℕ) (number : ℤ) : Type 0 where
  pub begins : IsNumeral 10 (before_point (unsigned_part octets))
  pub goes_on : AllDigits 10 (behind_point (unsigned_part octets))
  pub few : length (digits_of (unsigned_part octets)) ≤ 18
  pub worth : number ≡ signed_by octets
      (nearest (digits_value 10 (digits_of (unsigned_part octets)) * 10 ^ places)
      (10 ^ length (behind_point (unsigned_part octets))))

-- What a line is.
use Rattle.std.specs.Prelude.{◌≡◌, ◌⊎◌, ℕ, List, Bool, All, length, nat_lt}

-- A line, without its line feed: its octets, the first 65536 of a longer one, and whether there are
-- more.
pub record LineText : Type 0 where
  pub octets : List ℕ
  pub longer : Bool

-- a line of these octets: of a longer one than may be read they aren't looked at
abbrev pub whole_line : List ℕ → LineText
whole_line octets = record { octets = octets; longer = nat_lt 65536 (length octets) }

-- nothing but spaces, tabs and carriage returns
abbrev pub IsBlank : List ℕ → Type 0
IsBlank octets = All (λ octet. (octet ≡ 32) ⊎ (octet ≡ 9) ⊎ (octet ≡ 13)) octets

-- The ids by which a file names what moves.
use Rattle.std.specs.Prelude.{◌≡◌, ◌≤◌, ◌<◌, ◌+◌, ◌⊎◌, ℕ, List, IsUtf8, length, slice_index}

-- Here stands a control character (Unicode's Cc): U+0000 to U+001F, U+007F, or U+0080 to U+009F,
-- which UTF-8 writes as C2 and an octet below A0.
abbrev pub IsControlAt : List ℕ → ℕ → Type 0
IsControlAt octets place = (slice_index octets place < 32) ⊎ (slice_index octets place ≡ 127)
    ⊎ ((slice_index octets place ≡ 194) × (slice_index octets (place + 1) < 160))

-- 1 to 64 octets of UTF-8 without control characters
pub record IsId (octets : List ℕ) : Type 0 where
  pub some : 0 < length octets
  pub few : length octets ≤ 64
  pub text : IsUtf8 octets
  pub plain : (place : ℕ) → place < length octets → ¬ IsControlAt octets place

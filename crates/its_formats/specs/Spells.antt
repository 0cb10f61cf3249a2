-- Which octets a format reads, apart from where they stand and from its faults.
use Rattle.std.specs.Prelude.{◌≡◌, ℕ, ◌+◌, ◌*◌, ◌^◌, ◌<◌, List, [], ◌∷◌, ◌++◌, length, true}
use Rattle.byteorder.specs.Endian.{big_bytes}
use Rattle.its_formats.specs.Bytes.{IsBytes}
use Rattle.its_formats.specs.Format.{Format, ends, number, halves, octets}

abbrev pub Spells : {K A : Type 0} → Format K A → A → List ℕ → Type 0
Spells (ends y) x s = (y ≡ x) × (s ≡ [])
Spells (number n kind right next) x s =
    (v : ℕ) × (t : List ℕ) × (v < 256 ^ n) × (right v ≡ true) × (s ≡ big_bytes n v ++ t)
    × Spells (next v) x t
Spells (halves high is_high low is_low next) x s =
    (h : ℕ) × (l : ℕ) × (t : List ℕ) × (h < 16) × (l < 16) × (is_high h ≡ true)
    × (is_low h l ≡ true) × (s ≡ (16 * h + l) ∷ t) × Spells (next h l) x t
Spells (octets n next) x s =
    (bytes : List ℕ) × (t : List ℕ) × (length bytes ≡ n) × IsBytes bytes × (s ≡ bytes ++ t)
    × Spells (next bytes) x t

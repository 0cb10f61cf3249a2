-- The first fault of octets that begin no encoding: at the first field that no encoding has after
-- the fields before it, with the kind of that field, or at the end of the octets if they end before
-- or in a field.
use Rattle.std.specs.Prelude.{◌≡◌, ◌≤◌, ◌<◌, ℕ, ◌+◌, ◌*◌, ◌/◌, ◌%◌, List, [], ◌∷◌, ◌++◌, length}
use Rattle.std.specs.Prelude.{take, ◌⊎◌}
use Rattle.its_formats.specs.Format.{Faults}

-- a field: how many half octets it takes, and which fault it is where it is wrong (a field that is
-- never wrong has any)
pub record Row (K : Type 0) : Type 0 where
  pub halves : ℕ
  pub kind : K

-- a field of half an octet
abbrev pub half : {K : Type 0} → K → Row K
half kind = record { halves = 1; kind = kind }

-- a field of so many octets
abbrev pub whole : {K : Type 0} → ℕ → K → Row K
whole octets kind = record { halves = 2 * octets; kind = kind }

-- each octet as two halves, the high one first
abbrev pub half_octets : List ℕ → List ℕ
half_octets [] = []
half_octets (b ∷ w) = b / 16 ∷ b % 16 ∷ half_octets w

-- A sound front: the encoding of some value begins with these half octets.
pub record IsSound {X : Type 0} (Encodes : X → List ℕ → Type 0) (front : List ℕ) : Type 0 where
  pub value : X
  pub encoded : List ℕ
  pub rest : List ℕ
  pub encodes : Encodes value encoded
  pub begins : half_octets encoded ≡ front ++ rest

-- the prefix of the octets up to this half octet
abbrev pub front_to : ℕ → List ℕ → List ℕ
front_to end w = take end (half_octets w)

-- the fault among these fields, the first of which starts at this half octet, where the front
-- before it is sound
abbrev pub FaultAmong : {K E X : Type 0} → Faults K E → (X → List ℕ → Type 0) → List (Row K) → ℕ
    → List ℕ → E → Type 0
FaultAmong faults Encodes [] start w f = ⊥
FaultAmong faults Encodes (row ∷ rows) start w f =
    -- the field is not wholly there
    ((2 * length w < start + row.halves) × (f ≡ faults.truncated (length w)))
    -- with it the front is not sound any more
    ⊎ ((start + row.halves ≤ 2 * length w) × (¬ IsSound Encodes (front_to (start + row.halves) w))
    × (f ≡ faults.wrong (start / 2) row.kind))
    -- with it the front is sound, and the fault comes later
    ⊎ ((start + row.halves ≤ 2 * length w) × IsSound Encodes (front_to (start + row.halves) w)
    × FaultAmong faults Encodes rows (start + row.halves) w f)

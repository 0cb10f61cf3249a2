-- Words that are a few changes of a letter apart.
use Rattle.std.specs.Prelude.{◌≡◌, ◌≤◌, ◌<◌, ℕ, List, Some, length, map, slice_get}
use Rattle.std.specs.Str.{chars}
use Rattle.strsim.specs.Edits.{osa_table}

-- how many changes of a letter lead from one word to another, where an exchange of two neighbouring
-- letters is one: the optimal string alignment distance
abbrev pub changes : List ℕ → List ℕ → ℕ
changes from to = (osa_table (chars from) (chars to)).last_row (length (chars to))

-- The word at this place is one of the first so many that are known, at most two changes away, and
-- none of these is fewer; none before it is as few.
pub record IsNearestBelow (count : ℕ) (word : List ℕ) (known : List (List ℕ)) (place : ℕ)
    : Type 0 where
  pub near : List ℕ
  pub stands : slice_get known place ≡ Some near
  pub within : place < count
  pub close : changes word near ≤ 2
  pub fewest : (other : ℕ) (w : List ℕ) → other < count → slice_get known other ≡ Some w →
      changes word near ≤ changes word w
  pub first : (other : ℕ) (w : List ℕ) → other < place → slice_get known other ≡ Some w →
      changes word near < changes word w

-- the same of all that are known
abbrev pub IsNearest : List ℕ → List (List ℕ) → ℕ → Type 0
IsNearest word known place = IsNearestBelow (length known) word known place

-- each of the first so many that are known is more than two changes away
abbrev pub IsFarBelow : ℕ → List ℕ → List (List ℕ) → Type 0
IsFarBelow count word known = (other : ℕ) (w : List ℕ) → other < count →
    slice_get known other ≡ Some w → 2 < changes word w

-- the same of all that are known
abbrev pub IsFar : List ℕ → List (List ℕ) → Type 0
IsFar word known = IsFarBelow (length known) word known

-- this one of a list is the nearest to a word, by the words of its members
abbrev pub IsMeant : {T : Type 0} → (T → List ℕ) → List ℕ → List T → T → Type 0
IsMeant spelling word known one =
    (place : ℕ) × (slice_get known place ≡ Some one) × IsNearest word (map spelling known) place

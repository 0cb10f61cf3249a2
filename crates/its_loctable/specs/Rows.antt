-- The sequence numbers of many sources in one flat list: a row for each source, and in a row the
-- newest number first.
use Rattle.std.specs.Prelude.{◌≡◌, ◌≢◌, ℕ, ◌+◌, ◌*◌, ◌≤◌, ◌==◌}
use Rattle.std.specs.Prelude.{List, ◌∷◌, ◌++◌, take, drop, count_by}
use Rattle.its_loctable.specs.declared.sorted.slot.SortedSlot.{SortedSlot}

-- the numbers of a slot, of rows of a length
abbrev pub numbers_at : ℕ → List ℕ → SortedSlot → List ℕ
numbers_at remember numbers s = take s.count (drop (s.row * remember) numbers)

-- a row of this length stands within so many numbers
abbrev pub IsRow : ℕ → ℕ → ℕ → Type 0
IsRow remember len row = row * remember + remember ≤ len

-- so does a slot's row, and its numbers stand in it
abbrev pub HasRow : ℕ → ℕ → SortedSlot → Type 0
HasRow remember len s = IsRow remember len s.row × (s.count ≤ remember)

-- the slots with other rows have the same numbers as before
abbrev pub AreOthersKept : ℕ → ℕ → List ℕ → List ℕ → Type 0
AreOthersKept remember row old new = (s : SortedSlot) → s.row ≢ row → s.count ≤ remember
    → numbers_at remember new s ≡ numbers_at remember old s

-- each row belongs to one slot, or is free
abbrev pub AreOwned : List SortedSlot → List ℕ → Type 0
AreOwned slots free = (row : ℕ)
    → count_by (λ (s : SortedSlot). s.row == row) slots + count_by (λ r. r == row) free ≤ 1

-- a number put before so many others, which each move on by one place
abbrev pub put_before : List ℕ → ℕ → ℕ → ℕ → List ℕ
put_before numbers start kept number = take start numbers
    ++ number ∷ (take kept (drop start numbers) ++ drop (start + kept + 1) numbers)

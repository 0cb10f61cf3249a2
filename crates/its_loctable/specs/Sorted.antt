-- The content of a table in ascending order of addresses, and places in its column of addresses.
use Rattle.std.specs.Prelude.{◌≡◌, ◌≢◌, ℕ, zero, suc, ◌<◌, ◌≤◌, ◌⊎◌, Bool, true, false, List}
use Rattle.std.specs.Prelude.{[], ◌∷◌}
use Rattle.std.specs.Prelude.{map, find, length, get_or, Option, Some, None, nat_lt, if◌then◌else◌}
use Rattle.its_gnvalue.specs.Values.{mid_of}
use Rattle.its_model.specs.History.{Known}
use Rattle.its_loctable.specs.declared.sorted.slot.SortedSlot.{SortedSlot}
use Rattle.its_model.specs.Stations.{is_above}
use Rattle.its_loctable.specs.Content.{Entry}

-- what a slot says of its source, with numbers that stand elsewhere
abbrev pub known_by : (SortedSlot → List ℕ) → SortedSlot → Known
known_by of s = record { vector = s.vector; neighbour = s.neighbour; numbers = of s }

-- the same at a moment: nothing from the slot's end on
abbrev pub live_part_by : (SortedSlot → List ℕ) → ℕ → SortedSlot → Option Known
live_part_by of now s = if nat_lt now s.until then Some (known_by of s) else None

abbrev pub entry_by : (SortedSlot → List ℕ) → SortedSlot → Entry
entry_by of s = record { address = s.vector.address; known = known_by of s; until = s.until }

abbrev pub held : (SortedSlot → List ℕ) → List SortedSlot → List Entry
held of slots = map (entry_by of) slots

-- the same without the numbers, for what addresses alone say
abbrev pub bare_known : SortedSlot → Known
bare_known s = known_by (λ _. []) s

abbrev pub bare : List SortedSlot → List Entry
bare slots = held (λ _. []) slots

-- the addresses of slots, in their order
abbrev pub addresses_of : List SortedSlot → List ℕ
addresses_of slots = map (λ (s : SortedSlot). s.vector.address) slots

-- an address comes before all of these
abbrev pub IsBelowEach : ℕ → List ℕ → Type 0
IsBelowEach n [] = Unit {0}
IsBelowEach n (a ∷ addresses) = (n < a) × IsBelowEach n addresses

-- each address comes before those behind it
abbrev pub AreRising : List ℕ → Type 0
AreRising [] = Unit {0}
AreRising (a ∷ addresses) = IsBelowEach a addresses × AreRising addresses

-- the address stands at the place
abbrev pub IsFoundAt : List ℕ → ℕ → ℕ → Type 0
IsFoundAt [] address i = ⊥
IsFoundAt (a ∷ addresses) address zero = a ≡ address
IsFoundAt (a ∷ addresses) address (suc i) = IsFoundAt addresses address i

-- the address isn't among rising ones, and it would go to the place: above those before it, and
-- below the next
abbrev pub IsGapFor : List ℕ → ℕ → ℕ → Type 0
IsGapFor [] address zero = Unit {0}
IsGapFor [] address (suc i) = ⊥
IsGapFor (a ∷ addresses) address zero = address < a
IsGapFor (a ∷ addresses) address (suc i) = (a < address) × IsGapFor addresses address i

-- the rising addresses that are above an address begin at the place
abbrev pub IsStartAbove : List ℕ → Option ℕ → ℕ → Type 0
IsStartAbove [] after zero = Unit {0}
IsStartAbove [] after (suc i) = ⊥
IsStartAbove (a ∷ addresses) after zero = is_above after a ≡ true
IsStartAbove (a ∷ addresses) after (suc i) =
    (is_above after a ≡ false) × IsStartAbove addresses after i

-- what stands at a place doesn't come after the address, or the place is the first
abbrev pub IsUpTo : List ℕ → ℕ → ℕ → Type 0
IsUpTo addresses address i = (i ≡ 0) ⊎ ((i < length addresses)
    × ((d : ℕ) → get_or addresses i d ≤ address))

-- those from a place on come after the address
abbrev pub AreAbove : List ℕ → ℕ → ℕ → Type 0
AreAbove addresses address n = (i d : ℕ) → n ≤ i → i < length addresses
    → address < get_or addresses i d

-- whether the slot at a place is live at a moment
abbrev pub IsLiveAt : List SortedSlot → ℕ → ℕ → Bool → Type 0
IsLiveAt slots place now live = (d : SortedSlot) → live ≡ nat_lt now (get_or slots place d).until

-- the place of the first slot that passes, if one does
abbrev pub IsFirstOf : (SortedSlot → Bool) → List SortedSlot → Option ℕ → Type 0
IsFirstOf p slots None = find p slots ≡ None
IsFirstOf p slots (Some place) = (d : SortedSlot) → find p slots ≡ Some (get_or slots place d)

-- none of the first n addresses has the MID
abbrev pub AreWithoutMid : ℕ → ℕ → List ℕ → Type 0
AreWithoutMid mid n addresses = (k d : ℕ) → k < n → k < length addresses
    → mid_of (get_or addresses k d) ≢ mid

-- The content of a table in the order of insertion.
use Rattle.std.specs.Prelude.{◌≡◌, ℕ, ◌≤◌, List, map, Some, nat_eq}
use Rattle.std.specs.Map.{lookup}
use Rattle.its_loctable.specs.declared.slot.Slot.{Slot}
use Rattle.its_loctable.specs.Content.{Entry}
use Rattle.its_loctable.specs.Slots.{slot_known}

abbrev pub slot_entry : ℕ × Slot → Entry
slot_entry p = record { address = p.0; known = slot_known p.1; until = p.1.until }

abbrev pub contained : List (ℕ × Slot) → List Entry
contained slots = map slot_entry slots

-- an address has a slot, which has expired
pub record IsExpired (slots : List (ℕ × Slot)) (address now : ℕ) : Type 0 where
  pub slot : Slot
  pub there : lookup (nat_eq address) slots ≡ Some slot
  pub expired : slot.until ≤ now

-- the slot of each address remembers as many numbers as a limit
abbrev pub HaveLimit : ℕ → List (ℕ × Slot) → Type 0
HaveLimit limit slots =
    (address : ℕ) (slot : Slot) → lookup (nat_eq address) slots ≡ Some slot
    → slot.recent.limit ≡ limit

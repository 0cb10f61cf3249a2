-- What a store contains, and the history of accepted packets that it represents.
use Rattle.std.specs.Prelude.{◌≡◌, ℕ, ◌+◌, ◌^◌, ◌≤◌, ◌==◌, nat_lt, if◌then◌else◌}
use Rattle.std.specs.Prelude.{List, [], ◌∷◌, Option, Some, None}
use Rattle.its_model.specs.History.{Reception, Known, entry_life, known, renewed}

-- what a store keeps of an address, and the moment at which it expires
pub record Entry : Type 0 where
  pub address : ℕ
  pub known : Known
  pub until : ℕ

-- what an entry says at a moment: nothing from its end on
abbrev pub live_part : ℕ → Entry → Option Known
live_part t e = if nat_lt t e.until then Some e.known else None

-- what is found of a source at a moment: an expired entry is as if it were absent
abbrev pub entry_at : List Entry → ℕ → ℕ → Option Known
entry_at [] source t = None
entry_at (e ∷ es) source t = if source == e.address then live_part t e else entry_at es source t

-- From a moment on, at every moment, a store finds of every source what is known of it by the
-- history: as many last numbers as are remembered, its vector, and whether it is a neighbour; and
-- nothing of a source that isn't live.
pub record Represents (remember : ℕ) (content : List Entry)
    (history : List Reception) (from : ℕ) : Type 0 where
  pub live : (t source : ℕ) → from ≤ t → t ≤ 2 ^ 62
      → entry_at content source t ≡ known remember source t history

-- What a store does with a packet that it accepts: from then on it finds of the packet's source,
-- for an entry's life, what was found of it renewed by the packet; and of each other source what it
-- found before.
pub record Hears (remember : ℕ) (old new : List Entry) (r : Reception) : Type 0 where
  pub live : (t source : ℕ) → r.moment ≤ t → entry_at new source t
      ≡ (if r.vector.address == source
      then (if nat_lt t (r.moment + entry_life)
      then Some (renewed remember (entry_at old source r.moment) r) else None)
      else entry_at old source t)

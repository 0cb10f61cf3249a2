-- A frame that waits, as contracts see it.
use Rattle.std.specs.Prelude.{ℕ, Bool, List, [], ◌∷◌, length, max, Option}
use Rattle.its_model.specs.Contention.{HeldFrame}

-- A frame that waits: its octets, and what the limits of a station ask of its packet: the source,
-- the sequence number, and whether the station knew the source before the packet came.
pub record Waiting : Type 0 where
  pub octets : List ℕ
  pub source : ℕ
  pub number : Option ℕ
  pub knew_source : Bool

-- the length of the longest of these frames: 0 of none
abbrev pub longest : List (HeldFrame Waiting) → ℕ
longest [] = 0
longest (h ∷ held) = max (length h.frame.octets) (longest held)

-- The senders of copies of a frame that waits, as they lie in memory.
use Rattle.std.specs.Prelude.{ℕ, List, [], ◌∷◌, Option, Some, None}

-- two senders at most, the newest first
abbrev pub senders_of : Option ℕ → Option ℕ → List ℕ
senders_of None older = []
senders_of (Some newest) None = newest ∷ []
senders_of (Some newest) (Some older) = newest ∷ older ∷ []

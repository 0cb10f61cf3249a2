-- Sources of which the first octets were looked at already.
use Rattle.std.specs.Prelude.{ℕ, List, drop, Option}
use Rattle.std.specs.Io.KnownBytes.{prepend_known}

-- what a source gives of which some octets were looked at: those of them that it has not given
-- again, and what it has left
abbrev pub left_of : ℕ → List ℕ → Option (List ℕ) → Option (List ℕ)
left_of at first rest = prepend_known (drop at first) rest

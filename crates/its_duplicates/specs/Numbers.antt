-- The numbers that came last from a source, the last of them last.
use Rattle.std.specs.Prelude.{ℕ, ◌-◌, List, length, drop}

-- the numbers that are kept, and how many are kept at most
pub record LastNumbers : Type 0 where
  pub numbers : List ℕ
  pub limit : ℕ

-- the last n of these
abbrev pub keep_last : ℕ → List ℕ → List ℕ
keep_last n numbers = drop (length numbers - n) numbers

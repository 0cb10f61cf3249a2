-- Up to which stamp something had to give way, and what may be missing then.
use Rattle.std.specs.Prelude.{ℕ, Bool, false, Option, Some, None, if◌then◌else◌, nat_lt, nat_le}
use Rattle.cap_tap.specs.declared.lost.Lost.{Lost}

-- the last of two stamps
abbrev pub later : Option ℕ → ℕ → ℕ
later None stamp = stamp
later (Some last) stamp = if nat_lt stamp last then last else stamp

-- what was sent at this stamp gave way too
abbrev pub with_lost : Lost → ℕ → Lost
with_lost lost stamp = record lost { last = Some (later lost.last stamp) }

-- something may be missing that was sent at this stamp or later
abbrev pub lacks : Option ℕ → ℕ → Bool
lacks None from = false
lacks (Some last) from = nat_le from last

-- What one call of a device that counts its failures does to the octets that are known.
use Rattle.std.specs.Prelude.{◌≡◌, ℕ, ◌+◌, ◌-◌, ◌^◌, ◌<◌, ◌==◌, nat_lt, min, Bool, true, ◌&&◌}
use Rattle.std.specs.Prelude.{if◌then◌else◌}
use Rattle.std.specs.Prelude.{List, ◌++◌, length, take, Option, None, Some, MatchOption, Result, Ok}
use Rattle.std.specs.Prelude.{Err}
use Rattle.std.specs.Io.KnownBytes.{Keeps, Consumes, Appends, IsAtEnd}

-- a reader or writer, and how many of its calls failed
pub record CountedDevice (T : Type 0) : Type 0 where
  pub device : T
  pub failures : ℕ

-- `pull` took the n octets that it gave at `Some n`, none only at the end or with no room, and
-- nothing at `None`
abbrev pub Pulls : Option (List ℕ) → Option (List ℕ) → Option ℕ → List ℕ → Type 0
Pulls old new r buf =
    MatchOption r (Keeps old new)
    (λ n. Consumes old new (take n buf) × (n ≡ 0 → 0 < length buf → IsAtEnd new))

-- `push` appended the n octets that it took at `Some n`, and nothing at `None`
abbrev pub Pushes : Option (List ℕ) → Option (List ℕ) → Option ℕ → List ℕ → Type 0
Pushes old new r buf = MatchOption r (Keeps old new) (λ n. Appends old new (take n buf))

-- a failed call adds one to the count, and no other call changes it
abbrev pub counted : {T : Type 0} → ℕ → Option T → ℕ
counted before None = before + 1
counted before (Some _) = before

-- The same of a call of std: the count stops at its greatest value.
abbrev pub counted_at_most : ℕ → Bool → ℕ
counted_at_most before failed = if failed then min (before + 1) (2 ^ 64 - 1) else before

-- a write failed that answered an error, or took none of the octets that there were
abbrev pub is_failed_write : {E : Type 0} → Result ℕ E → ℕ → Bool
is_failed_write (Ok n) size = n == 0 && nat_lt 0 size
is_failed_write (Err e) size = true

-- a prefix of the known octets went, empty or whole
abbrev pub ConsumesPrefix : Option (List ℕ) → Option (List ℕ) → Type 0
ConsumesPrefix old new = (gone : List ℕ) × Consumes old new gone

-- a prefix of the text was appended, and not all of it
pub record AppendsPrefix (old new : Option (List ℕ)) (text : List ℕ) : Type 0 where
  pub taken : List ℕ
  pub rest : List ℕ
  pub parts : text ≡ taken ++ rest
  pub missing : 0 < length rest
  pub appends : Appends old new taken

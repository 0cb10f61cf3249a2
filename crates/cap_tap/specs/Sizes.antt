-- How much is kept of a frame of the capture.
use Rattle.std.specs.Prelude.{ℕ, ◌+◌, ◌-◌, ◌*◌, ◌^◌, min}

-- its octets and eight for each repeat, as far as they can be counted
abbrev pub kept_size : (octets : ℕ) → (repeats : ℕ) → ℕ
kept_size octets repeats = min (octets + min (repeats * 8) (2 ^ 64 - 1)) (2 ^ 64 - 1)

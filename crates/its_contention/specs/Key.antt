-- The key of a frame: a number that its copies share.
use Rattle.std.specs.Prelude.{ℕ, ◌+◌, ◌-◌, ◌^◌, ◌%◌, nat_lt, if◌then◌else◌, List, length, drop}
use Rattle.byteorder.specs.Endian.{big_number}

-- of the octets that copies share up to the last
abbrev pub key_in : List ℕ → ℕ
key_in shared =
    ((big_number 8 (drop 9 shared) + big_number 8 (drop 13 shared)) % 2 ^ 64
    + big_number 8 (drop (length shared - 8) shared)) % 2 ^ 64

-- of a frame: 0 if it is short
unfoldable pub key_of : List ℕ → ℕ
key_of octets = if nat_lt (length octets) 38 then 0 else key_in (drop 17 octets)

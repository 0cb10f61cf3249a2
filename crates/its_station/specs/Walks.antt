-- A walk over the neighbours of a table, from each to the one of the next address.
use Rattle.std.specs.Prelude.{ℕ, ◌^◌, ◌-◌, Option, Some, None}
use Rattle.its_gnvalue.specs.Values.{PositionVector}

-- how far a walk has come after what it gave
abbrev pub walked_to : Option ℕ → Option PositionVector → Option ℕ
walked_to after None = after
walked_to after (Some vector) = Some vector.address

-- ---- words of private functions

-- how many addresses are above one
abbrev pub addresses_above : Option ℕ → ℕ
addresses_above None = 2 ^ 64
addresses_above (Some low) = 2 ^ 64 - 1 - low

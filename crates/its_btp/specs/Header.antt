-- The header of BTP-B (EN 302 636-5-1): the destination port and its info, in two octets each, the
-- highest first.
use Rattle.std.specs.Prelude.{ℕ, List, ◌++◌}
use Rattle.byteorder.specs.Endian.{big_bytes}

-- what is sent to a port, behind its header
abbrev pub joined : ℕ → ℕ → List ℕ → List ℕ
joined port info payload = big_bytes 2 port ++ (big_bytes 2 info ++ payload)

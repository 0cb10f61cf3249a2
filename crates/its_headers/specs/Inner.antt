-- The inner packet of a secured packet: a Basic Header that names a Common Header, and behind it a
-- plain part.
use Rattle.std.specs.Prelude.{ℕ, ◌<◌, List, [], ◌∷◌, get_or}

-- what a Basic Header says: the lifetime, and the hops that are left
pub record Basic : Type 0 where
  pub lifetime : ℕ
  pub left : ℕ

-- what the octets of a packet say there
abbrev pub basic_in : List ℕ → Basic
basic_in w = record { lifetime = get_or w 2 0; left = get_or w 3 0 }

-- version 1 and next header 1, a reserved octet, lifetime, hops left, and then the plain part
abbrev pub inner_octets : Basic → List ℕ → List ℕ
inner_octets b plain = 17 ∷ 0 ∷ b.lifetime ∷ b.left ∷ plain

-- the Basic Header of a secured packet: version 1 and next header 2, a reserved octet, lifetime,
-- hops left
abbrev pub secured_header : Basic → List ℕ
secured_header b = 18 ∷ 0 ∷ b.lifetime ∷ b.left ∷ []

-- lifetime and hops are octets, and a hop is left
pub record IsBasic (b : Basic) : Type 0 where
  pub lifetime : b.lifetime < 256
  pub some_left : 0 < b.left
  pub left : b.left < 256

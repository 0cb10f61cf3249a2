-- How octets stand in an element of a page.
use Rattle.std.specs.Prelude.{ℕ, List, flat_map, if◌then◌else◌, ◌==◌, ◌∷◌, [], codes}

-- an octet: the sign that begins a tag as JSON spells it in a text, any other as it is
abbrev pub spelled_octet : ℕ → List ℕ
spelled_octet octet = if octet == 60 then codes "\\u003c" else octet ∷ []

-- octets, one after the other
abbrev pub spelled : List ℕ → List ℕ
spelled octets = flat_map spelled_octet octets

-- A bound of the neighbours in a table, by their distance from a place and then by their address.
use Rattle.std.specs.Prelude.{◌≡◌, ℕ, Bool, true, false, not, ◌&&◌, ◌||◌, ◌==◌, nat_lt, nat_le}
use Rattle.std.specs.Prelude.{IsTrue, Option, Some, None}
use Rattle.its_geometry.specs.Offsets.{squared_distance}
use Rattle.its_gnvalue.specs.Values.{Position}
use Rattle.its_model.specs.History.{Known}
use Rattle.its_loctable.specs.declared.heard.NearestNeighbour.{NearestNeighbour}
use Rattle.its_loctable.specs.declared.heard.NearestSearch.{NearestSearch}
use Rattle.its_loctable.specs.declared.heard.NearestSearch.TheVariants.{Unknown, NoNeighbour, Found}
use Rattle.its_loctable.specs.declared.sorted.nearest.Nearest.{Nearest}
use Rattle.its_loctable.specs.declared.sorted.slot.SortedSlot.{SortedSlot}

-- a distance and an address come before others, or are equal to them
abbrev pub precedes : ℕ → ℕ → ℕ → ℕ → Bool
precedes distance address d a =
    nat_lt distance d || (distance == d && nat_le address a)

-- the same of a neighbour, if there is one
abbrev pub is_first : Option NearestNeighbour → ℕ → ℕ → Bool
is_first None d a = false
is_first (Some n) d a = precedes n.distance n.address d a

-- a slot doesn't come before the bound, unless it has expired or is of no neighbour
abbrev pub is_not_below : Nearest → SortedSlot → Bool
is_not_below n s = nat_le s.until n.since || (not s.neighbour
    || is_first n.neighbour (squared_distance n.place s.vector.place) s.vector.address)

-- the same, if there is a bound
abbrev pub is_within : Option Nearest → SortedSlot → Bool
is_within None s = true
is_within (Some n) s = is_not_below n s

abbrev pub IsNotBelow : Nearest → SortedSlot → Type 0
IsNotBelow n s = IsTrue (is_not_below n s)

abbrev pub IsWithin : Option Nearest → SortedSlot → Type 0
IsWithin bound s = IsTrue (is_within bound s)

-- what is known of a source says that it is a neighbour at a distance from a place
abbrev pub is_neighbour_at : Position → ℕ → Option Known → Bool
is_neighbour_at place distance None = false
is_neighbour_at place distance (Some k) =
    k.neighbour && (squared_distance place k.vector.place == distance)

-- what is found is the bound's neighbour, which is still live and where it was, or that the bound
-- has none; what is known of each address is a function
abbrev pub IsReached : (ℕ → Option Known) → Nearest → NearestSearch → Type 0
IsReached known n Unknown = Unit {0}
IsReached known n NoNeighbour = n.neighbour ≡ None
IsReached known n (Found m) = (n.neighbour ≡ Some m)
    × IsTrue (is_neighbour_at n.place m.distance (known m.address))

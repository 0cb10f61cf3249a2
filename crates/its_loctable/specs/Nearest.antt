-- The neighbour that is nearest to a place, as the next hop for each limit.
use Rattle.std.specs.Prelude.{◌≡◌, ℕ, nat_lt, if◌then◌else◌, List, Some, None}
use Rattle.std.specs.Option.{option_map}
use Rattle.its_gnvalue.specs.Values.{Position}
use Rattle.its_loctable.specs.declared.heard.NearestSearch.{NearestSearch}
use Rattle.its_loctable.specs.declared.heard.NearestSearch.TheVariants.{Unknown, NoNeighbour, Found}
use Rattle.its_model.specs.History.{Known}
use Rattle.its_model.specs.Decision.{next_hop}

-- for every limit, the next hop toward the place is the neighbour that was found, if it is nearer
-- than the limit; without a neighbour there is no next hop
abbrev pub IsNearest : Position → List Known → NearestSearch → Type 0
IsNearest place stations Unknown = Unit {0}
IsNearest place stations NoNeighbour = (limit : ℕ) → next_hop place limit stations ≡ None
IsNearest place stations (Found n) = (limit : ℕ)
    → option_map (λ (k : Known). k.vector.address) (next_hop place limit stations)
    ≡ (if nat_lt n.distance limit then Some n.address else None)

-- A walk over entries in any order, for the source of least address that is wanted.
use Rattle.std.specs.Prelude.{ℕ, Bool, ◌&&◌, ◌==◌, nat_lt, if◌then◌else◌, Option, Some, None}
use Rattle.its_gnvalue.specs.Values.{PositionVector, mid_of}
use Rattle.its_loctable.specs.declared.ordered.wanted.Wanted.{Wanted}
use Rattle.its_loctable.specs.declared.ordered.wanted.Wanted.TheVariants.{HasMid, NeighbourAbove}
use Rattle.its_loctable.specs.declared.heard.Known.{Known as Shown}
use Rattle.its_model.specs.History.{Known}
use Rattle.its_model.specs.Stations.{is_above}
use Rattle.its_loctable.specs.Content.{Entry}

-- whether a source with this vector, which may be a neighbour, is one that is looked for
abbrev pub accepts : Wanted → PositionVector → Bool → Bool
accepts (HasMid mid) vector neighbour = mid_of vector.address == mid
accepts (NeighbourAbove after) vector neighbour = neighbour && is_above after vector.address

abbrev pub is_wanted : Wanted → Known → Bool
is_wanted wanted k = accepts wanted k.vector k.neighbour

-- the one of two that has the least address, the first of two with one address
abbrev pub lesser : Option Known → Option Known → Option Known
lesser None y = y
lesser (Some x) None = Some x
lesser (Some x) (Some y) = if nat_lt y.vector.address x.vector.address then Some y else Some x

-- the same of what is shown of two
abbrev pub lesser_shown : Option Shown → Shown → Option Shown
lesser_shown None y = Some y
lesser_shown (Some x) y = if nat_lt y.vector.address x.vector.address then Some y else Some x

-- the best that was found, after one more entry
abbrev pub better : (Known → Bool) → ℕ → Option Known → Entry → Option Known
better p t best e = if nat_lt t e.until && p e.known then lesser best (Some e.known) else best

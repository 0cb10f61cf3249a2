use Rattle.std.specs.Prelude.{nat_eq}
use Rattle.std.specs.HashMap.{get}
use Rattle.its_world.specs.Mids.{mids}
use Rattle.its_world.proofs.Walks.{Differ, Knows, Places}
use Rattle.its_world.proofs.mids.first_shared.Given as goal

-- the MIDs so far differ from each other, and the map gives the place of each of them
abbrev pub invariant-loop-number : goal.invariant-loop-number
invariant-loop-number l =
    Differ (mids l.configs) l.number
    × Knows (get nat_eq l.known) (mids l.configs) l.number
    × Places (get nat_eq l.known) (mids l.configs) l.number

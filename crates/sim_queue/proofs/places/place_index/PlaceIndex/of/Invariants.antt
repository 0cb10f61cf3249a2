use Rattle.std.proofs.Common.{◌≡◌, take}
use Rattle.std.specs.Prelude.{count_by}
use Rattle.sim_queue.specs.PlaceIndexes.{AreStandingsOf, is_off}
use Rattle.sim_queue.proofs.places.place_index.PlaceIndex.of.Given as goal

-- the first stations stand where they are
abbrev pub invariant-loop-number : goal.invariant-loop-number
invariant-loop-number l = record {
  stand : AreStandingsOf (take l.number l.stations) l.order.items;
  longitudes : count_by is_off l.order.items ≡ 0;
}

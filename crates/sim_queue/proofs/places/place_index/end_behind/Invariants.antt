use Rattle.std.proofs.Common.{◌≤◌}
use Rattle.std.specs.List.{AllWithin}
use Rattle.sim_queue.specs.PlaceIndexes.{row_key}
use Rattle.sim_queue.proofs.places.place_index.end_behind.Given as goal

-- none of those that were passed comes later
abbrev pub invariant-loop-end : goal.invariant-loop-end
invariant-loop-end l = AllWithin (λ s. row_key l.range s.place ≤ l.key) l.order l.from l.end

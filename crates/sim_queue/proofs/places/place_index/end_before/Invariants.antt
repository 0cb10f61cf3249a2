use Rattle.std.proofs.Common.{◌≤◌, ◌-◌}
use Rattle.std.specs.List.{AllWithin}
use Rattle.sim_queue.specs.PlaceIndexes.{row_key}
use Rattle.sim_queue.proofs.places.place_index.end_before.Given as goal

-- none of those that were passed comes sooner
abbrev pub invariant-loop-passed : goal.invariant-loop-passed
invariant-loop-passed l =
    AllWithin (λ s. l.key ≤ row_key l.range s.place) l.order (l.from - l.passed) l.from

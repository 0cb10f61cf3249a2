use Rattle.std.proofs.Common.{◌≡◌, ◌++◌, map, filter, take}
use Rattle.sim_queue.specs.Reach.{hears_there}
use Rattle.sim_queue.proofs.places.place_index.gather.Given as goal

-- of the first standings those that hear were found, behind what was found before
abbrev pub invariant-loop-standing : goal.invariant-loop-standing
invariant-loop-standing l =
    l.found.items ≡ l.initial.found.items ++ map (λ s. s.number)
    (filter (hears_there l.range l.giver l.centre.place) (take l.standing-index l.near))

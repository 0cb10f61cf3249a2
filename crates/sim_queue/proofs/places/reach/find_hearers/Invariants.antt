use Rattle.std.proofs.Common.{◌≡◌, take}
use Rattle.sim_queue.specs.Reach.{hearers}
use Rattle.sim_queue.proofs.places.reach.find_hearers.Given as goal

-- of the first stations those that hear were found
abbrev pub invariant-loop-number : goal.invariant-loop-number
invariant-loop-number l =
    record {
      found : l.found.items ≡ hearers l.range (take l.number l.stations) l.giver l.fn.place;
      centre : l.centre.place ≡ l.fn.place;
    }

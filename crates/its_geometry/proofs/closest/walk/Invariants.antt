use Rattle.std.proofs.Common.{◌≡◌, ◌<◌, ◌≤◌, ◌-◌, ◌^◌, take, length}
use Rattle.its_geometry.specs.Nearest.{least_of, distances, AllAbove}
use Rattle.its_geometry.proofs.closest.walk.Given as goal

abbrev pub invariant-loop-at : goal.invariant-loop-at
invariant-loop-at l = record {
  count : length l.lanes ≡ 8;
  within : l.at ≤ length l.places;
  centre : l.found.reach.centre ≡ l.centre;
  lanes : least_of l.lanes ≡ l.found.reach.least;
  least : l.found.reach.least ≡ least_of (take l.at (distances l.centre.place l.places));
  above : AllAbove l.found.reach.least l.found.from (distances l.centre.place l.places);
  small : 0 < l.at → l.found.reach.least < 2 ^ 63;
}

abbrev pub decreases-loop-at : goal.decreases-loop-at
decreases-loop-at l = length l.places - l.at

abbrev pub invariant-loop-i : goal.invariant-loop-i
invariant-loop-i l = record {
  least : l.found.reach.least ≡ least_of (take l.i (distances l.centre.place l.places));
  above : AllAbove l.found.reach.least l.found.from (distances l.centre.place l.places);
  small : 0 < l.i → l.found.reach.least < 2 ^ 63;
}

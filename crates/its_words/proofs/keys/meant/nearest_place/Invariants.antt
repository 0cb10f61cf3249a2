use Rattle.std.proofs.Common.{map}
use Rattle.its_words.proofs.Near.{IsSoFar}
use Rattle.its_words.proofs.keys.meant.nearest_place.Given as goal

-- the nearest so far
abbrev pub invariant-loop-place : goal.invariant-loop-place
invariant-loop-place g l =
    IsSoFar l.place l.word (map g.T.Spelled.spelling_of l.known) l.found l.fewest

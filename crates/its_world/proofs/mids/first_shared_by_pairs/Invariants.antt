use Rattle.its_world.specs.Mids.{AreApartBelow}
use Rattle.its_world.proofs.mids.first_shared_by_pairs.Given as goal

-- no two so far have the same MID
abbrev pub invariant-loop-number : goal.invariant-loop-number
invariant-loop-number l = AreApartBelow l.number l.configs

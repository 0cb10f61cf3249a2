use Rattle.std.proofs.Common.{◌≢◌, ℕ, ◌<◌, slice_index}
use Rattle.its_world.specs.Mids.{mids}
use Rattle.its_world.proofs.mids.place_of.Given as goal

-- none so far has it
abbrev pub invariant-loop-place : goal.invariant-loop-place
invariant-loop-place l = (k : ℕ) → k < l.place → slice_index (mids l.configs) k ≢ l.mid

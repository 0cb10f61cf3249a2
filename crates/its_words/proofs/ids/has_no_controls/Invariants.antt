use Rattle.std.proofs.Common.{ℕ, ◌<◌}
use Rattle.its_words.specs.Ids.{IsControlAt}
use Rattle.its_words.proofs.ids.has_no_controls.Given as goal

-- none so far
abbrev pub invariant-loop-place : goal.invariant-loop-place
invariant-loop-place l = (k : ℕ) → k < l.place → IsControlAt l.octets k → ⊥

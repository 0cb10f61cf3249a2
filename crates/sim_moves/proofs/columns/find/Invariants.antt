use Rattle.sim_moves.specs.Columns.{IsFoundBelow, texts}
use Rattle.sim_moves.proofs.columns.find.Given as goal

-- how often it stands so far
abbrev pub invariant-loop-place : goal.invariant-loop-place
invariant-loop-place l = IsFoundBelow l.place (texts l.names) l.word l.found

use Rattle.std.proofs.Common.{◌≡◌, ◌≤◌, ◌<◌, ◌++◌, ℕ, [], drop, get_or, slice_range}
use Rattle.sim_moves.specs.Fields.{cut, plain_after}
use Rattle.sim_moves.proofs.fields.find_bounds.Given as goal

-- no mark so far, the fields that are done, and those of the rest
abbrev pub invariant-loop-place : goal.invariant-loop-place
invariant-loop-place l = record {
  plain : (k : ℕ) → k < l.place → get_or l.line k 0 ≡ 34 → ⊥;
  order : l.begin ≤ l.place;
  fields : plain_after l.separator [] l.line
      ≡ cut l.line l.bounds.items
      ++ plain_after l.separator (slice_range l.line l.begin l.place) (drop l.place l.line);
}

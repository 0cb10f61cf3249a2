use Rattle.std.specs.Prelude.{◌≡◌, ◌≤◌}
use Rattle.sim_moves.proofs.rows.Rows.read_row.Given as goal

-- the clock has shown no less since then
abbrev pub invariant-loop : goal.invariant-loop
invariant-loop g l =
    record {
      begin : l.self.begin ≡ l.fn.self.begin;
      before : l.fn.self.before ≤ l.self.before;
    }

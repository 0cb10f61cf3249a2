use Rattle.std.proofs.Common.{◌≡◌, ◌≤◌, ◌<◌, ℕ, All, count_by, eqb}
use Rattle.std.specs.Prelude.{vec_len, vec_capacity}
use Rattle.its_loctable.proofs.sorted.rows.all_rows.Given as goal

abbrev pub invariant-loop-row : goal.invariant-loop-row
invariant-loop-row l =
    record {
      len : vec_len l.rows ≡ l.row;
      room : l.capacity ≤ vec_capacity l.rows;
      below : All (λ r. r < l.row) l.rows.items;
      once : (row : ℕ) → count_by (λ r. eqb r row) l.rows.items ≤ 1;
      none : (row : ℕ) → l.row ≤ row → count_by (λ r. eqb r row) l.rows.items ≡ 0;
    }

use Rattle.std.proofs.Common.{◌≡◌, ℕ}
use Rattle.std.specs.Prelude.{count_by, ◌==◌}
use Rattle.sim_queue.specs.PlaceIndexes.{count_at}
use Rattle.sim_queue.proofs.Rows.{hears_south}
use Rattle.sim_queue.proofs.places.place_index.PlaceIndex.gather_rows.Given as goal

-- those that hear in the rows before this one were found
abbrev pub invariant-loop-row : goal.invariant-loop-row
invariant-loop-row l =
    record {
      found : (n : ℕ) → count_by (λ m. m == n) l.found.items
          ≡ count_at (hears_south l.self.range l.range l.giver l.fn.place l.row n) n
          l.self.order.items;
      centre : l.centre.place ≡ l.fn.place;
    }

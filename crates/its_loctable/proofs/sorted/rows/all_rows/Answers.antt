use Rattle.std.proofs.Common.{◌≡◌, ◌≢◌, ◌<◌, ◌+◌, count_by, eqb, ap, ◌∙◌, ⊎_elim, arith}
use Rattle.std.proofs.lemmas.Bool.{cases_eq}
use Rattle.std.proofs.lemmas.List.Elements.{All-push, All-same, All-weaker}
use Rattle.std.proofs.lemmas.List.Sums.{sum_by_push}
use Rattle.its_loctable.proofs.RowLemmas.{one_of, free_other, at_most_one}
use Rattle.its_loctable.proofs.sorted.rows.all_rows.Goals as goal

pub loop-row-preserved : goal.loop-row-preserved
loop-row-preserved c =
    let rows = c.loop-row.rows.items in
    let row = c.loop-row.row in
    let v = c.loop-row.invariant in
    let put = c.push_reserved.ensures.items in
    record {
      len = c.push_reserved.ensures.len ∙ ap (λ n. n + 1) v.len;
      room = omega (arith, v.room, c.push_reserved.ensures.capacity);
      below = All-same (λ r. r < row + 1) _ _ put
          (All-push (λ r. r < row + 1) rows row
          (All-weaker (λ r. r < row) (λ r. r < row + 1) (λ r lt. omega arith) rows v.below)
          (omega arith));
      once = λ r. ⊎_elim
          (λ (e : row ≡ r). omega (
            arith,
            ap (count_by (λ q. eqb q r)) put,
            sum_by_push (one_of r) rows row,
            v.none r (omega (arith, e)),
            at_most_one r row,
          ))
          (λ (e : row ≢ r). omega (
            arith,
            ap (count_by (λ q. eqb q r)) put,
            sum_by_push (one_of r) rows row,
            v.once r,
            free_other r row e,
          ))
          (cases_eq row r);
      none = λ r le. omega (
        arith,
        ap (count_by (λ q. eqb q r)) put,
        sum_by_push (one_of r) rows row,
        v.none r (omega (arith, le)),
        free_other r row (λ e. absurd (omega (arith, le, e))),
      );
    }

pub returns-clause-owned : goal.returns-clause-owned
returns-clause-owned c = λ row. omega (arith, c.loop-row.invariant.once row)

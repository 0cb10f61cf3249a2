use Rattle.std.proofs.Common.{ℕ, ◌≤◌, ◌<◌, ◌+◌, count_by, eqb, ltb, List}
use Rattle.std.proofs.Common.{◌≡◌, take, drop, set, get_or, length, ap, sym, subst, ◌∙◌, arith}
use Rattle.std.specs.Prelude.{vec_len, vec_capacity}
use Rattle.std.proofs.lemmas.Bool.{lt-ltb, le-ltb}
use Rattle.std.proofs.lemmas.List.{take_more_set, drop-set-lt, set-get_or, map-set, take-map}
use Rattle.std.proofs.lemmas.List.Elements.{All-push, All-same, All-weaker}
use Rattle.std.proofs.lemmas.List.Filters.{FiltersInPlace, FiltersInPlace-more_set}
use Rattle.std.proofs.lemmas.List.Filters.{FiltersInPlace-more_no}
use Rattle.std.proofs.lemmas.List.Sums.{sum_by_push, sum_by-drop_more}
use Rattle.its_loctable.specs.declared.sorted.slot.SortedSlot.{SortedSlot}
use Rattle.its_loctable.specs.Rows.{IsRow}
use Rattle.its_loctable.specs.Sorted.{addresses_of}
use Rattle.its_loctable.proofs.SortedLemmas.{key, column-at}
use Rattle.its_loctable.proofs.RowLemmas.{has, one_of, read_row}
use Rattle.its_loctable.proofs.sorted.sweep.sweep.Goals as goal
use Rattle.its_loctable.proofs.sorted.sweep.sweep.Goals.{then-now-until, else-now-until}
use Rattle.its_loctable.proofs.sorted.sweep.sweep.Goals.{then-kept-i, else-kept-i}

pub loop-i-preserved : goal.loop-i-preserved
loop-i-preserved c =
    let xs = c.loop-i.slots.items in
    let i = c.loop-i.i in
    let slot = c.index-slot.result.now in
    let v = c.loop-i.invariant in
    let within : i < length xs = omega (arith, c.loop-i-test.true, v.len, c.loop-i.slots.ok.0) in
    elim c.if-now-until.branch [
      | then-now-until w ↦ rw (w.slots-is, w.addresses-is, w.free-is, w.kept-is, w.end-is) (
          let now_slots = w.if-kept-i.slots in
          let now_addresses = w.if-kept-i.addresses in
          let same : (now_slots.items ≡ set xs c.loop-i.kept slot)
          × ((vec_len now_slots ≡ vec_len c.loop-i.slots)
          × (vec_capacity now_slots ≡ vec_capacity c.loop-i.slots)) =
          elim w.if-kept-i.branch [
            | then-kept-i u ↦ (
              (λ j. (u.slots-is j).items),
              ((λ j. vec_len (u.slots-is j)), (λ j. vec_capacity (u.slots-is j))),
            )
            | else-kept-i u ↦ (
              (λ j. (u.slots-is j).items) ∙ sym (
                  ap (λ k. set xs k slot) (omega (arith, v.filters.behind, u.if-kept-i.false))
                  ∙ ap (λ s. set xs i s) c.index-slot.ensures ∙ set-get_or xs i slot),
              ((λ j. vec_len (u.slots-is j)), (λ j. vec_capacity (u.slots-is j))),
            )
          ] in
          let own : (a : ℕ) → a ≡ get_or c.loop-i.addresses.items i a → a ≡ key slot =
          (λ a is. column-at xs i a slot within (is ∙ ap (λ l. get_or l i a) v.column)
          ∙ ap key (sym c.index-slot.ensures)) in
          let column : (now_addresses.items ≡ addresses_of now_slots.items)
          × (vec_capacity now_addresses ≡ vec_capacity c.loop-i.addresses) =
          elim w.if-kept-i.branch [
            | then-kept-i u ↦ (
              (λ j. (u.addresses-is j).items)
                  ∙ (λ j. set (v.column j) c.loop-i.kept (own u.index.result.now u.index.ensures j))
                  ∙ sym (map-set key xs c.loop-i.kept slot)
                  ∙ ap addresses_of (sym (λ j. (u.slots-is j).items)),
              (λ j. vec_capacity (u.addresses-is j)),
            )
            | else-kept-i u ↦ (
              (λ j. (u.addresses-is j).items) ∙ v.column
                  ∙ ap addresses_of (sym (λ j. (u.slots-is j).items)),
              (λ j. vec_capacity (u.addresses-is j)),
            )
          ] in
          record {
            filters = subst (λ (l : List SortedSlot). FiltersInPlace
                (λ (s : SortedSlot). ltb c.args.now s.until) c.args.slots.now.items l
                (c.loop-i.kept + 1) (i + 1)) (sym same.0)
                (FiltersInPlace-more_set v.filters within (lt-ltb _ _ w.if-now-until.true)
                c.index-slot.ensures);
            len = same.1.0 ∙ v.len;
            capacity = same.1.1 ∙ v.capacity;
            column = column.0;
            column_capacity = column.1 ∙ v.column_capacity;
            total = omega (arith, v.total);
            free_capacity = v.free_capacity;
            ends = All-same (λ (s : SortedSlot). w.min-end.result ≤ s.until) _ _
                (ap (take (c.loop-i.kept + 1)) same.0
                ∙ take_more_set xs c.loop-i.kept slot (omega (arith, within, v.filters.behind)))
                (All-push (λ (s : SortedSlot). w.min-end.result ≤ s.until) (take c.loop-i.kept xs)
                slot
                (All-weaker (λ (s : SortedSlot). c.loop-i.end ≤ s.until)
                (λ (s : SortedSlot). w.min-end.result ≤ s.until)
                (λ s le. omega (arith, w.min-end.ensures)) (take c.loop-i.kept xs) v.ends)
                (omega (arith, w.min-end.ensures)));
            rows = v.rows;
            owned = λ row. omega (
              arith,
              v.owned row,
              ap (count_by (λ (s : SortedSlot). eqb s.row row))
                  (ap (take (c.loop-i.kept + 1)) same.0
                  ∙ take_more_set xs c.loop-i.kept slot (omega (arith, within, v.filters.behind))),
              sum_by_push (has row) (take c.loop-i.kept xs) slot,
              ap (count_by (λ (s : SortedSlot). eqb s.row row))
                  (ap (drop (i + 1)) same.0
                  ∙ drop-set-lt (i + 1) xs c.loop-i.kept slot (omega (arith, v.filters.behind))),
              sum_by-drop_more (has row) xs i slot within,
              ap (has row) c.index-slot.ensures,
            );
          })
      | else-now-until w ↦ rw (w.slots-is, w.addresses-is, w.free-is, w.kept-is, w.end-is) (record {
        filters = FiltersInPlace-more_no v.filters within
            (le-ltb _ _ w.if-now-until.false) c.index-slot.ensures;
        len = v.len;
        capacity = v.capacity;
        column = v.column;
        column_capacity = v.column_capacity;
        total = omega (arith, v.total, w.push_reserved.ensures.len);
        free_capacity = w.push_reserved.ensures.capacity ∙ v.free_capacity;
        ends = v.ends;
        rows = λ n len all free. All-same (IsRow n len) _ _ w.push_reserved.ensures.items
            (All-push (IsRow n len) c.loop-i.free.items slot.row (v.rows n len all free)
            (read_row c.args.slots.now.items xs i n len slot v.filters.rest within
            v.filters.long c.index-slot.ensures all));
        owned = λ row. omega (
          arith,
          v.owned row,
          sum_by-drop_more (has row) xs i slot within,
          ap (has row) c.index-slot.ensures,
          ap (count_by (λ r. eqb r row)) w.push_reserved.ensures.items,
          sum_by_push (one_of row) c.loop-i.free.items slot.row,
        );
      })
    ]

pub returns-clause-column : goal.returns-clause-column
returns-clause-column c =
    let kept = c.loop-i.kept in
    c.truncate-2.ensures.items ∙ ap (take kept) c.loop-i.invariant.column
    ∙ take-map key kept c.loop-i.slots.items ∙ ap addresses_of (sym c.truncate.ensures.items)

pub returns-clause-owned : goal.returns-clause-owned
returns-clause-owned c = λ owned row.
    let v = c.loop-i.invariant in
    omega (
      arith,
      owned row,
      v.owned row,
      ap (count_by (λ (s : SortedSlot). eqb s.row row)) c.truncate.ensures.items,
    )

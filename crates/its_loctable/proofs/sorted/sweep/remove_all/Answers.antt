use Rattle.std.proofs.Common.{◌≡◌, ◌+◌, ◌-◌, Some, count_by, eqb, ap, ◌∙◌, arith}
use Rattle.std.specs.Prelude.{vec_len}
use Rattle.std.proofs.lemmas.List.Elements.{All-pop, All-take, All-push, All-same}
use Rattle.std.proofs.lemmas.List.Sums.{sum_by_push}
use Rattle.its_loctable.specs.declared.sorted.slot.SortedSlot.{SortedSlot}
use Rattle.its_loctable.specs.Rows.{HasRow, IsRow}
use Rattle.its_loctable.proofs.RowLemmas.{has, one_of}
use Rattle.its_loctable.proofs.sorted.sweep.remove_all.Goals as goal

pub loop-slots-preserved-in-Some : goal.loop-slots-preserved-in-Some
loop-slots-preserved-in-Some c =
    let xs = c.loop-slots.slots.items in
    let inv = c.loop-slots.invariant in
    let some = c.in-Some.ensures in
    let fewer : vec_len c.pop.new.self + 1 ≡ vec_len c.loop-slots.slots = some.cases in
    record {
      total = omega (arith, fewer, c.push_reserved.ensures.len, inv.total);
      capacity = some.capacity ∙ inv.capacity;
      free_capacity = c.push_reserved.ensures.capacity ∙ inv.free_capacity;
      slots_rows = λ n len all. All-same (HasRow n len) _ _ some.rest
          (All-take (HasRow n len) (vec_len c.loop-slots.slots - 1) xs (inv.slots_rows n len all));
      rows = λ n len all free.
          let last : HasRow n len c.in-Some.slot =
          (All-pop (HasRow n len) xs c.pop.new.self.items (Some c.in-Some.slot) some.items
          (inv.slots_rows n len all)).1 in
          All-same (IsRow n len) _ _ c.push_reserved.ensures.items
          (All-push (IsRow n len) c.loop-slots.free.items c.in-Some.slot.row
          (inv.rows n len all free) last.0);
      owned = λ row. omega (
        arith,
        inv.owned row,
        ap (count_by (λ (s : SortedSlot). eqb s.row row)) some.items,
        sum_by_push (has row) c.pop.new.self.items c.in-Some.slot,
        ap (count_by (λ r. eqb r row)) c.push_reserved.ensures.items,
        sum_by_push (one_of row) c.loop-slots.free.items c.in-Some.slot.row,
      );
    }

pub returns-clause-owned : goal.returns-clause-owned
returns-clause-owned c = λ owned row. omega (arith, owned row, c.loop-slots.invariant.owned row)

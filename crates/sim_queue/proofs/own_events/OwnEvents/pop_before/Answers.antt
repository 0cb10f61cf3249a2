use Rattle.std.proofs.Common.{◌≤◌, List, ◌∷◌, ◌++◌, Option, None, Some, ap, refl, sym, subst}
use Rattle.std.specs.Prelude.{All, IfNone}
use Rattle.std.specs.BinaryHeap.{heap_items}
use Rattle.std.specs.List.Sorted.{IsPermutation}
use Rattle.sim_queue.specs.Line.{StandInLine}
use Rattle.sim_queue.specs.Waiting.{delivery_of, in_line}
use Rattle.sim_queue.specs.declared.scheduled.Scheduled.{Scheduled}
use Rattle.sim_queue.proofs.Lines.{bound_both, late_in_line, late_on_heap, moves_front, moves_top}
use Rattle.sim_queue.proofs.own_events.OwnEvents.pop_before.Goals as goal

on_none : {X : Type 0} (o : Option X) {P : Type 0} → P → IfNone o P
on_none None p = p
on_none (Some x) p = tt

pub returns-in_err-delivery-clause-late : goal.returns-in_err-delivery-clause-late
returns-in_err-delivery-clause-late c =
    on_none c.from_residual.result
    (subst (All (λ (e : Scheduled). c.args.moment ≤ e.moment)) c.self.view_is
    (late_in_line c.args.moment (heap_items c.self.inside.heap) (in_line c.self.inside.line.items)
    (c.if-is_line_first.ensures.line refl) c.self.invariant.in_line
    c.in_err-delivery.ensures.late))

pub invariant_of-self-then-is_line_first : goal.invariant_of-self-then-is_line_first
invariant_of-self-then-is_line_first c =
    let is = ap in_line c.in_ok-delivery.ensures.taken in
    record {
      on_heap = c.self.invariant.on_heap;
      in_line = (subst StandInLine is c.self.invariant.in_line).1;
      counted = c.self.invariant.counted;
    }

pub returns-in_err-event-clause-late : goal.returns-in_err-event-clause-late
returns-in_err-event-clause-late c =
    on_none c.from_residual-in_err-event.result
    (subst (All (λ (e : Scheduled). c.args.moment ≤ e.moment)) c.self.view_is
    (late_on_heap c.args.moment (heap_items c.self.inside.heap) (in_line c.self.inside.line.items)
    (c.if-is_line_first.ensures.heap refl) c.in_err-event.ensures.late))

pub invariant_of-self-else-is_line_first : goal.invariant_of-self-else-is_line_first
invariant_of-self-else-is_line_first c =
    let heap = heap_items c.self.inside.heap in
    let new = heap_items c.pop_heap.new.heap in
    record {
      on_heap = c.pop_heap.ensures.order;
      in_line = c.self.invariant.in_line;
      counted = c.remove.ensures heap new c.self.invariant.counted c.in_ok-event.ensures.taken;
    }

pub returns-in_ok-delivery-clause-left : goal.returns-in_ok-delivery-clause-left
returns-in_ok-delivery-clause-left c =
    let heap = heap_items c.self.inside.heap in
    let new = in_line c.pop_line.new.line.items in
    let first = delivery_of c.in_ok-delivery.delivery in
    subst (λ (w : Scheduled). IsPermutation c.args.self.now (w ∷ (heap ++ new)))
    (sym c.scheduled.ensures)
    (subst (λ (s : List Scheduled). IsPermutation s (first ∷ (heap ++ new))) c.self.view_is
    (subst (λ (l : List Scheduled). IsPermutation (heap ++ l) (first ∷ (heap ++ new)))
    (sym (ap in_line c.in_ok-delivery.ensures.taken)) (moves_front first heap new)))

pub returns-in_ok-event-clause-first : goal.returns-in_ok-event-clause-first
returns-in_ok-event-clause-first c =
    let line = in_line c.self.inside.line.items in
    let new = heap_items c.pop_heap.new.heap in
    let event = c.in_ok-event.event in
    bound_both event new line c.in_ok-event.ensures.rest
    ((c.if-is_line_first.ensures.heap refl).first event c.in_ok-event.ensures.first)

pub returns-in_ok-event-clause-left : goal.returns-in_ok-event-clause-left
returns-in_ok-event-clause-left c =
    let heap = heap_items c.self.inside.heap in
    let line = in_line c.self.inside.line.items in
    let new = heap_items c.pop_heap.new.heap in
    let event = c.in_ok-event.event in
    subst (λ (s : List Scheduled). IsPermutation s (event ∷ (new ++ line))) c.self.view_is
    (moves_top event heap new line c.in_ok-event.ensures.taken)

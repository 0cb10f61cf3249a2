use Rattle.std.proofs.Common.{List, ◌∷◌, ◌++◌, sym, subst}
use Rattle.std.specs.BinaryHeap.{heap_items, IsHeap}
use Rattle.std.specs.List.Sorted.{IsPermutation}
use Rattle.sim_queue.specs.Counted.{AreCounted}
use Rattle.sim_queue.specs.Waiting.{in_line, waiting_cmp}
use Rattle.sim_queue.specs.declared.scheduled.Scheduled.{Scheduled}
use Rattle.sim_queue.proofs.Lines.{moves_heap}
use Rattle.sim_queue.proofs.own_events.OwnEvents.push.Goals as goal

pub invariant_of-self-in_err-add : goal.invariant_of-self-in_err-add
invariant_of-self-in_err-add c =
    let counts = c.add.new.self in
    let is = c.reserve.ensures.items in
    record {
      on_heap = subst (IsHeap waiting_cmp) (sym is) c.self.invariant.on_heap;
      in_line = c.self.invariant.in_line;
      counted = subst (AreCounted counts.kinds counts.each.items) (sym is)
          (c.in_err-add.ensures.failed (heap_items c.self.inside.heap) c.self.invariant.counted);
    }

pub invariant_of-self-2 : goal.invariant_of-self-2
invariant_of-self-2 c =
    let heap = heap_items c.self.inside.heap in
    let new = heap_items c.push.new.self in
    let event : Scheduled = record {
      moment = c.args.moment;
      place = c.args.place;
      station = c.args.station;
      own = c.args.own;
    } in
    let is = c.reserve.ensures.items in
    let moves : IsPermutation (event ∷ heap) new =
    subst (λ (h : List Scheduled). IsPermutation (event ∷ h) new) is
    c.in_ok-push.ensures.permutation in
    record {
      on_heap = c.in_ok-push.ensures.heap_order
          (subst (IsHeap waiting_cmp) (sym is) c.self.invariant.on_heap);
      in_line = c.self.invariant.in_line;
      counted = c.in_ok-add.ensures.added heap new c.self.invariant.counted moves;
    }

pub returns-clause-put : goal.returns-clause-put
returns-clause-put c =
    let heap = heap_items c.self.inside.heap in
    let line = in_line c.self.inside.line.items in
    let new = heap_items c.push.new.self in
    let event : Scheduled = record {
      moment = c.args.moment;
      place = c.args.place;
      station = c.args.station;
      own = c.args.own;
    } in
    let moves : IsPermutation (event ∷ heap) new =
    subst (λ (h : List Scheduled). IsPermutation (event ∷ h) new) c.reserve.ensures.items
    c.in_ok-push.ensures.permutation in
    subst (λ (s : List Scheduled). IsPermutation (event ∷ s) (new ++ line)) c.self.view_is
    (moves_heap event heap new line moves)

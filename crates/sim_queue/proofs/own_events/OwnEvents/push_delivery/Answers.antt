use Rattle.std.proofs.Common.{◌≡◌, ◌∙◌, List, [], ◌∷◌, ◌++◌, ap, refl, sym, subst}
use Rattle.std.specs.BinaryHeap.{heap_items}
use Rattle.std.specs.List.Sorted.{IsPermutation}
use Rattle.sim_queue.specs.Line.{StandInLine}
use Rattle.sim_queue.specs.Waiting.{delivery_of, in_line}
use Rattle.sim_queue.specs.declared.scheduled.Scheduled.{Scheduled}
use Rattle.sim_queue.proofs.Lines.{one_more, stand_push, moves_line}
use Rattle.sim_queue.proofs.own_events.OwnEvents.push_delivery.Goals as goal

pub invariant_of-self-then-is_behind : goal.invariant_of-self-then-is_behind
invariant_of-self-then-is_behind c =
    let line = c.self.inside.line.items in
    let new = c.args.delivery in
    let is : in_line c.push_back.new.self.items ≡ in_line line ++ delivery_of new ∷ [] =
    ap in_line c.in_ok-push_back.ensures.items ∙ one_more line new in
    record {
      on_heap = c.self.invariant.on_heap;
      in_line = subst StandInLine (sym is)
          (stand_push (delivery_of new) (in_line line) c.self.invariant.in_line
          (c.if-is_behind.ensures refl));
      counted = c.self.invariant.counted;
    }

pub returns-in_ok-push_back-clause-put : goal.returns-in_ok-push_back-clause-put
returns-in_ok-push_back-clause-put c =
    let heap = heap_items c.self.inside.heap in
    let line = c.self.inside.line.items in
    let new = c.args.delivery in
    let is : in_line c.push_back.new.self.items ≡ in_line line ++ delivery_of new ∷ [] =
    ap in_line c.in_ok-push_back.ensures.items ∙ one_more line new in
    subst (λ (s : List Scheduled). IsPermutation (delivery_of new ∷ s)
    (heap ++ in_line c.push_back.new.self.items)) c.self.view_is
    (subst (λ (l : List Scheduled). IsPermutation (delivery_of new ∷ (heap ++ in_line line))
    (heap ++ l)) (sym is)
    (moves_line (delivery_of new) heap (in_line line)))

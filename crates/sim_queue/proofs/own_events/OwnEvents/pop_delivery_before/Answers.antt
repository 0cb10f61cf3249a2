use Rattle.std.proofs.Common.{◌≡◌, ◌∷◌, ◌++◌, List, Option, None, Some, ap, sym, subst}
use Rattle.std.specs.Prelude.{IfSome}
use Rattle.std.specs.BinaryHeap.{heap_items}
use Rattle.std.specs.List.Sorted.{IsPermutation}
use Rattle.sim_queue.specs.Waiting.{delivery_of, in_line}
use Rattle.sim_queue.specs.declared.scheduled.Delivery.{Delivery}
use Rattle.sim_queue.specs.declared.scheduled.Scheduled.{Scheduled}
use Rattle.sim_queue.proofs.Lines.{moves_front}
use Rattle.sim_queue.proofs.own_events.OwnEvents.pop_delivery_before.Goals as goal

-- what was there is the one taken, if one was, and what is left
left_of : (heap all : List Scheduled) (old new : List Delivery) (taken : Option Delivery)
    → heap ++ in_line old ≡ all → IfSome taken (λ first. old ≡ first ∷ new)
    → IfSome taken (λ first. IsPermutation all (delivery_of first ∷ (heap ++ in_line new)))
left_of heap all old new None is taken = tt
left_of heap all old new (Some first) is taken =
    let rest = in_line new in
    let w = delivery_of first in
    subst (λ (s : List Scheduled). IsPermutation s (w ∷ (heap ++ rest))) is
    (subst (λ (l : List Scheduled). IsPermutation (heap ++ l) (w ∷ (heap ++ rest)))
    (sym (ap in_line taken)) (moves_front w heap rest))

pub returns-then-is_line_first-clause-left : goal.returns-then-is_line_first-clause-left
returns-then-is_line_first-clause-left c =
    left_of (heap_items c.self.inside.heap) c.args.self.now c.self.inside.line.items
    c.pop_line.new.line.items c.pop_line.result c.self.view_is c.pop_line.ensures.taken

use Rattle.std.proofs.Common.{◌≡◌, ◌∙◌, sym, refl, false, true}
use Rattle.std.specs.BinaryHeap.{heap_items}
use Rattle.sim_queue.specs.Waiting.{delivery_of, in_line}
use Rattle.sim_queue.proofs.Lines.{lt, front_of, some_in_line, line_first, heap_first}
use Rattle.sim_queue.proofs.own_events.is_line_first.Goals as goal

pub returns-in-Some-peek-clause-line : goal.returns-in-Some-peek-clause-line
returns-in-Some-peek-clause-line c = λ is.
    let line = c.args.line.now.items in
    let front = c.in-Some.in_line.now in
    let top = c.in-Some-peek.on_heap.now in
    let after : lt top (delivery_of front) ≡ true = sym (c.is_before.ensures top refl refl) ∙ is in
    line_first (heap_items c.args.heap.now) (in_line line) top (delivery_of front)
    (some_in_line line c.in-Some.ensures.item.3.0) (front_of line front c.in-Some.ensures.lookup)
    (c.in-Some-peek.ensures.greatest c.requires.heap) after

pub returns-in-Some-peek-clause-heap : goal.returns-in-Some-peek-clause-heap
returns-in-Some-peek-clause-heap c = λ is.
    let line = c.args.line.now.items in
    let front = c.in-Some.in_line.now in
    let top = c.in-Some-peek.on_heap.now in
    let after : lt top (delivery_of front) ≡ false = sym (c.is_before.ensures top refl refl) ∙ is in
    heap_first (heap_items c.args.heap.now) (in_line line) top (delivery_of front)
    c.in-Some-peek.ensures.item.3.0 c.in-Some-peek.ensures.lookup
    (front_of line front c.in-Some.ensures.lookup) c.requires.line after

use Rattle.std.proofs.Common.{◌∙◌, ℕ, ap}
use Rattle.std.specs.Prelude.{count_by, ◌==◌}
use Rattle.std.specs.BinaryHeap.{heap_items}
use Rattle.sim_queue.specs.Counted.{is_of_kind_at}
use Rattle.sim_queue.proofs.Lines.{all_on_heap}
use Rattle.sim_queue.proofs.own_events.OwnEvents.has_none.Goals as goal

pub returns-in-None : goal.returns-in-None
returns-in-None c =
    let heap = heap_items c.self.inside.heap in
    let kind = c.args.kind in
    let station = c.args.station in
    ap (λ (n : ℕ). n == 0) (c.count_of.ensures.count
    ∙ ap (count_by (is_of_kind_at kind station)) c.as_slice.ensures.value
    ∙ all_on_heap kind station heap c.args.self.now c.self.inside.line.items c.self.view_is)

use Rattle.std.proofs.Common.{◌≡◌, ◌∙◌, ℕ, ap, rules}
use Rattle.std.specs.Prelude.{count_by}
use Rattle.std.specs.BinaryHeap.{heap_items}
use Rattle.std.proofs.lemmas.Option.{IfSome_then}
use Rattle.sim_queue.specs.Counted.{is_kind_at, number_of}
use Rattle.sim_queue.proofs.Lines.{all_on_heap, counted_of}
use Rattle.sim_queue.proofs.own_events.OwnEvents.counted.Goals as goal

pub returns : goal.returns
returns c =
    let heap = heap_items c.self.inside.heap in
    let kind = c.args.kind in
    let station = c.args.station in
    let number-is : c.in_ok-number.field-0 ≡ number_of kind = search rules in
    IfSome_then c.get.result (c.get.ensures heap c.self.invariant.counted) (λ n is. is
    ∙ ap (λ (k : ℕ). count_by (is_kind_at k station) heap) number-is
    ∙ counted_of kind station heap
    ∙ all_on_heap kind station heap c.args.self.now c.self.inside.line.items c.self.view_is)

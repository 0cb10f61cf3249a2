use Rattle.std.proofs.Common.{ap, sym, subst}
use Rattle.sim_queue.specs.Counted.{AreCounted}
use Rattle.sim_queue.specs.Line.{StandInLine}
use Rattle.sim_queue.specs.Waiting.{in_line}
use Rattle.sim_queue.proofs.own_events.OwnEvents.new.Goals as goal

pub invariant_of-result : goal.invariant_of-result
invariant_of-result c =
    let kinds = c.new-3.result.kinds in
    let counts = c.new-3.result.each.items in
    record {
      on_heap = c.new.ensures.heap_order;
      in_line = subst StandInLine (sym (ap in_line c.new-2.ensures.items)) tt;
      counted = subst (AreCounted kinds counts) (sym c.new.ensures.items) c.new-3.ensures;
    }

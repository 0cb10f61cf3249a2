use Rattle.std.proofs.Common.{◌∙◌, ap, take_all}
use Rattle.std.specs.Prelude.{count_by}
use Rattle.sim_queue.specs.Counted.{is_of_kind_at}
use Rattle.sim_queue.proofs.own_events.count_of.Goals as goal

pub returns : goal.returns
returns c =
    record {
      count =
          c.loop-event.invariant.count
          ∙ ap (count_by (is_of_kind_at c.args.kind c.args.station))
          (take_all c.loop-event.event-index c.args.own.now c.loop-event-test.false);
    }

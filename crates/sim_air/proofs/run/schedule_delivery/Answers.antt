use Rattle.std.proofs.Common.{◌∙◌, sym, true≢false}
use Rattle.sim_queue.proofs.Keeping.{keeps_sent}
use Rattle.sim_air.proofs.run.schedule_delivery.Goals as goal

pub returns : goal.returns
returns c =
    record {
      sent = λ t h.
          keeps_sent c.args.queue.now c.push_delivery.new.self c.args.draws.now c.is_lost.new.self t
          c.args.loss c.args.given.frame c.args.given.heard_at c.args.station
          c.in_ok-push_delivery.ensures.put c.in_ok-push_delivery.ensures.count c.is_lost.ensures.rest
          (λ lt. true≢false (sym (c.is_lost.ensures.lost.1 lt) ∙ c.if-is_lost.false)) h;
    }

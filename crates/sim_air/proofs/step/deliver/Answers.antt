use Rattle.sim_queue.specs.Waiting.{delivery_of, happening_of}
use Rattle.sim_air.proofs.Going.{one_well}
use Rattle.sim_air.proofs.Moved.{always_done, own_well}
use Rattle.sim_air.proofs.step.deliver.Goals as goal

pub returns-else-can_deliver-clause-moving : goal.returns-else-can_deliver-clause-moving
returns-else-can_deliver-clause-moving g c =
    always_done (delivery_of c.args.delivery.now) c.can_deliver.result c.args.run.now
    (g.S.EventSink.Took c.args.sink.now) (g.S.EventSink.Took c.args.sink.now)
    c.can_deliver.ensures.can c.if-can_deliver.false

pub returns-then-can_deliver-clause-moving : goal.returns-then-can_deliver-clause-moving
returns-then-can_deliver-clause-moving g c =
    own_well c.deliver.result (delivery_of c.args.delivery.now) c.args.run.now c.deliver.new.self
    (g.S.EventSink.Took c.args.sink.now) (g.S.EventSink.Took c.deliver.new.sink)
    c.deliver.ensures.released c.deliver.ensures.timed

pub returns-else-can_deliver-clause-going : goal.returns-else-can_deliver-clause-going
returns-else-can_deliver-clause-going g c = λ grows configs past h. h

pub returns-then-can_deliver-clause-going : goal.returns-then-can_deliver-clause-going
returns-then-can_deliver-clause-going g c = λ grows.
    one_well c.deliver.result grows (happening_of (delivery_of c.args.delivery.now))
    c.args.run.now.world c.deliver.new.self.world (g.S.EventSink.Took c.args.sink.now)
    (g.S.EventSink.Took c.deliver.new.sink) (c.can_deliver.ensures.there c.if-can_deliver.true)
    c.deliver.ensures.run

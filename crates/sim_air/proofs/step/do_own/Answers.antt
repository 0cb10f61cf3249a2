use Rattle.sim_air.proofs.Moved.{always_done, own_well}
use Rattle.sim_air.proofs.step.do_own.Goals as goal

pub returns-else-can_do-clause-moving : goal.returns-else-can_do-clause-moving
returns-else-can_do-clause-moving g c =
    always_done c.args.waiting.now c.can_do.result c.args.run.now
    (g.S.EventSink.Took c.args.sink.now) (g.S.EventSink.Took c.args.sink.now)
    c.can_do.ensures.can c.if-can_do.false

pub returns-then-can_do-clause-moving : goal.returns-then-can_do-clause-moving
returns-then-can_do-clause-moving g c =
    own_well c.do_own.result c.args.waiting.now c.args.run.now c.do_own.new.self
    (g.S.EventSink.Took c.args.sink.now) (g.S.EventSink.Took c.do_own.new.sink)
    c.do_own.ensures.released c.do_own.ensures.timed

pub returns-else-can_do-clause-going : goal.returns-else-can_do-clause-going
returns-else-can_do-clause-going g c = λ grows configs past h. h

pub returns-then-can_do-clause-going : goal.returns-then-can_do-clause-going
returns-then-can_do-clause-going g c = λ grows.
    c.do_own.ensures.going grows (c.can_do.ensures.there c.if-can_do.true)

use Rattle.sim_air.specs.Runs.{SaysAsBefore}
use Rattle.sim_air.proofs.run.note_dropped.Given as goal

-- the sink says what it said
abbrev pub invariant-loop-frame : goal.invariant-loop-frame
invariant-loop-frame g l =
    record { told : SaysAsBefore (g.S.EventSink.Took l.fn.sink) (g.S.EventSink.Took l.sink) }

use Rattle.std.proofs.Common.{◌≡◌, []}
use Rattle.cmd_pipe.specs.Serving.{CountedUnit, IsCounted}
use Rattle.cmd_pipe.proofs.Served.{Serving}
use Rattle.cmd_pipe.proofs.serving.serve.Given as goal

-- the lines so far were served, and this is the number of the next
abbrev pub invariant-loop-number : goal.invariant-loop-number
invariant-loop-number g l =
    (l.line.most ≡ 65536)
    × ((s : CountedUnit) → IsCounted l.fn.unit s
    → g.S.ResponseSink.Took l.fn.sink []
    → Serving s l.number l.unit l.ended (g.S.ResponseSink.Took l.sink)
    (g.R.Read.remaining l.fn.reader) (g.R.Read.remaining l.reader))

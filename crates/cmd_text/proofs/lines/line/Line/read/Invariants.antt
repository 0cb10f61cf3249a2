use Rattle.cmd_text.proofs.Texts.{Reading}
use Rattle.cmd_text.proofs.lines.line.Line.read.Given as goal

-- the line was read so far
abbrev pub invariant-loop : goal.invariant-loop
invariant-loop g l =
    Reading l.fn.self.most (g.R.Read.remaining l.fn.reader) (g.R.Read.remaining l.reader) l.self

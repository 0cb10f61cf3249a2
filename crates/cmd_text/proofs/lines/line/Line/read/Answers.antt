use Rattle.std.proofs.Common.{subst}
use Rattle.cmd_text.specs.Lines.{TakesPiece}
use Rattle.cmd_text.proofs.Texts.{reading_more, reading_line, reading_end}
use Rattle.cmd_text.proofs.lines.line.Line.read.Goals as goal

pub loop-preserved : goal.loop-preserved
loop-preserved g c =
    reading_more c.args.self.now.most (g.R.Read.remaining c.args.reader.now)
    (g.R.Read.remaining c.loop.reader) (g.R.Read.remaining c.read_ready.new.reader) c.loop.self
    c.read_ready.new.self c.loop.invariant c.read_ready.ensures.most
    (subst (TakesPiece (g.R.Read.remaining c.loop.reader)
    (g.R.Read.remaining c.read_ready.new.reader) c.loop.self c.read_ready.new.self)
    c.in-Within.is c.in_ok-read_ready.ensures.piece)

pub returns-in-EndOfLine-clause-line : goal.returns-in-EndOfLine-clause-line
returns-in-EndOfLine-clause-line g c =
    reading_line c.args.self.now.most (g.R.Read.remaining c.args.reader.now)
    (g.R.Read.remaining c.loop.reader) (g.R.Read.remaining c.read_ready.new.reader) c.loop.self
    c.read_ready.new.self c.loop.invariant
    (subst (TakesPiece (g.R.Read.remaining c.loop.reader)
    (g.R.Read.remaining c.read_ready.new.reader) c.loop.self c.read_ready.new.self)
    c.in-EndOfLine.is c.in_ok-read_ready.ensures.piece)

pub returns-in-EndOfText-clause-line : goal.returns-in-EndOfText-clause-line
returns-in-EndOfText-clause-line g c =
    reading_end c.args.self.now.most (g.R.Read.remaining c.args.reader.now)
    (g.R.Read.remaining c.loop.reader) (g.R.Read.remaining c.read_ready.new.reader) c.loop.self
    c.read_ready.new.self c.has_octets.result c.loop.invariant
    (subst (TakesPiece (g.R.Read.remaining c.loop.reader)
    (g.R.Read.remaining c.read_ready.new.reader) c.loop.self c.read_ready.new.self)
    c.in-EndOfText.is c.in_ok-read_ready.ensures.piece) c.has_octets.ensures

use Rattle.std.proofs.Common.{◌≡◌, ◌∙◌, rules, ap, true, false, Ok}
use Rattle.cmd_pipe.specs.Lines.{text_of}
use Rattle.cmd_pipe.proofs.InputLines.{before_more, before_end, read_of}
use Rattle.cmd_pipe.proofs.Served.{serving_none, serving_more, serving_all}
use Rattle.cmd_pipe.proofs.serving.serve.Goals as goal

pub loop-number-init : goal.loop-number-init
loop-number-init g c = (
  c.in_ok-line.ensures,
  λ s rep took.
      serving_none s c.args.unit.now (g.S.ResponseSink.Took c.args.sink.now)
      (g.R.Read.remaining c.args.reader.now) rep took,
)

pub returns-then-not-branch : goal.returns-then-not-branch
returns-then-not-branch g c = λ s rep took.
    let none : c.in_ok-map_err.field-0 ≡ false = search rules in
    let gave : c.read.result ≡ Ok c.in_ok-map_err.field-0 = search rules in
    let input = g.R.Read.remaining c.args.reader.now in
    let left = g.R.Read.remaining c.loop-number.reader in
    let rest = g.R.Read.remaining c.read.new.reader in
    let serving = c.loop-number.invariant.1 s rep took in
    serving_all s c.loop-number.number c.loop-number.unit
    c.loop-number.ended (g.S.ResponseSink.Took c.loop-number.sink) input left serving
    (before_end input left rest serving.served.lines c.read.new.self
    (read_of left rest c.read.new.self c.read.result false c.read.ensures.line (gave ∙ ap Ok none)))

pub loop-number-preserved : goal.loop-number-preserved
loop-number-preserved g c = (
  c.read.ensures.kept ∙ c.loop-number.invariant.0,
  λ s rep took.
      let some : c.in_ok-map_err.field-0 ≡ true = search rules in
      let gave : c.read.result ≡ Ok c.in_ok-map_err.field-0 = search rules in
      let input = g.R.Read.remaining c.args.reader.now in
      let left = g.R.Read.remaining c.loop-number.reader in
      let rest = g.R.Read.remaining c.read.new.reader in
      let before = c.loop-number.invariant.1 s rep took in
      serving_more s c.loop-number.number c.loop-number.unit c.serve_line.new.unit
      c.loop-number.ended c.in_ok-next.next (g.S.ResponseSink.Took c.loop-number.sink)
      (g.S.ResponseSink.Took c.serve_line.new.sink) (text_of c.read.new.self) input left rest before
      (before_more input left rest before.served.lines c.read.new.self
      (c.read.ensures.kept ∙ c.loop-number.invariant.0)
      (read_of left rest c.read.new.self c.read.result true
      c.read.ensures.line (gave ∙ ap Ok some)))
      (c.in_ok-next.ensures before.served.after before.served.told before.served.stands
      before.served.took before.served.ended_is),
)

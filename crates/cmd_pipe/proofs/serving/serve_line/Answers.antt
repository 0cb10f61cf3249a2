use Rattle.std.proofs.Common.{Option, None, Some, subst, ◌≡◌, ap, ◌∙◌}
use Rattle.cmd_text.specs.declared.lines.passed.Passed.{Passed}
use Rattle.its_lines.specs.Requests.{line_of}
use Rattle.its_lines.specs.declared.response.Response.{Response}
use Rattle.cmd_pipe.specs.Lines.{text_of}
use Rattle.cmd_pipe.specs.Serving.{CountedUnit, IsCounted, TellsOne, told_in}
use Rattle.cmd_pipe.proofs.Served.{line_quiet, line_told, one_told}
use Rattle.cmd_pipe.proofs.serving.serve_line.Goals as goal

pub returns-in-Some : goal.returns-in-Some
returns-in-Some g c = λ s log rep took was.
    let line : line_of c.start.result.now c.passed.result.any ≡ text_of c.args.line.now =
    ap (λ o. line_of o c.passed.result.any) c.start.ensures.octets
    ∙ ap (λ (p : Passed). line_of (text_of c.args.line.now).octets p.any) c.passed.ensures in
    let sink = g.S.ResponseSink.Took c.hand_on.new.sink in
    let told = subst (λ (o : Option Response). (next : CountedUnit)
    × TellsOne s c.args.number (text_of c.args.line.now) (told_in o) next
    × IsCounted c.answer_input_line.new.unit next) c.in-Some.is
    (one_told s c.args.number (line_of c.start.result.now c.passed.result.any)
    (text_of c.args.line.now) _ c.args.unit.now c.answer_input_line.new.unit line rep
    c.in_ok-response.ensures.tells c.in_ok-response.ensures.represents) in
    line_told c.hand_on.result s c.args.number (text_of c.args.line.now) log c.in-Some.response
    c.answer_input_line.new.unit c.args.ended sink told was (c.hand_on.ensures.took log took)
    c.hand_on.ensures.ended

pub returns-in-None : goal.returns-in-None
returns-in-None g c = λ s log rep took was.
    let line : line_of c.start.result.now c.passed.result.any ≡ text_of c.args.line.now =
    ap (λ o. line_of o c.passed.result.any) c.start.ensures.octets
    ∙ ap (λ (p : Passed). line_of (text_of c.args.line.now).octets p.any) c.passed.ensures in
    let told = subst (λ (o : Option Response). (next : CountedUnit)
    × TellsOne s c.args.number (text_of c.args.line.now) (told_in o) next
    × IsCounted c.answer_input_line.new.unit next) c.in-None.is
    (one_told s c.args.number (line_of c.start.result.now c.passed.result.any)
    (text_of c.args.line.now) _ c.args.unit.now c.answer_input_line.new.unit line rep
    c.in_ok-response.ensures.tells c.in_ok-response.ensures.represents) in
    line_quiet s c.args.number (text_of c.args.line.now) log c.answer_input_line.new.unit
    c.args.ended (g.S.ResponseSink.Took c.args.sink.now) told was took

use Rattle.std.proofs.Common.{sym, ap, subst, arith}
use Rattle.its_linkframe.specs.Captures.{Captured, IsCaptured}
use Rattle.its_linkframe.specs.Writing.{Writing, HoldsCapture}
use Rattle.its_linkframe.proofs.CapturesWritten.{HoldsCapture-push, HoldsPrefix-push}
use Rattle.its_linkframe.proofs.writer.CaptureWriter.put.Goals as goal

pub returns-in-Some-clause-capture : goal.returns-in-Some-clause-capture
returns-in-Some-clause-capture g c = λ before records holds.
    let r : Captured = record { moment = c.args.moment; frame = c.args.frame.now } in
    let fits : IsCaptured r =
    record { moment = c.ranges.moment.fits; frame = (grind arith, omega arith) } in
    HoldsCapture-push before records r _ _ fits c.in-Some.ensures.octets
    (subst (HoldsCapture before records)
    (sym (ap (λ (w : Writing). w.contents) c.self.view_is)) holds)

pub returns-in-None-clause-capture : goal.returns-in-None-clause-capture
returns-in-None-clause-capture g c = λ before records holds.
    let r : Captured = record { moment = c.args.moment; frame = c.args.frame.now } in
    let fits : IsCaptured r =
    record { moment = c.ranges.moment.fits; frame = (grind arith, omega arith) } in
    HoldsPrefix-push before records r _ _ fits c.in-None.ensures.octets
    (subst (HoldsCapture before records)
    (sym (ap (λ (w : Writing). w.contents) c.self.view_is)) holds)

use Rattle.std.proofs.Common.{arith, length, subst, take_all}
use Rattle.its_linkframe.specs.Frames.{EncodesFrame}
use Rattle.its_linkframe.proofs.Paddings.{whole_frame}
use Rattle.its_linkframe.proofs.frame.read_frame.Goals as goal

pub returns-in_err-frame-clause-only : goal.returns-in_err-frame-clause-only
returns-in_err-frame-clause-only c = λ t enc.
    let w = c.args.octets.now in
    let whole = whole_frame t w enc in
    absurd (c.in_err-frame.ensures.only (length w) t whole.0 (omega arith) whole.1)

pub returns-then-length-octets-clause-only : goal.returns-then-length-octets-clause-only
returns-then-length-octets-clause-only c = λ t enc.
    let w = c.args.octets.now in
    let whole = whole_frame t w enc in
    omega (arith, (c.in_ok-frame.ensures.only (length w) t whole.0 (omega arith) whole.1).0)

pub returns-clause-found : goal.returns-clause-found
returns-clause-found c =
    subst (EncodesFrame _) (take_all c.in_ok-frame.length c.args.octets.now (omega arith))
    c.in_ok-frame.ensures.found

pub returns-clause-only : goal.returns-clause-only
returns-clause-only c = λ t enc.
    let w = c.args.octets.now in
    let whole = whole_frame t w enc in
    (c.in_ok-frame.ensures.only (length w) t whole.0 (omega arith) whole.1).1

use Rattle.std.proofs.Common.{arith, length-take, subst, sym, take-take}
use Rattle.its_linkframe.specs.Frames.{EncodesFrame}
use Rattle.its_linkframe.proofs.Paddings.{front_of_front, short_front}
use Rattle.its_linkframe.proofs.padding.frame_length.Goals as goal

pub returns-in-Ok-clause-found : goal.returns-in-Ok-clause-found
returns-in-Ok-clause-found c = λ some.
    front_of_front c.args.octets.now c.min.result c.in-Ok.length _ c.in-Ok.ensures.within
    c.in-Ok.ensures.found

pub returns-in-Ok-clause-only : goal.returns-in-Ok-clause-only
returns-in-Ok-clause-only c = λ n is.
    let w = c.args.octets.now in
    let t = is.1.transmission in
    let short = short_front w n t is.0 is.1.encodes in
    let size = length-take c.min.result w in
    (c.in-Ok.ensures.only n t (omega (arith, size)) (omega (arith, size, short, is.0))
    (subst (EncodesFrame t) (sym (take-take n c.min.result w (omega (arith, short, is.0))))
    is.1.encodes)).0

pub returns-in-Err-clause-only : goal.returns-in-Err-clause-only
returns-in-Err-clause-only c = λ n is.
    let w = c.args.octets.now in
    let t = is.1.transmission in
    let short = short_front w n t is.0 is.1.encodes in
    let size = length-take c.min.result w in
    absurd (c.in-Err.ensures.only n t (omega (arith, size)) (omega (arith, size, short, is.0))
    (subst (EncodesFrame t) (sym (take-take n c.min.result w (omega (arith, short, is.0))))
    is.1.encodes))

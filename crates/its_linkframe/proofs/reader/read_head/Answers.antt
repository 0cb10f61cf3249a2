use Rattle.std.proofs.Common.{inl, inr, arith}
use Rattle.its_linkframe.specs.Captures.{IsFrameLength}
use Rattle.its_linkframe.proofs.Heads.{AnnouncesNoFrame-head_octets, ConsumesHead-head_octets}
use Rattle.its_linkframe.proofs.Heads.{Consumes-head_octets}
use Rattle.its_linkframe.proofs.reader.read_head.Goals as goal

pub returns-then-size-eq0-clause-fault : goal.returns-then-size-eq0-clause-fault
returns-then-size-eq0-clause-fault g c =
    let head = c.head_of-moment.result in
    let gone = Consumes-head_octets _ _ c.in-Some.n head.0 head.1 _ c.head_of-moment.ensures
    c.if-n-lt10.false c.in-Some.ensures.bytes in
    let wrong : ¬ IsFrameLength head.1 =
    λ is. elim c.then-size-eq0.either [
      | inl none ↦ absurd (omega arith)
      | inr long ↦ absurd
          (omega arith)
    ] in (
      AnnouncesNoFrame-head_octets _ _ head.0 head.1 (omega arith) wrong gone,
      ConsumesHead-head_octets _ _ head.0 head.1 gone,
    )

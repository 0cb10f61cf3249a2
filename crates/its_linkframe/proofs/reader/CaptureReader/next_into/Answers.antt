use Rattle.std.proofs.Common.{ap, subst, ◌∙◌}
use Rattle.std.specs.Io.KnownBytes.{IsAtEnd}
use Rattle.its_linkframe.specs.Reading.{Reading, is_failed, is_ended}
use Rattle.its_linkframe.proofs.CapturesRead.{ReadsFirst-into, ReadsFirst-into_end}
use Rattle.its_linkframe.proofs.Stages.{ready_after, IsAtEnd-after}
use Rattle.its_linkframe.proofs.reader.CaptureReader.next_into.Goals as goal

pub returns-in-Ended-clause-capture : goal.returns-in-Ended-clause-capture
returns-in-Ended-clause-capture g c = λ records w good is enc.
    ReadsFirst-into_end _ _
    (subst IsAtEnd (ap (λ (r : Reading). r.rest) c.self.view_is)
    (c.self.invariant.1 (ap is_ended c.in-Ended.is))) records w is enc

pub invariant_of-self : goal.invariant_of-self
invariant_of-self g c =
    let read = c.read_record-result.ensures in
    let stage = c.stage_after-self-inside.ensures in (
      ready_after _ c.read_record-result.result _ _ stage.failed read.counts
          (c.self.invariant.0 (ap is_failed c.in-Reading.is)),
      λ end. IsAtEnd-after _ _ c.read_record-result.result read.end (stage.ended.0 end),
    )

pub returns-clause-capture : goal.returns-clause-capture
returns-clause-capture g c = λ records w good is enc.
    let read = c.read_record-result.ensures in
    ReadsFirst-into _ _ _ c.read_record-result.result read.record read.end read.fault read.first
    records w (ap (λ (r : Reading). r.rest) c.self.view_is ∙ is) enc

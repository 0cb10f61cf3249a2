use Rattle.its_linkframe.proofs.CapturesRead.{ReadsFirst-record, ReadsFirst-none, ReadsFirst-fault}
use Rattle.its_linkframe.proofs.reader.CaptureReader.next.Goals as goal

pub returns-in-Ok-Some-clause-capture : goal.returns-in-Ok-Some-clause-capture
returns-in-Ok-Some-clause-capture g c =
    λ records w good is enc.
    ReadsFirst-record records _ _
    (rw c.in-Ok-Some.field-0-is at c.in-Ok-Some.ensures.capture records w good is enc)

pub returns-in-Ok-None-clause-capture : goal.returns-in-Ok-None-clause-capture
returns-in-Ok-None-clause-capture g c =
    λ records w good is enc.
    ReadsFirst-none records _ _
    (rw c.in-Ok-None.field-0-is at c.in-Ok-None.ensures.capture records w good is enc)

pub returns-in-Err-clause-capture : goal.returns-in-Err-clause-capture
returns-in-Err-clause-capture g c =
    λ records w good is enc.
    ReadsFirst-fault records _ _ _ (c.in-Err.ensures.capture records w good is enc)

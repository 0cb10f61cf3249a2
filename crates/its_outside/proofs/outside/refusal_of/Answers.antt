use Rattle.its_outside.proofs.Answering.{begins_in_profile}
use Rattle.its_outside.proofs.outside.refusal_of.Goals as goal

pub returns-in-Ok-clause-none : goal.returns-in-Ok-clause-none
returns-in-Ok-clause-none c = begins_in_profile _ _ _ _ c.in-Ok.ensures.found.1

pub returns-in-Err-clause-only : goal.returns-in-Err-clause-only
returns-in-Err-clause-only c =
    λ p left w rest enc is. absurd (c.in-Err.ensures.only p left w rest enc is)

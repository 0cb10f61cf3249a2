use Rattle.its_model.proofs.ContendedRuns.{contended_runs_hold, contention_is_a_schedule}
use Rattle.its_contention.proofs.laws.contention_is_a_schedule.Goals as goal

pub returns-clause-world : goal.returns-clause-world
returns-clause-world c = λ test cw happenings. contention_is_a_schedule happenings test cw

pub returns-clause-laws : goal.returns-clause-laws
returns-clause-laws c = contended_runs_hold

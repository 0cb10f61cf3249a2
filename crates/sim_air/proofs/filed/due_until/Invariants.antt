use Rattle.sim_air.proofs.FileEvents.{Kept}
use Rattle.sim_air.proofs.filed.due_until.Given as goal

-- of those so far those up to the end are due
abbrev pub invariant-loop-filed : goal.invariant-loop-filed
invariant-loop-filed l = Kept l.end l.due.items l.file l.filed-index

-- The results of verdicts: which are printed, and with which status the command ends.
use Rattle.std.specs.Prelude.{Bool, true, false, if◌then◌else◌}
use Rattle.cmd_reporting.specs.declared.status.Status.{Status}
use Rattle.cmd_reporting.specs.declared.status.Status.TheVariants as statuses
use Rattle.its_duties.specs.declared.verdict.Verdict.{Verdict}
use Rattle.its_duties.specs.declared.verdict.Verdict.TheVariants as verdicts
use Rattle.cmd_verdict.specs.declared.case.Outcome.{Outcome}
use Rattle.cmd_verdict.specs.declared.case.Outcome.TheVariants as outcomes
use Rattle.cmd_verdict.specs.declared.reporter.Printing.{Printing}
use Rattle.cmd_verdict.specs.declared.reporter.Printing.TheVariants as printings

-- the word of a verdict
abbrev pub outcome_of : Verdict → Outcome
outcome_of verdicts.Pass = outcomes.Pass
outcome_of (verdicts.Fail breach) = outcomes.Fail
outcome_of (verdicts.Inconclusive doubt) = outcomes.Inconclusive

-- Fails are always printed. Inconclusive verdicts are if that is asked for, or all.
abbrev pub is_printed : Printing → Outcome → Bool
is_printed printing outcomes.Fail = true
is_printed printings.Fails outcomes.Inconclusive = false
is_printed printings.Inconclusive outcomes.Inconclusive = true
is_printed printings.All outcomes.Inconclusive = true
is_printed printings.Fails outcomes.Pass = false
is_printed printings.Inconclusive outcomes.Pass = false
is_printed printings.All outcomes.Pass = true

-- a fail is refused; with `--strict` whatever isn't a pass is
abbrev pub status_of_result : Outcome → Bool → Status
status_of_result outcomes.Fail strict = statuses.Refused
status_of_result outcomes.Pass strict = statuses.Done
status_of_result outcomes.Inconclusive strict =
    if strict then statuses.Refused else statuses.Done

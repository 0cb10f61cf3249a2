-- How `show` ends that shows no records.
use Rattle.cmd_reporting.specs.declared.status.ExitStatus.{ExitStatus}
use Rattle.cmd_reporting.specs.declared.status.ExitStatus.TheVariants.{Ended, BadArguments}
use Rattle.cmd_reporting.specs.declared.status.Status.TheVariants.{Failed}
use Rattle.cmd_captures.specs.declared.showing.ShowFault.{ShowFault}
use Rattle.cmd_captures.specs.declared.showing.ShowFault.TheVariants.{NoEpoch, Stopped}

-- moments in UTC, which a file without an epoch doesn't have, are refused arguments; all else
-- failed
abbrev pub show_fault_status : ShowFault → ExitStatus
show_fault_status (NoEpoch _) = BadArguments
show_fault_status (Stopped _) = Ended Failed

-- How the program and its commands end.
use Rattle.std.specs.Prelude.{ℕ}
use Rattle.cmd_reporting.specs.declared.fault.WriterFault.{WriterFault}
use Rattle.cmd_reporting.specs.declared.fault.WriterFault.TheVariants.{Stopped, Output}
use Rattle.cmd_reporting.specs.declared.status.ExitStatus.{ExitStatus}
use Rattle.cmd_reporting.specs.declared.status.ExitStatus.TheVariants.{Ended, BadArguments}
use Rattle.cmd_reporting.specs.declared.status.Status.{Status}
use Rattle.cmd_reporting.specs.declared.status.Status.TheVariants.{Done, Refused, Failed}

-- done; a refused record, line, capture or scenario; refused arguments; a file or socket that
-- failed, or no memory
abbrev pub exit_code : ExitStatus → ℕ
exit_code (Ended Done) = 0
exit_code (Ended Refused) = 1
exit_code BadArguments = 2
exit_code (Ended Failed) = 3

-- the status of a command that writes a file and was ended so: that of the fault that would end it
-- without one, and of refused arguments where the file is not written
abbrev pub writer_fault_status : {F : Type 0} → (F → Status) → WriterFault F → ExitStatus
writer_fault_status status_of (Stopped fault) = Ended (status_of fault)
writer_fault_status status_of (Output fault) = BadArguments

-- the fault would end the command if it wrote no file
abbrev pub IsStopped : {F : Type 0} → WriterFault F → Type 0
IsStopped (Stopped fault) = Unit {0}
IsStopped (Output fault) = ⊥

-- the file is not written, since the arguments are refused
abbrev pub IsOutputFault : {F : Type 0} → WriterFault F → Type 0
IsOutputFault (Stopped fault) = ⊥
IsOutputFault (Output fault) = Unit {0}

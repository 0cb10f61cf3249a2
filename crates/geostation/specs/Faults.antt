-- How the program ends whose arguments are refused.
use Rattle.cmd_reporting.specs.declared.status.ExitStatus.{ExitStatus}
use Rattle.cmd_reporting.specs.declared.status.ExitStatus.TheVariants.{Ended, BadArguments}
use Rattle.cmd_reporting.specs.declared.status.Status.TheVariants.{Failed}
use Rattle.geostation.specs.declared.fault.ArgumentFault.{ArgumentFault}
use Rattle.geostation.specs.declared.fault.ArgumentFault.TheVariants.{NotUtf8, Key, Setting}
use Rattle.geostation.specs.declared.fault.ArgumentFault.TheVariants.{Stopped}

-- refused arguments, or no memory to read them
abbrev pub argument_fault_status : ArgumentFault → ExitStatus
argument_fault_status NotUtf8 = BadArguments
argument_fault_status (Key _ _) = BadArguments
argument_fault_status (Setting _ _) = BadArguments
argument_fault_status (Stopped _) = Ended Failed

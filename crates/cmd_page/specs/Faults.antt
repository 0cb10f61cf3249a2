-- How `view` ends that writes no page.
use Rattle.cmd_reporting.specs.declared.status.Status.{Status}
use Rattle.cmd_reporting.specs.declared.status.Status.TheVariants.{Failed, Refused}
use Rattle.sim_runs.specs.Runs.{run_fault_status}
use Rattle.cmd_page.specs.declared.fault.PageFault.{PageFault}
use Rattle.cmd_page.specs.declared.fault.PageFault.TheVariants.{NoPage, PartNotRead, Run}
use Rattle.cmd_page.specs.declared.fault.PageFault.TheVariants.{TooLarge}

-- no page, or one that can't be read, failed; a file that is too large is refused; otherwise what
-- kept the scenario from being run
abbrev pub page_fault_status : PageFault → Status
page_fault_status NoPage = Failed
page_fault_status (PartNotRead _ _) = Failed
page_fault_status (TooLarge _) = Refused
page_fault_status (Run fault) = run_fault_status fault

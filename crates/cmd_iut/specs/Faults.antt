-- The status with which the faults of a station file end the command.
use Rattle.cmd_reporting.specs.declared.status.Status.{Status}
use Rattle.cmd_reporting.specs.declared.status.Status.TheVariants as statuses
use Rattle.cmd_iut.specs.declared.fault.StationFault.{StationFault}
use Rattle.cmd_iut.specs.declared.fault.StationFault.TheVariants as faults

-- refused, unless a file can't be read or memory ran out
abbrev pub station_fault_status : StationFault → Status
station_fault_status (faults.NotToml line) = statuses.Refused
station_fault_status (faults.Value table key wanted) = statuses.Refused
station_fault_status (faults.UnknownKey table name) = statuses.Refused
station_fault_status (faults.NotTable name) = statuses.Refused
station_fault_status (faults.Stopped fault) = statuses.Failed

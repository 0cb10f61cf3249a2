-- How a mesh ends.
use Rattle.std.specs.Prelude.{Bool, if◌then◌else◌}
use Rattle.cmd_reporting.specs.declared.status.Status.{Status}
use Rattle.cmd_reporting.specs.declared.status.Status.TheVariants.{Done, Refused, Failed}
use Rattle.sim_runs.specs.Runs.{run_fault_status}
use Rattle.cmd_mesh.specs.declared.fault.MeshFault.{MeshFault}
use Rattle.cmd_mesh.specs.declared.fault.MeshFault.TheVariants.{Socket, Run}

-- failed where a socket failed; else refused where a refusal counts; else done
abbrev pub mesh_status : Bool → Bool → Status
mesh_status failed refused = if failed then Failed else (if refused then Refused else Done)

-- the status of what kept a mesh from its last event: a socket that could not be made failed
abbrev pub mesh_fault_status : MeshFault → Status
mesh_fault_status (Socket _) = Failed
mesh_fault_status (Run fault) = run_fault_status fault

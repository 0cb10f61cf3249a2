-- How a command ends that ran a scenario.
use Rattle.std.specs.Prelude.{◌≡◌, ◌&&◌, List, Bool, not, if◌then◌else◌, IfOk, Ok, Result}
use Rattle.std.specs.List.{list_all}
use Rattle.its_world.specs.Entries.{Entry, was_done}
use Rattle.its_world.specs.State.{WorldState}
use Rattle.sim_scenario.specs.declared.scenario.Scenario.{Scenario}
use Rattle.sim_air.specs.declared.fault.AirFault.{AirFault}
use Rattle.sim_air.specs.Scenarios.{IsRunOf}
use Rattle.cmd_reporting.specs.declared.status.Status.{Status}
use Rattle.cmd_reporting.specs.declared.status.Status.TheVariants.{Done, Refused, Failed}
use Rattle.sim_runs.specs.declared.fault.RunFault.{RunFault}
use Rattle.sim_runs.specs.declared.fault.RunFault.TheVariants.{Scenario as NoScenario, Row}
use Rattle.sim_runs.specs.declared.fault.RunFault.TheVariants.{NoMoves, Stopped}

-- how a run with these entries ends: refused where it is strict and one of them is a refusal, and
-- else done
abbrev pub run_status : Bool → List Entry → Status
run_status strict log = if strict && not (list_all was_done log) then Refused else Done

-- the scenario was run, and its run ends so
abbrev pub IsRunStatus : Bool → Scenario → Status → Type 0
IsRunStatus strict scenario status =
    (world : WorldState) × IsRunOf scenario world (λ events log. status ≡ run_status strict log)

-- How a scenario is run and how the run ends: strict as its own entries say.
abbrev pub EndsRun : Bool → Scenario → Result Status AirFault → Type 0
EndsRun strict scenario ended = IfOk ended (IsRunStatus strict scenario)

-- The scenario was run, and its run is done: of one that is strict no entry is a refusal.
abbrev pub IsDoneRun : Bool → Scenario → Type 0
IsDoneRun strict scenario = EndsRun strict scenario (Ok Done)

-- the status of what kept a scenario from being run: a bad scenario is refused, and a bad line of
-- moves, all else failed
abbrev pub run_fault_status : RunFault → Status
run_fault_status (NoScenario _ _) = Refused
run_fault_status (Row _) = Refused
run_fault_status NoMoves = Failed
run_fault_status (Stopped _) = Failed

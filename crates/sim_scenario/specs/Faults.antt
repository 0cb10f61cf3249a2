-- The faults of a world as those of a document.
use Rattle.sim_scenario.specs.declared.fault.DocumentFault.{DocumentFault}
use Rattle.sim_scenario.specs.declared.fault.DocumentFault.TheVariants.{SharedMid, OutOfMemory}
use Rattle.its_world.specs.declared.config.WorldFault.{WorldFault}
use Rattle.its_world.specs.declared.config.WorldFault.TheVariants as worlds

-- the same fault: two stations that share a MID, or no memory
abbrev pub fault_of : WorldFault → DocumentFault
fault_of (worlds.SameMid first second) = SharedMid first second
fault_of worlds.NoMemory = OutOfMemory

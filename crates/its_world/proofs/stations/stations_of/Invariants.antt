use Rattle.std.proofs.Common.{map, take}
use Rattle.its_model.specs.World.{opening}
use Rattle.its_world.specs.State.{RepresentStations}
use Rattle.its_world.specs.Events.{config_of}
use Rattle.its_world.proofs.stations.stations_of.Given as goal

-- the stations of the configs so far
abbrev pub invariant-loop-config : goal.invariant-loop-config
invariant-loop-config l =
    RepresentStations l.stations.items
    (opening (map config_of (take l.config-index l.configs))).stations

use Rattle.std.proofs.Common.{take}
use Rattle.its_model.specs.Station.{StationModel}
use Rattle.its_station.specs.State.{RepresentsStation}
use Rattle.cmd_stats.specs.Units.{with_open}
use Rattle.cmd_stats.proofs.replay.unit.open_ports.Given as goal

-- the ports so far were opened
abbrev pub invariant-loop-port : goal.invariant-loop-port
invariant-loop-port l =
    (s : StationModel) → RepresentsStation l.fn.station s
    → RepresentsStation l.station (with_open s (take l.port-index l.ports))

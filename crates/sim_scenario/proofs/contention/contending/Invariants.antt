use Rattle.std.proofs.Common.{◌≡◌, map, take}
use Rattle.sim_scenario.specs.Scenarios.{contends}
use Rattle.sim_scenario.proofs.contention.contending.Given as goal

-- those of the stations so far
abbrev pub invariant-loop-station : goal.invariant-loop-station
invariant-loop-station l =
    l.contend.items ≡ map (contends l.usual) (take l.station-index l.own)

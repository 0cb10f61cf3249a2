-- The station to which a capture is replayed.
use Rattle.std.specs.Prelude.{◌≡◌, ℕ, ◌≤◌, List, None, map, take}
use Rattle.its_governor.specs.declared.rate.Limits.{Limits}
use Rattle.its_governor.specs.Governing.{IsNewGovernor}
use Rattle.its_model.specs.Calls.{Own}
use Rattle.its_model.specs.Calls.OwnCall.{Open}
use Rattle.its_model.specs.Isolation.{TimedCall, station_run}
use Rattle.its_model.specs.Station.{StationModel, new_station}
use Rattle.its_unit.specs.Unit.{RepresentsUnit, UnitModel, UnitState}
use Rattle.cmd_stats.specs.declared.replay.unit.PortList.{PortList}
use Rattle.cmd_stats.specs.declared.replay.unit.ReplayUnit.{ReplayUnit}

-- the ports of a list
abbrev pub listed : PortList → List ℕ
listed list = take list.count list.ports

-- what the unit knows and remembers is in its range
abbrev pub IsUnit : ReplayUnit → Type 0
IsUnit unit = (1 ≤ unit.capacity) × (unit.capacity ≤ 4096) × (1 ≤ unit.remember)
    × (unit.remember ≤ 64)

-- a port is opened at moment 0
abbrev pub opening : ℕ → TimedCall
opening port = record { moment = 0; call = Own (Open port) }

-- the station once these ports were opened, as far as they could be
abbrev pub with_open : StationModel → List ℕ → StationModel
with_open s ports = station_run s (map opening ports)

-- the station that the unit is at moment 0
abbrev pub begun : ReplayUnit → StationModel
begun unit = with_open (new_station unit.address unit.place unit.capacity unit.remember)
    (listed unit.ports)

-- A unit that begins with this station and these limits, and that doesn't contend.
pub record IsNewUnit (limits : Limits) (s : StationModel) (u : UnitModel) : Type 0 where
  pub station : u.station ≡ s
  pub contention : u.contention ≡ None
  pub governor : IsNewGovernor limits u.governor

-- so it is represented
abbrev pub BeginsUnit : Limits → StationModel → UnitState → Type 0
BeginsUnit limits s state = (u : UnitModel) × IsNewUnit limits s u × RepresentsUnit state u

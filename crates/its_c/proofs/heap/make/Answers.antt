use Rattle.std.proofs.Common.{◌≡◌, ◌∙◌, Some, None, rules}
use Rattle.std.specs.Option.{option_map}
use Rattle.its_contention.specs.Buffer.{empty}
use Rattle.its_governor.specs.Governing.{IsNewGovernor}
use Rattle.its_station.specs.Counting.{nothing}
use Rattle.its_station.specs.State.{RepresentsStation}
use Rattle.its_c.specs.Configs.{limits_of, rule_of, station_at}
use Rattle.its_c.proofs.Lives.{new_handle}
use Rattle.its_c.proofs.Opens.{new_open}
use Rattle.its_c.proofs.heap.make.Goals as goal

-- what is put on the heap is the new unit
unit_of : (c : goal.After-new-2) → c.new-2.result.unit ≡ Some c.in_ok-unit.unit
unit_of c = search rules

station_of : (c : goal.After-new-2) → RepresentsStation c.in_ok-unit.unit.station
    (station_at c.args.address c.args.place c.args.config.now)
station_of c = search rules

contends_in : (c : goal.After-new-2)
    → c.in_ok-unit.unit.contention ≡ option_map empty (rule_of c.args.config.now)
contends_in c = search rules

limits_in : (c : goal.After-new-2)
    → IsNewGovernor (limits_of c.args.config.now) c.in_ok-unit.unit.governor
limits_in c = search rules

counts_of : (c : goal.After-new-2) → c.in_ok-unit.unit.counts ≡ nothing
counts_of c = search rules

pub new-handle-requires : goal.new-handle-requires
new-handle-requires c =
    record {
      represents = new_open c.new-2.result.unit c.in_ok-unit.unit
          (station_at c.args.address c.args.place c.args.config.now) (unit_of c) (station_of c);
    }

pub returns-in-Ok : goal.returns-in-Ok
returns-in-Ok c =
    let b = c.before.before.before in
    let limits = limits_of b.args.config.now in
    let held : c.in-Ok.handle.value.held.unit ≡ b.new-2.result.unit = search rules in
    record {
      unit = new_handle c.in-Ok.handle.value b.in_ok-unit.unit
          (station_at b.args.address b.args.place b.args.config.now) (rule_of b.args.config.now)
          limits (held ∙ unit_of b)
          (station_of b) (contends_in b) (limits_in b) (counts_of b) (b.units_are_lawful.ensures limits);
    }

use Rattle.std.proofs.Common.{ap}
use Rattle.sim_scenario.specs.Scenarios.{air_in, parts_in, set_air_values}
use Rattle.sim_scenario.proofs.Timelines.{say_air}
use Rattle.sim_scenario.proofs.tables.Tables.read_timeline.Goals as goal

-- in an air, without the moves of a file
pub returns : goal.returns
returns c =
    record {
      says =
          say_air (parts_in c.args.self) (set_air_values c.in-Some.fields) _ (ap air_in c.in-Some.is)
          c.if-self.false
          (record {
            air = c.in_ok-air.ensures.says;
            every = c.in_ok-every.ensures.says;
            moves = (c.in_ok-moves.moves, c.in_ok-moves.ensures.says);
            events = c.in_ok-events-2.ensures.says;
          });
    }

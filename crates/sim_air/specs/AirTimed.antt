-- What the run of an air did, by its timetable.
use Rattle.std.specs.Prelude.{ℕ, List, Bool}
use Rattle.its_model.specs.World.{Config, Event}
use Rattle.its_world.specs.Entries.{Entry}
use Rattle.its_world.specs.State.{WorldState}
use Rattle.sim_settings.specs.declared.air.Air.{Air}
use Rattle.sim_simulation.specs.Simulated.{IsSimulated}
use Rattle.sim_air_model.specs.Timetable.{Rules, Traffic, Filed, air_opening, air_run, IsOver}

-- what the air of a scenario goes by, with this traffic, up to a last moment, of stations of which
-- these are present at the start
abbrev pub rules_of : Air → List Traffic → ℕ → List Bool → Rules
rules_of air every until present =
    record {
      range = air.range;
      delay = air.delay;
      loss = air.loss;
      beacons = air.beacons;
      seed = air.seed;
      until = until;
      every = every;
      present = present;
    }

-- After so many steps nothing more waits up to the last moment; and what was done until then are
-- the events of the world.
pub record IsTimedRun (rules : Rules) (configs : List Config) (file : List Filed)
    (world : WorldState) (Took : List Event → List Entry → Type 0) : Type 0 where
  pub steps : ℕ
  pub over : IsOver rules (air_run rules configs steps (air_opening rules configs file))
  pub run : IsSimulated configs
      (air_run rules configs steps (air_opening rules configs file)).done world Took

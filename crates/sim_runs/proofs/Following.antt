-- Runs of which less is said.
use Rattle.std.proofs.Common.{ℕ, List}
use Rattle.std.specs.Prelude.{Option}
use Rattle.its_model.specs.World.{Config, Event}
use Rattle.its_world.specs.Entries.{Entry}
use Rattle.its_world.specs.State.{WorldState}
use Rattle.sim_scenario.specs.declared.events.event.AddressedEvent.{AddressedEvent}
use Rattle.sim_settings.specs.declared.moves.Moves.{Moves as MovesSettings}
use Rattle.sim_scenario.specs.declared.scenario.Scenario.{Scenario}
use Rattle.sim_scenario.specs.declared.timeline.Timeline.{Timeline}
use Rattle.sim_scenario.specs.declared.timeline.Timeline.TheVariants.{Plain, Air, Moves}
use Rattle.sim_air.specs.AirRun.{IsAirRun}
use Rattle.sim_air.specs.AirTimed.{IsTimedRun}
use Rattle.sim_air.specs.Contenders.{IsMadeRun}
use Rattle.sim_air.specs.Moving.{IsMovedRun}
use Rattle.sim_air.specs.Scenarios.{IsRunIn}
use Rattle.sim_air_model.specs.Timetable.{Filed, Rules}
use Rattle.sim_simulation.specs.Simulated.{IsSimulated}

-- what follows of all that was taken may be said in its place
simulated_follows : (configs : List Config) (events : List Event) (world : WorldState)
    (Before After : List Event → List Entry → Type 0)
    → ((events : List Event) (log : List Entry) → Before events log → After events log)
    → IsSimulated configs events world Before → IsSimulated configs events world After
simulated_follows configs events world Before After follows run =
    record {
      stands = run.stands;
      laws = run.laws;
      log = run.log;
      told = run.told;
      took = follows events run.log run.took;
    }

-- so of a run in an air
air_follows : (configs : List Config) (file : List Filed) (until : ℕ) (world : WorldState)
    (Before After : List Event → List Entry → Type 0)
    → ((events : List Event) (log : List Entry) → Before events log → After events log)
    → IsAirRun configs file until world Before → IsAirRun configs file until world After
air_follows configs file until world Before After follows run =
    record {
      events = run.events;
      run = simulated_follows configs run.events world Before After follows run.run;
      due = run.due;
      is_due = run.is_due;
      among = run.among;
    }

-- of one with stations that rows made
made_follows : (configs : List Config) (world : WorldState)
    (Before After : List Event → List Entry → Type 0)
    → ((events : List Event) (log : List Entry) → Before events log → After events log)
    → IsMadeRun configs world Before → IsMadeRun configs world After
made_follows configs world Before After follows run =
    record {
      made = run.made;
      events = run.events;
      run = simulated_follows _ run.events world Before After follows run.run;
    }

-- of one by a timetable
timed_follows : (rules : Rules) (configs : List Config) (file : List Filed) (world : WorldState)
    (Before After : List Event → List Entry → Type 0)
    → ((events : List Event) (log : List Entry) → Before events log → After events log)
    → IsTimedRun rules configs file world Before → IsTimedRun rules configs file world After
timed_follows rules configs file world Before After follows run =
    record {
      steps = run.steps;
      over = run.over;
      run = simulated_follows _ _ world Before After follows run.run;
    }

-- so of one with moves
pub moved_follows : (rules : Rules) (configs : List Config) (moves : MovesSettings)
    (asked : List AddressedEvent) (given : Option ℕ) (world : WorldState)
    (Before After : List Event → List Entry → Type 0)
    → ((events : List Event) (log : List Entry) → Before events log → After events log)
    → IsMovedRun rules configs moves asked given world Before
    → IsMovedRun rules configs moves asked given world After
moved_follows rules configs moves asked given world Before After follows run =
    record {
      made = run.made;
      file = run.file;
      until = run.until;
      rises = run.rises;
      last = run.last;
      run = timed_follows _ _ _ world Before After follows run.run;
      outside = run.outside;
    }

-- and of the run of a scenario
pub run_follows : (t : Timeline) (s : Scenario) (world : WorldState)
    (Before After : List Event → List Entry → Type 0)
    → ((events : List Event) (log : List Entry) → Before events log → After events log)
    → IsRunIn t s world Before → IsRunIn t s world After
run_follows (Plain t) s world Before After follows run =
    simulated_follows _ _ world Before After follows run
run_follows (Air t) s world Before After follows run = (
  air_follows _ _ _ world Before After follows run.0,
  λ none. timed_follows _ _ _ world Before After follows (run.1 none),
)
run_follows (Moves t) s world Before After follows run = (
  made_follows _ world Before After follows run.0,
  λ none. moved_follows _ _ _ _ _ world Before After follows (run.1 none),
)

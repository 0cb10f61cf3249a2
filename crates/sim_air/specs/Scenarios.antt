-- What the run of a scenario did.
use Rattle.std.specs.Prelude.{List, [], ◌∷◌, map}
use Rattle.its_model.specs.World.{Event}
use Rattle.its_world.specs.Entries.{Entry}
use Rattle.its_world.specs.State.{WorldState}
use Rattle.its_world.specs.Events.{config_of, event_of}
use Rattle.sim_scenario.specs.declared.scenario.Scenario.{Scenario}
use Rattle.sim_scenario.specs.declared.timeline.Timeline.{Timeline}
use Rattle.sim_scenario.specs.declared.timeline.Timeline.TheVariants.{Plain, Air, Moves}
use Rattle.sim_scenario.specs.Airs.{end_of}
use Rattle.sim_simulation.specs.Simulated.{IsSimulated}
use Rattle.sim_air.specs.AirRun.{IsAirRun}
use Rattle.sim_air.specs.AirTimed.{IsTimedRun, rules_of}
use Rattle.sim_air.specs.Contenders.{IsMadeRun, NoneContends}
use Rattle.sim_air.specs.Moving.{IsMovedRun}
use Rattle.sim_air.specs.FileEvents.{filed_of}
use Rattle.sim_queue.specs.Traffics.{all_traffic}

-- In no air, just the scenario's events were done. In an air, those of its file and others were; if
-- no station contends, just those that the timetable of its file gives. With the rows of a file,
-- stations were made and events done; if no station contends, those of the air of all that came from
-- outside.
abbrev pub IsRunIn : Timeline → Scenario → WorldState → (List Event → List Entry → Type 0)
    → Type 0
IsRunIn (Plain t) s world Took =
    IsSimulated (map config_of s.stations.items) (map event_of t.events.items) world Took
IsRunIn (Air t) s world Took =
    IsAirRun (map config_of s.stations.items) (map filed_of t.events.items)
    (end_of t.air.until t.events.items) world Took
    × (NoneContends s.contend.items → IsTimedRun (rules_of t.air (all_traffic t.every.items)
    (end_of t.air.until t.events.items) s.present.items) (map config_of s.stations.items)
    (map filed_of t.events.items) world Took)
IsRunIn (Moves t) s world Took =
    IsMadeRun (map config_of s.stations.items) world Took
    × (NoneContends (t.moves.contends ∷ s.contend.items) → IsMovedRun (rules_of t.air
    (all_traffic t.every.items) (end_of t.air.until []) s.present.items)
    (map config_of s.stations.items) t.moves t.events.items t.air.until world Took)

-- the world stands at the end of the scenario's run, and this was taken of it
abbrev pub IsRunOf : Scenario → WorldState → (List Event → List Entry → Type 0) → Type 0
IsRunOf s world Took = IsRunIn s.timeline s world Took

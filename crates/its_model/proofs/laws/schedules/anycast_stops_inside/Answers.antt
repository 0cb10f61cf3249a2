use Rattle.its_model.specs.World.{opening, world_run}
use Rattle.its_model.proofs.SoundRuns.{run_sound}
use Rattle.its_model.proofs.Theorems.{anycast_stops_inside}
use Rattle.its_model.proofs.laws.schedules.anycast_stops_inside.Goals as goal

pub returns : goal.returns
returns c =
    λ configs events.
    anycast_stops_inside configs (world_run (opening configs) events) (run_sound configs events)

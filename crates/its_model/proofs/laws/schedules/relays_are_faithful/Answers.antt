use Rattle.its_model.specs.World.{opening, world_run}
use Rattle.its_model.proofs.SoundRuns.{run_sound}
use Rattle.its_model.proofs.Theorems.{relays_are_faithful}
use Rattle.its_model.proofs.laws.schedules.relays_are_faithful.Goals as goal

pub returns : goal.returns
returns c =
    λ configs events.
    relays_are_faithful configs (world_run (opening configs) events) (run_sound configs events)

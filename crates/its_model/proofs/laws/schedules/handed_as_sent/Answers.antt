use Rattle.its_model.specs.World.{opening, world_run}
use Rattle.its_model.proofs.SoundRuns.{run_sound}
use Rattle.its_model.proofs.Theorems.{handed_as_sent}
use Rattle.its_model.proofs.laws.schedules.handed_as_sent.Goals as goal

pub returns : goal.returns
returns c =
    λ configs events.
    handed_as_sent configs (world_run (opening configs) events) (run_sound configs events)

use Rattle.its_model.specs.World.{opening, world_run}
use Rattle.its_model.proofs.SoundRuns.{run_sound}
use Rattle.its_model.proofs.Theorems.{frames_name_their_source}
use Rattle.its_model.proofs.laws.schedules.frames_name_their_source.Goals as goal

pub returns : goal.returns
returns c =
    λ configs events.
    frames_name_their_source configs (world_run (opening configs) events) (run_sound configs events)

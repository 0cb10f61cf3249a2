use Rattle.its_model.specs.World.{opening, world_run}
use Rattle.its_model.proofs.SoundRuns.{run_sound}
use Rattle.its_model.proofs.Acceptances.{accepted_again_by_default}
use Rattle.its_model.proofs.laws.schedules.at_most_once_by_default.Goals as goal

pub returns : goal.returns
returns c =
    λ configs events.
    accepted_again_by_default configs (world_run (opening configs) events)
    (run_sound configs events)

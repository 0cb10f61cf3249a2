use Rattle.its_model.specs.World.{opening, world_run}
use Rattle.its_model.proofs.SoundRuns.{run_sound}
use Rattle.its_model.proofs.Acceptances.{accepted_again_was_forgotten, duplicate_was_accepted}
use Rattle.its_model.proofs.laws.schedules.at_most_once.Goals as goal

pub returns : goal.returns
returns c = λ configs events. (
    let w = world_run (opening configs) events in
    let sound = run_sound configs events in
    record {
      again = accepted_again_was_forgotten configs w sound;
      duplicate = duplicate_was_accepted configs w sound;
    })

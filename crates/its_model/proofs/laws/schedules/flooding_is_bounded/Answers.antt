use Rattle.its_model.specs.World.{opening, world_run}
use Rattle.its_model.proofs.SoundRuns.{run_sound}
use Rattle.its_model.proofs.Theorems.{frames_have_number_and_hops}
use Rattle.its_model.proofs.Counts.{frames_are_few}
use Rattle.its_model.proofs.OneEach.{one_frame_a_station}
use Rattle.its_model.proofs.laws.schedules.flooding_is_bounded.Goals as goal

pub returns : goal.returns
returns c = λ configs events. (
    let w = world_run (opening configs) events in
    let sound = run_sound configs events in
    record {
      few = frames_are_few configs w sound;
      one_a_station = one_frame_a_station configs w sound;
      number_and_hops =
          frames_have_number_and_hops configs w sound;
    })

use Rattle.std.proofs.Common.{arith}
use Rattle.its_model.specs.World.{opening, world_run}
use Rattle.its_model.proofs.SoundRuns.{run_sound}
use Rattle.its_model.proofs.Givers.{each_given, numbers_rise, origin_is}
use Rattle.its_model.proofs.laws.runs.one_line_a_frame.Goals as goal

pub returns-clause-given : goal.returns-clause-given
returns-clause-given c = λ configs events k lt. (
    let sound = run_sound configs events in
    each_given (world_run (opening configs) events).log k sound.names
    (omega (arith, sound.frames.even, lt)))

pub returns-clause-origins : goal.returns-clause-origins
returns-clause-origins c = λ configs events. (run_sound configs events).frames.even

pub returns-clause-rises : goal.returns-clause-rises
returns-clause-rises c =
    λ configs events later between older first second k m e.
    numbers_rise (world_run (opening configs) events).log later between older first second k m
    (run_sound configs events).names e

pub returns-clause-origin : goal.returns-clause-origin
returns-clause-origin c =
    λ configs events later before line k e.
    origin_is (world_run (opening configs) events).log later before line k
    (run_sound configs events).names e

use Rattle.std.proofs.Common.{refl}
use Rattle.its_model.specs.World.{opening}
use Rattle.its_model.proofs.Longer.{frame_stays, origins_stay, earlier_log}
use Rattle.its_model.proofs.laws.runs.what_was_done_stays.Goals as goal

pub returns-clause-frames : goal.returns-clause-frames
returns-clause-frames c = frame_stays

pub returns-clause-origins : goal.returns-clause-origins
returns-clause-origins c = origins_stay

pub returns-clause-log : goal.returns-clause-log
returns-clause-log c =
    λ configs events later before e. earlier_log (opening configs) events later before refl e

use Rattle.its_contention.proofs.Counting.{none_is_lost}
use Rattle.its_contention.proofs.laws.frames_are_counted.Goals as goal

pub returns : goal.returns
returns c = none_is_lost

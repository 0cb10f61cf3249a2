use Rattle.its_model.proofs.ContendedCopies.{cancelled_by_the_same_frame}
use Rattle.its_contention.proofs.laws.cancelled_by_the_same_frame.Goals as goal

pub returns : goal.returns
returns c = cancelled_by_the_same_frame

use Rattle.its_model.proofs.ContendedCopies.{somebody_sends}
use Rattle.its_contention.proofs.laws.somebody_sends.Goals as goal

pub returns : goal.returns
returns c = somebody_sends

use Rattle.its_model.proofs.ContendedLinks.{reaches_by_contention}
use Rattle.its_contention.proofs.laws.reaches_by_contention.Goals as goal

pub returns : goal.returns
returns c = reaches_by_contention

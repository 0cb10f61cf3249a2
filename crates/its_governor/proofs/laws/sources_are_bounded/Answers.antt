use Rattle.its_governor.proofs.SourceBounds.{sources_bounded}
use Rattle.its_governor.proofs.laws.sources_are_bounded.Goals as goal

pub returns : goal.returns
returns c = sources_bounded

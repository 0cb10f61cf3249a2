use Rattle.its_governor.proofs.Bounds.{bounded}
use Rattle.its_governor.proofs.laws.bucket_is_bounded.Goals as goal

pub returns : goal.returns
returns c = bounded

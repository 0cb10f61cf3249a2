use Rattle.its_model.proofs.Ways.{passed_on_reaches}
use Rattle.its_model.proofs.laws.reach.what_is_passed_on_reaches.Goals as goal

pub returns : goal.returns
returns c = passed_on_reaches

use Rattle.its_model.proofs.Origins.{origin_in_log}
use Rattle.its_model.proofs.laws.runs.an_origin_is_in_the_log.Goals as goal

pub returns : goal.returns
returns c = origin_in_log

use Rattle.std.proofs.Common.{◌∙◌}
use Rattle.sim_scenario.proofs.Contending.{any_is_true}
use Rattle.sim_scenario.proofs.contention.any_contends.Goals as goal

pub returns : goal.returns
returns c = c.contains.ensures.value ∙ any_is_true c.args.contend.now

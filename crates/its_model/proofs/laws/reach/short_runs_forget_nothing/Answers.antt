use Rattle.its_model.proofs.NoneForgets.{short_runs_forget_nothing}
use Rattle.its_model.proofs.laws.reach.short_runs_forget_nothing.Goals as goal

pub returns : goal.returns
returns c = short_runs_forget_nothing

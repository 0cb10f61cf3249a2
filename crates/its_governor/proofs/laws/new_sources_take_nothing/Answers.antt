use Rattle.its_governor.proofs.Pressure.{new_take_nothing}
use Rattle.its_governor.proofs.laws.new_sources_take_nothing.Goals as goal

pub returns : goal.returns
returns c = new_take_nothing

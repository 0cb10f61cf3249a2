use Rattle.its_unit.proofs.Lawful.{lawful}
use Rattle.its_unit.proofs.laws.units_are_lawful.Goals as goal

pub returns : goal.returns
returns c = lawful

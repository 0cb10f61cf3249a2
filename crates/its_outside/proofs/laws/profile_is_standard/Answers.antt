use Rattle.its_outside.proofs.Profile as law
use Rattle.its_outside.proofs.laws.profile_is_standard.Goals as goal

pub returns : goal.returns
returns c = law.profile_is_standard

use Rattle.its_model.proofs.Steps.{handing_owed, single_hop_owed}
use Rattle.its_model.proofs.laws.calls.a_handing_is_owed.Goals as goal

pub returns-clause-inside : goal.returns-clause-inside
returns-clause-inside c = handing_owed

pub returns-clause-single_hop : goal.returns-clause-single_hop
returns-clause-single_hop c = single_hop_owed

use Rattle.its_model.proofs.Nearest.{nearest_found, nearest_least, nearest_none}
use Rattle.its_model.proofs.laws.tables.the_nearest_is_taken.Goals as goal

pub returns-clause-found : goal.returns-clause-found
returns-clause-found c = nearest_found

pub returns-clause-least : goal.returns-clause-least
returns-clause-least c = nearest_least

pub returns-clause-none : goal.returns-clause-none
returns-clause-none c = nearest_none

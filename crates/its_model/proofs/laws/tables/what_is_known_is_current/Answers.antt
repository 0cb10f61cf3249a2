use Rattle.its_model.proofs.Renewal.{vector-known, neighbour-known, numbers-known}
use Rattle.its_model.proofs.laws.tables.what_is_known_is_current.Goals as goal

pub returns-clause-vector : goal.returns-clause-vector
returns-clause-vector c = vector-known

pub returns-clause-neighbour : goal.returns-clause-neighbour
returns-clause-neighbour c = neighbour-known

pub returns-clause-numbers : goal.returns-clause-numbers
returns-clause-numbers c = numbers-known

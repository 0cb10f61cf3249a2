use Rattle.its_model.proofs.Renewal.{own_session, other_session, session_stays}
use Rattle.its_model.proofs.laws.tables.a_session_grows.Goals as goal

pub returns-clause-own : goal.returns-clause-own
returns-clause-own c = own_session

pub returns-clause-others : goal.returns-clause-others
returns-clause-others c = other_session

pub returns-clause-stays : goal.returns-clause-stays
returns-clause-stays c = session_stays

use Rattle.its_model.proofs.Steps.{refused_stays, done_in_time}
use Rattle.its_model.proofs.laws.calls.a_refused_call_changes_nothing.Goals as goal

pub returns-clause-refused : goal.returns-clause-refused
returns-clause-refused c = refused_stays

pub returns-clause-done : goal.returns-clause-done
returns-clause-done c = done_in_time

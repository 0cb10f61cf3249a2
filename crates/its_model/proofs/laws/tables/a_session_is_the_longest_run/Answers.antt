use Rattle.its_model.specs.History.{of_source}
use Rattle.its_model.proofs.LongestRun.{unbroken-longest, session_longest, session_apart}
use Rattle.its_model.proofs.laws.tables.a_session_is_the_longest_run.Goals as goal

pub returns-clause-run : goal.returns-clause-run
returns-clause-run c = λ source moment history. unbroken-longest moment (of_source source history)

pub returns-clause-none_longer : goal.returns-clause-none_longer
returns-clause-none_longer c = session_longest

pub returns-clause-apart : goal.returns-clause-apart
returns-clause-apart c = session_apart

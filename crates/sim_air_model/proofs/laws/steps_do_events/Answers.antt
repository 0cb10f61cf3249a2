use Rattle.sim_air_model.proofs.Heard.{steps_do_events}
use Rattle.sim_air_model.proofs.laws.steps_do_events.Goals as goal

pub returns : goal.returns
returns c = steps_do_events

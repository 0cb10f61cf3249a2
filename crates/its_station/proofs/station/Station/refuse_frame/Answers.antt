use Rattle.its_model.specs.Calls.{Junk}
use Rattle.its_station.specs.Receiving.{Tells}
use Rattle.its_station.proofs.Hearing.{junk, moment_refused}
use Rattle.its_station.proofs.station.Station.refuse_frame.Goals as goal

pub returns-in-Ok-clause-step : goal.returns-in-Ok-clause-step
returns-in-Ok-clause-step g c =
    junk c.args.self.now c.args.now c.args.fault c.in-Ok.ensures.refusal

pub returns-in-Err-clause-step : goal.returns-in-Err-clause-step
returns-in-Err-clause-step g c =
    moment_refused Tells c.args.self.now c.args.now (Junk c.args.fault) c.in-Err.refused
    c.in-Err.ensures.refusal

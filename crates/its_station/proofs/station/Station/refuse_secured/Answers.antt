use Rattle.its_station.proofs.Hearing.{bad_secured, secured_moment}
use Rattle.its_station.proofs.station.Station.refuse_secured.Goals as goal

pub returns-in-Ok-clause-step : goal.returns-in-Ok-clause-step
returns-in-Ok-clause-step g c =
    bad_secured c.args.self.now c.args.now c.args.fault c.in-Ok.ensures.refusal

pub returns-in-Err-clause-step : goal.returns-in-Err-clause-step
returns-in-Err-clause-step g c =
    secured_moment c.args.self.now c.args.now c.args.fault c.in-Err.refused
    c.in-Err.ensures.refusal

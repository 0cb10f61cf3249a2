use Rattle.its_station.proofs.Runs.{call_answer}
use Rattle.its_station.proofs.station.Station.answer.Goals as goal

pub returns-in-Own-clause-step : goal.returns-in-Own-clause-step
returns-in-Own-clause-step g c =
    call_answer c.answer_own.result c.args.call.now c.in-Own.own c.args.self.now
    c.answer_own.new.self c.args.moment c.in-Own.is c.answer_own.ensures.step

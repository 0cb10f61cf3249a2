use Rattle.its_station.specs.Receiving.{TellsBy}
use Rattle.its_station.proofs.Hearing.{refused_exit}
use Rattle.its_station.proofs.station.Station.receive_frame.Goals as goal

pub returns-in_err-looked-clause-step : goal.returns-in_err-looked-clause-step
returns-in_err-looked-clause-step g c =
    refused_exit (TellsBy (g.F.ReceivedFrame.Encodes c.args.frame.now)) c.args.self.now c.args.now
    (g.F.ReceivedFrame.frame c.args.frame.now) _
    c.from_residual.result c.from_residual.ensures.1 c.in_err-looked.ensures.found

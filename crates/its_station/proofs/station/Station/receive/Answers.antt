use Rattle.std.proofs.Common.{◌≡◌, subst}
use Rattle.its_model.specs.Calls.{Receive, Junk}
use Rattle.its_model.specs.Packet.{Transmission}
use Rattle.its_model.specs.Station as station
use Rattle.its_model.specs.Station.{verdict}
use Rattle.its_linkframe.specs.Frames.{transmission_of}
use Rattle.its_station.specs.Receiving.{TakesMemory}
use Rattle.its_station.proofs.Deliveries.{delivered_end}
use Rattle.its_station.proofs.station.Station.receive.Goals as goal

pub returns-in-Ok-clause-step : goal.returns-in-Ok-clause-step
returns-in-Ok-clause-step g c = (
  Receive (transmission_of c.in-Ok.view),
  c.in-Ok.ensures.found,
  c.receive_frame.ensures.step,
)

pub returns-in-Ok-clause-memory : goal.returns-in-Ok-clause-memory
returns-in-Ok-clause-memory g c = λ s t rep enc e.
    subst (λ (u : Transmission).
    (verdict s c.args.now u ≡ station.Verdict.Accept) × TakesMemory s c.args.now u)
    (c.in-Ok.ensures.only t enc) (c.receive_frame.ensures.memory s rep e)

pub returns-in-Ok-clause-payload : goal.returns-in-Ok-clause-payload
returns-in-Ok-clause-payload g c =
    delivered_end
    (transmission_of c.in-Ok.view) c.args.frame.now c.in-Ok.ensures.found c.receive_frame.result
    c.receive_frame.ensures.payload

pub returns-in-Err-clause-step : goal.returns-in-Err-clause-step
returns-in-Err-clause-step g c = (
  Junk c.in-Err.fault,
  c.in-Err.ensures.fault,
  c.refuse_frame.ensures.step,
)

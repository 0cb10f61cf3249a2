use Rattle.its_model.specs.Calls.{Receive, Junk}
use Rattle.its_linkframe.specs.Frames.{frame_octets, transmission_of}
use Rattle.its_unit.proofs.Passing.{passed_end}
use Rattle.its_unit.proofs.unit.Unit.receive.Goals as goal

pub returns-in-Ok-clause-step : goal.returns-in-Ok-clause-step
returns-in-Ok-clause-step g c = (
  Receive (transmission_of c.in-Ok.view),
  c.in-Ok.ensures.found,
  c.receive_frame.ensures.step frame_octets (λ t w encodes. encodes.octets)
      c.in-Ok.ensures.found.octets,
)

pub returns-in-Ok-clause-payload : goal.returns-in-Ok-clause-payload
returns-in-Ok-clause-payload g c =
    passed_end (transmission_of c.in-Ok.view) c.args.frame.now c.in-Ok.ensures.found
    c.receive_frame.result c.receive_frame.ensures.payload

pub returns-in-Err-clause-step : goal.returns-in-Err-clause-step
returns-in-Err-clause-step g c = (
  Junk c.in-Err.fault,
  c.in-Err.ensures.fault,
  c.refuse_frame.ensures.step,
)

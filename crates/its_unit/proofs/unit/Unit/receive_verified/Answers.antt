use Rattle.its_station.specs.Receiving.VerifiedCall.{Came, Faulty}
use Rattle.its_unit.specs.Contending.{verified_octets}
use Rattle.its_unit.proofs.Passing.{verified_passed_end}
use Rattle.its_unit.proofs.unit.Unit.receive_verified.Goals as goal

pub returns-in-Ok-clause-step : goal.returns-in-Ok-clause-step
returns-in-Ok-clause-step g c = (
  Came c.in-Ok.verified,
  c.in-Ok.ensures.found,
  c.receive_frame.ensures.step (verified_octets (Came c.in-Ok.verified))
      (λ t w encodes. encodes.octets) c.in-Ok.ensures.found.secured.octets,
)

pub returns-in-Ok-clause-payload : goal.returns-in-Ok-clause-payload
returns-in-Ok-clause-payload g c =
    verified_passed_end c.in-Ok.verified c.args.frame.now c.args.plain.now c.in-Ok.ensures.found
    c.receive_frame.result c.receive_frame.ensures.payload

pub returns-in-Err-clause-step : goal.returns-in-Err-clause-step
returns-in-Err-clause-step g c = (
  Faulty c.in-Err.fault,
  c.in-Err.ensures.fault,
  c.refuse_secured.ensures.step,
)

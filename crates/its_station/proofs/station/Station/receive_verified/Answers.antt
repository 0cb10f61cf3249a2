use Rattle.std.proofs.Common.{◌≡◌, subst}
use Rattle.its_linkframe.specs.Secured.{Verified}
use Rattle.its_model.specs.Station as station
use Rattle.its_model.specs.Station.{verdict}
use Rattle.its_station.specs.Receiving.{TakesMemory}
use Rattle.its_station.specs.Receiving.VerifiedCall.{Came, Faulty}
use Rattle.its_station.proofs.Deliveries.{verified_end}
use Rattle.its_station.proofs.station.Station.receive_verified.Goals as goal

pub returns-in-Ok-clause-step : goal.returns-in-Ok-clause-step
returns-in-Ok-clause-step g c = (
  Came c.in-Ok.verified,
  c.in-Ok.ensures.found,
  c.receive_frame.ensures.step,
)

pub returns-in-Ok-clause-memory : goal.returns-in-Ok-clause-memory
returns-in-Ok-clause-memory g c = λ s v rep enc e.
    subst (λ (u : Verified).
    (verdict s c.args.now u.frame ≡ station.Verdict.Accept) × TakesMemory s c.args.now u.frame)
    (c.in-Ok.ensures.only v enc) (c.receive_frame.ensures.memory s rep e)

pub returns-in-Ok-clause-payload : goal.returns-in-Ok-clause-payload
returns-in-Ok-clause-payload g c =
    verified_end c.in-Ok.verified c.args.frame.now c.args.plain.now c.in-Ok.ensures.found
    c.receive_frame.result c.receive_frame.ensures.payload

pub returns-in-Err-clause-step : goal.returns-in-Err-clause-step
returns-in-Err-clause-step g c = (
  Faulty c.in-Err.fault,
  c.in-Err.ensures.fault,
  c.refuse_secured.ensures.step,
)

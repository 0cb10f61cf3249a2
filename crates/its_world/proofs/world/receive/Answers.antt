use Rattle.std.proofs.Common.{IfSome, subst}
use Rattle.its_model.specs.Calls.{Receive}
use Rattle.its_station.specs.Known.{AreContentsOf}
use Rattle.its_station.proofs.Deliveries.{delivered_end}
use Rattle.its_world.proofs.world.receive.Goals as goal

pub new-requires : goal.new-requires
new-requires c =
    subst (λ o. IfSome o (λ contents. AreContentsOf c.args.frame.now contents.now)) c.in-Some.is
    c.requires.contents

pub returns-in-Some-clause-step : goal.returns-in-Some-clause-step
returns-in-Some-clause-step c = (
  Receive c.new.result,
  c.new.ensures,
  c.receive_frame.ensures.step,
)

pub returns-in-Some-clause-payload : goal.returns-in-Some-clause-payload
returns-in-Some-clause-payload c =
    delivered_end c.new.result c.args.frame.now c.new.ensures c.receive_frame.result
    c.receive_frame.ensures.payload

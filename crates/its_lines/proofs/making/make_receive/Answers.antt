use Rattle.its_linkframe.specs.Frames.{EncodesFrame}
use Rattle.its_model.specs.Calls.{Call}
use Rattle.its_unit.specs.Unit.{UnitModel, step_by}
use Rattle.its_unit.specs.Unit.UnitCall.{Receive}
use Rattle.its_lines.proofs.Made.{received_made}
use Rattle.its_lines.proofs.making.make_receive.Goals as goal

pub returns-clause-step : goal.returns-clause-step
returns-clause-step c =
    received_made EncodesFrame c.made_of_received.result c.receive_plain-said.result.0
    c.args.frame.now c.args.unit.now c.receive_plain-said.new.unit
    (λ (call : Call) (u : UnitModel). step_by c.args.limiting u c.args.at (Receive call))
    c.receive_plain-said.ensures.step c.made_of_received.ensures.same

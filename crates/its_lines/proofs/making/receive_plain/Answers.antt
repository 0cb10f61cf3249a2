use Rattle.std.proofs.Common.{subst}
use Rattle.its_model.specs.Calls.{Receive, Junk}
use Rattle.its_linkframe.specs.Frames.{EncodesFrame, frame_octets, transmission_of}
use Rattle.its_station.specs.Receiving.{TellsBy}
use Rattle.its_unit.specs.Steps.{IsReactionOf}
use Rattle.its_unit.specs.Unit.{UnitStep}
use Rattle.its_unit.proofs.Passing.{frames_by, passed_end, refused_by}
use Rattle.its_lines.proofs.making.receive_plain.Goals as goal

pub returns-in-Ok-clause-step : goal.returns-in-Ok-clause-step
returns-in-Ok-clause-step c =
    let t = transmission_of c.in-Ok.view in (
      Receive t,
      c.in-Ok.ensures.found,
      λ u rep. subst (λ (s : UnitStep). IsReactionOf (TellsBy EncodesFrame)
          c.receive_frame-said.result c.receive_frame-said.new.self s)
          (frames_by c.args.limiting u c.args.at t)
          (c.receive_frame-said.ensures.step frame_octets (λ t w encodes. encodes.octets)
          c.in-Ok.ensures.found.octets u rep),
    )

pub returns-in-Ok-clause-payload : goal.returns-in-Ok-clause-payload
returns-in-Ok-clause-payload c =
    passed_end (transmission_of c.in-Ok.view) c.args.frame.now c.in-Ok.ensures.found
    c.receive_frame-said.result c.receive_frame-said.ensures.payload

pub returns-in-Err-clause-step : goal.returns-in-Err-clause-step
returns-in-Err-clause-step c = (
  Junk c.in-Err.fault,
  c.in-Err.ensures.fault,
  λ u rep. refused_by c.args.limiting c.refuse_frame.result c.refuse_frame.new.self u c.args.at _
      (c.refuse_frame.ensures.step u rep) (c.refuse_frame.ensures.unlimited u rep),
)

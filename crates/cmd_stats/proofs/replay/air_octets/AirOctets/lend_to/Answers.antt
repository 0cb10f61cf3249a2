use Rattle.std.proofs.Common.{◌∙◌, ap, subst, List, ℕ}
use Rattle.std.specs.Prelude.{Vec}
use Rattle.std.specs.declared.alloc.Global.{Global}
use Rattle.its_model.specs.Calls.{Receive, Junk}
use Rattle.its_linkframe.specs.FrameFaults.{IsFrameFault}
use Rattle.its_linkframe.specs.Frames.{EncodesFrame, frame_octets, transmission_of}
use Rattle.its_station.specs.Receiving.{TellsBy}
use Rattle.its_unit.specs.Steps.{IsReactionOf}
use Rattle.its_unit.specs.Unit.{UnitStep}
use Rattle.its_unit.proofs.Passing.{frames_by, passed_end, refused_by}
use Rattle.cmd_stats.proofs.replay.air_octets.AirOctets.lend_to.Goals as goal

pub returns-in-None-clause-step : goal.returns-in-None-clause-step
returns-in-None-clause-step c =
    let t = transmission_of c.of_frame.result in
    let encodes = subst (λ (w : List ℕ). EncodesFrame t w)
    (c.as_slice-octets.ensures.value ∙ ap (λ (v : Vec ℕ Global). v.items) c.self.view_is)
    c.of_frame.ensures in (
      Receive t,
      encodes,
      λ u rep. subst (λ (s : UnitStep). IsReactionOf (TellsBy EncodesFrame)
          c.receive_frame.result c.receive_frame.new.self s)
          (frames_by c.args.limiting u c.args.moment t)
          (c.receive_frame.ensures.step frame_octets (λ t w encodes. encodes.octets)
          c.of_frame.ensures.octets u rep),
    )

pub returns-in-None-clause-payload : goal.returns-in-None-clause-payload
returns-in-None-clause-payload c =
    passed_end (transmission_of c.of_frame.result) c.args.self.now.items
    (subst (λ (w : List ℕ). EncodesFrame (transmission_of c.of_frame.result) w)
    (c.as_slice-octets.ensures.value ∙ ap (λ (v : Vec ℕ Global). v.items) c.self.view_is)
    c.of_frame.ensures) c.receive_frame.result c.receive_frame.ensures.payload

pub returns-in-Some-clause-step : goal.returns-in-Some-clause-step
returns-in-Some-clause-step c = (
  Junk c.in-Some.fault,
  subst (λ (w : List ℕ). IsFrameFault w c.in-Some.fault)
      (ap (λ (v : Vec ℕ Global). v.items) c.self.view_is) (rw c.in-Some.is at c.self.invariant),
  λ u rep. refused_by c.args.limiting c.refuse_frame.result c.refuse_frame.new.self u
      c.args.moment _ (c.refuse_frame.ensures.step u rep)
      (c.refuse_frame.ensures.unlimited u rep),
)

use Rattle.std.proofs.Common.{subst}
use Rattle.its_station.specs.Receiving.{TellsBy, sealed_by}
use Rattle.its_station.specs.Receiving.VerifiedCall.{Came, Faulty}
use Rattle.its_unit.specs.Contending.{verified_octets}
use Rattle.its_unit.specs.Steps.{IsReactionOf}
use Rattle.its_unit.specs.Unit.{UnitStep}
use Rattle.its_unit.proofs.Passing.{refused_by, verified_by, verified_passed_end}
use Rattle.cmd_stats.proofs.replay.secured.receive_verified.Goals as goal

pub returns-in-Ok-clause-step : goal.returns-in-Ok-clause-step
returns-in-Ok-clause-step c =
    let v = c.in-Ok.verified in (
      Came v,
      c.in-Ok.ensures.found,
      λ u rep. subst (λ (s : UnitStep). IsReactionOf (TellsBy (sealed_by (Came v)))
          c.receive_frame.result c.receive_frame.new.self s)
          (verified_by c.args.limiting u c.args.moment v)
          (c.receive_frame.ensures.step (verified_octets (Came v))
          (λ t w encodes. encodes.octets) c.in-Ok.ensures.found.secured.octets u rep),
    )

pub returns-in-Ok-clause-payload : goal.returns-in-Ok-clause-payload
returns-in-Ok-clause-payload c =
    verified_passed_end c.in-Ok.verified c.args.frame.now c.args.plain.now c.in-Ok.ensures.found
    c.receive_frame.result c.receive_frame.ensures.payload

pub returns-in-Err-clause-step : goal.returns-in-Err-clause-step
returns-in-Err-clause-step c = (
  Faulty c.in-Err.fault,
  c.in-Err.ensures.fault,
  λ u rep. refused_by c.args.limiting c.refuse_secured.result c.refuse_secured.new.self u c.args.moment _
      (c.refuse_secured.ensures.step u rep) (c.refuse_secured.ensures.unlimited u rep),
)

use Rattle.std.proofs.Common.{ap, subst, ◌∙◌}
use Rattle.its_model.specs.Station.{Step}
use Rattle.its_station.specs.Steps.{IsStepOf}
use Rattle.its_station.specs.Requests.{TellsSent, shb_request}
use Rattle.its_station.specs.Beside.{send_shb_for_step}
use Rattle.its_station.proofs.Beside.{usual_shb}
use Rattle.its_station.proofs.station.Station.send_shb.Goals as goal

pub returns-clause-step : goal.returns-clause-step
returns-clause-step g c = λ s rep.
    let r = shb_request c.args.r.now in
    subst (λ (x : Step). IsStepOf TellsSent c.send_shb_for.result c.send_shb_for.new.self x)
    (ap (λ options. send_shb_for_step s c.args.now options r) c.default.ensures
    ∙ usual_shb s c.args.now r)
    (c.send_shb_for.ensures.step s rep)

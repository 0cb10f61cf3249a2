use Rattle.std.proofs.Common.{subst}
use Rattle.its_model.specs.Calls.{ShbRequest}
use Rattle.its_station.specs.Requests.{owned_shb, shb_request}
use Rattle.its_station.specs.declared.requests.ShbOptions.{ShbOptions}
use Rattle.its_unit.specs.Steps.{IsSendOf}
use Rattle.its_unit.specs.Unit.{SendShbFor, step_by}
use Rattle.its_lines.specs.Within.{options_of}
use Rattle.its_lines.proofs.making.make_shb.Goals as goal

pub returns-clause-step : goal.returns-clause-step
returns-clause-step c = λ u rep.
    let sent = c.send_shb_by.result in
    let after = c.send_shb_by.new.self in
    let media = c.args.shb.now.media in
    c.made_of_send.ensures.step after
    (step_by c.args.limiting u c.args.at
    (SendShbFor (options_of media) (owned_shb c.args.shb.now.request)))
    (subst (λ (r : ShbRequest). IsSendOf sent after
    (step_by c.args.limiting u c.args.at (SendShbFor (options_of media) r))) c.lend.ensures
    (subst (λ (o : ShbOptions). IsSendOf sent after (step_by c.args.limiting u c.args.at
    (SendShbFor (record o { media = media }) (shb_request c.lend.result)))) c.default.ensures
    (c.send_shb_by.ensures.step u rep)))

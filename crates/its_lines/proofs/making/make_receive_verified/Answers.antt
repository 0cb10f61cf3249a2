use Rattle.std.proofs.Common.{List, ℕ, subst}
use Rattle.its_station.specs.Receiving.{IsVerifiedCall, VerifiedCall}
use Rattle.its_unit.specs.Unit.{UnitModel, step_by}
use Rattle.its_unit.specs.Unit.UnitCall.{ReceiveVerified}
use Rattle.its_lines.proofs.Made.{verified_made}
use Rattle.its_lines.proofs.making.make_receive_verified.Goals as goal

pub returns-clause-step : goal.returns-clause-step
returns-clause-step c =
    let said = c.receive_verified-said.ensures.step in
    let call = said.0 in
    let is = subst (λ (w : List ℕ). IsVerifiedCall w c.args.octets.now.plain.items call)
    c.as_slice-frame.ensures.value
    (subst (λ (w : List ℕ). IsVerifiedCall c.as_slice-frame.result.now w call)
    c.as_slice-plain.ensures.value said.1) in
    verified_made c.made_of_received.result c.receive_verified-said.result.0
    c.args.octets.now.frame.items c.args.octets.now.plain.items
    c.args.unit.now c.receive_verified-said.new.unit
    (λ (v : VerifiedCall) (u : UnitModel). step_by c.args.limiting u c.args.at (ReceiveVerified v))
    (call, is, said.2)
    c.made_of_received.ensures.same

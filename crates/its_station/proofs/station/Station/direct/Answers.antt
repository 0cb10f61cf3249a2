use Rattle.std.proofs.Common.{refl, subst, sym, ◌∙◌}
use Rattle.std.specs.Prelude.{Option, Vec, ℕ}
use Rattle.std.specs.declared.alloc.Global.{Global}
use Rattle.its_station.specs.Receiving.{IsRelayBy, copy_of}
use Rattle.its_station.proofs.Hearing.{frame_of_relay}
use Rattle.its_station.proofs.Inside.{relayed_inside}
use Rattle.its_station.proofs.station.Station.direct.Goals as goal

pub redirect-requires : goal.redirect-requires
redirect-requires g c = λ κs.
    let t = g.F.ReceivedFrame.frame c.args.frame.now in
    let copy = subst
    (λ (o : Option (Vec ℕ Global)).
    IsRelayBy (g.F.ReceivedFrame.Encodes c.args.frame.now) o (copy_of c.args.self.now.vector t t.pdu.body)) c.in-Some.is c.requires.copy
    in
    ((refl, tt), frame_of_relay (g.F.ReceivedFrame.Encodes c.args.frame.now) c.in-Some.octets (copy_of c.args.self.now.vector t t.pdu.body) copy)

pub returns-then-inside-clause-relay : goal.returns-then-inside-clause-relay
returns-then-inside-clause-relay g c = λ ports history rep.
    let t = g.F.ReceivedFrame.frame c.args.frame.now in
    let encodes = g.F.ReceivedFrame.Encodes c.args.frame.now in
    let copy = subst
    (λ (o : Option (Vec ℕ Global)). IsRelayBy encodes o (copy_of c.args.self.now.vector t t.pdu.body))
    c.in-Some.is c.requires.copy in
    relayed_inside encodes c.args.self.now ports history c.args.now t t.pdu.body c.in-Some.octets
    (sym c.requires.inside ∙ c.if-inside.true) copy

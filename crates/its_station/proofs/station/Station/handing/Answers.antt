use Rattle.std.proofs.Common.{ap, sym, ◌∙◌, ◌++◌, take, drop, List, ℕ}
use Rattle.std.proofs.lemmas.List.{take-append-drop}
use Rattle.its_headers.specs.Encoding.{payload_of}
use Rattle.its_station.proofs.station.Station.handing.Goals as goal

pub returns-then-is_open-clause-payload : goal.returns-then-is_open-clause-payload
returns-then-is_open-clause-payload g c =
    let w = payload_of (g.F.ReceivedFrame.frame c.args.frame.now).pdu.body in
    let rest = ap (drop 4) (sym c.payload.ensures.octets) ∙ sym c.in-Ok.ensures.payload in
    (take 4 w, sym (take-append-drop 4 w) ∙ ap (λ (end : List ℕ). take 4 w ++ end) rest)

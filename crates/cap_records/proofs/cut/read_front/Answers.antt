use Rattle.its_linkframe.specs.Frames.{transmission_of}
use Rattle.cap_records.proofs.Placed.{placed_all}
use Rattle.cap_records.proofs.cut.read_front.Goals as goal

pub returns : goal.returns
returns c =
    let t = transmission_of c.in-Ok.frame in
    (t, placed_all c.args.octets.now t c.in-Ok.ensures.found)

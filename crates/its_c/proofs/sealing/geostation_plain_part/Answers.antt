use Rattle.its_linkframe.specs.Frames.{transmission_of}
use Rattle.its_c.proofs.Sealed.{plain_shown}
use Rattle.its_c.proofs.sealing.geostation_plain_part.Goals as goal

pub returns-clause-plain : goal.returns-clause-plain
returns-clause-plain c = λ _.
    plain_shown (transmission_of c.in-Ok.view) c.args.frame.now c.plain_part-plain.result.now
    c.in-Ok.ensures.found c.plain_part-plain.ensures

use Rattle.serde_json.specs.View.{view}
use Rattle.its_lines.proofs.Secured.{plain_bad}
use Rattle.its_lines.proofs.reading.read_verified.Goals as goal

pub returns-in-Err-clause-fault : goal.returns-in-Err-clause-fault
returns-in-Err-clause-fault c =
    plain_bad (view c.args.members.now.0.now) c.in-Err.fault c.in_ok-frame.frame.items c.requires
    c.in_ok-frame.ensures.frame c.in-Err.ensures.fault

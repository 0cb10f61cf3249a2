use Rattle.std.proofs.Common.{rules}
use Rattle.serde_json.specs.View.{view}
use Rattle.its_station.specs.Requests.{owned_shb}
use Rattle.its_lines.proofs.Media.{media_bad}
use Rattle.its_lines.proofs.reading.read_shb.Goals as goal

pub returns-in-Err-clause-fault : goal.returns-in-Err-clause-fault
returns-in-Err-clause-fault c =
    media_bad (view c.args.members.now.0.now) c.in-Err.fault (owned_shb c.in_ok-request.request)
    c.requires c.in_ok-request.ensures.says c.in-Err.ensures.fault

use Rattle.std.proofs.Common.{rules}
use Rattle.serde_json.specs.View.{view}
use Rattle.its_lines.specs.Requests.{line_of}
use Rattle.its_lines.proofs.Read.{asks_members}
use Rattle.its_lines.proofs.Secured.{secured_members}
use Rattle.its_lines.proofs.reading.read_request.Goals as goal

pub returns-in-Some-clause-asks : goal.returns-in-Some-clause-asks
returns-in-Some-clause-asks c =
    asks_members c.read_members.result c.args.now (line_of c.args.octets.now c.args.longer)
    (view c.in-Some.object) c.read_members.ensures.asks (search rules) (search rules)
    (search rules)

pub returns-in-Some-clause-secured : goal.returns-in-Some-clause-secured
returns-in-Some-clause-secured c =
    secured_members c.read_members.result (line_of c.args.octets.now c.args.longer)
    (view c.in-Some.object) c.read_members.ensures.secured (search rules) (search rules)
    (search rules)

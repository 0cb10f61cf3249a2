use Rattle.std.proofs.lemmas.List.{take_rest}
use Rattle.its_duties.proofs.octets.rest_from.Goals as goal

pub returns : goal.returns
returns c = take_rest c.args.octets.now c.args.at

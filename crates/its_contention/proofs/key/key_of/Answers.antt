use Rattle.std.proofs.Common.{rules}
use Rattle.its_contention.specs.Key.{key_of}
use Rattle.its_contention.proofs.key.key_of.Goals as goal

pub returns-then-octets : goal.returns-then-octets
unfolding key_of
returns-then-octets c = search rules

pub returns : goal.returns
unfolding key_of
returns c = search rules

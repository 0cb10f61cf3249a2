use Rattle.its_headers.proofs.Writing.{relay_written}
use Rattle.its_headers.proofs.relaying.relay_into.Goals as goal

pub returns-clause-written : goal.returns-clause-written
returns-clause-written c =
    relay_written _ _ _ _ _ c.octets-octets.ensures c.write_octets.ensures.puts c.requires

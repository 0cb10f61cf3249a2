use Rattle.std.proofs.Common.{rules, arith, drop}
use Rattle.cap_pcap.proofs.Given.{given-parts}
use Rattle.cap_pcap.proofs.peeked.Peeked.take_peeked.Goals as goal

pub returns-clause-octets : goal.returns-clause-octets
returns-clause-octets g c =
    given-parts c.min-n.result c.args.self.now.at c.copy_from_slice.new.self c.args.self.now.first
    (drop c.min-n.result c.args.buf.now) (search (rules, arith)) (search (rules, arith))

use Rattle.std.proofs.Common.{[], rules}
use Rattle.std.proofs.KnownBytes.{Consumes-nil}
use Rattle.cap_pcap.proofs.transfer.skip.Goals as goal

pub returns-then-count-eq0-clause-octets : goal.returns-then-count-eq0-clause-octets
returns-then-count-eq0-clause-octets g c =
    record {
      gone = [];
      size = search rules;
      consumes = Consumes-nil (g.S.Read.remaining c.args.source.now);
    }

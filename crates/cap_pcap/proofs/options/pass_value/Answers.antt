use Rattle.std.proofs.Common.{Ok}
use Rattle.std.proofs.lemmas.Result.{err_from_is_err_and}
use Rattle.cap_pcap.proofs.Layouts.{behind-answer, first-fault}
use Rattle.cap_pcap.proofs.Layouts.{gives-value}
use Rattle.cap_pcap.proofs.Layouts.{part-cut, octets-read}
use Rattle.cap_pcap.specs.Interfaces.{passed}
use Rattle.cap_pcap.specs.Layouts.{octets}
use Rattle.cap_pcap.proofs.options.pass_value.Goals as goal

pub returns-in_err-skip-clause-answer : goal.returns-in_err-skip-clause-answer
unfolding passed
returns-in_err-skip-clause-answer g c =
    let p = err_from_is_err_and c.from_residual.result c.from_residual.ensures.1 in
    rw (p.1, p.2)
    (first-fault _ _ _ _ _ (part-cut (octets c.args.room) c.args.room _ _ _ (λ w few. few) c.in_err-skip.ensures.fault))

pub returns-clause-answer : goal.returns-clause-answer
unfolding passed
returns-clause-answer g c =
    (behind-answer _ _ tt (Ok _) _ _ _ (octets-read c.args.room _ _ c.in_ok-skip.ensures.octets)
    (gives-value c.args.interface _))

use Rattle.std.proofs.Common.{refl, sym, Ok}
use Rattle.std.proofs.lemmas.Result.{err_from_is_err_and}
use Rattle.cap_pcap.proofs.Layouts.{behind-answer, first-fault}
use Rattle.std.proofs.Common.{arith}
use Rattle.cap_pcap.proofs.Layouts.{reads, part-cut}
use Rattle.cap_pcap.proofs.OptionChains.{has-offset}
use Rattle.cap_pcap.specs.Interfaces.{offset}
use Rattle.cap_pcap.specs.Layouts.{number}
use Rattle.cap_pcap.proofs.options.read_offset.Goals as goal

pub returns-in_err-read_exact-clause-answer : goal.returns-in_err-read_exact-clause-answer
unfolding offset
returns-in_err-read_exact-clause-answer g c =
    let p = err_from_is_err_and c.from_residual.result c.from_residual.ensures.1 in
    rw (p.1, p.2)
    (first-fault _ _ _ _ _ (part-cut (number c.args.order 8) 8 _ _ _ (λ w few. few) c.in_err-read_exact.ensures.fault))

pub returns-clause-answer : goal.returns-clause-answer
unfolding offset
returns-clause-answer g c =
    (behind-answer _ _ c.u64_at.result (Ok _) _ _ _ (reads ((number c.args.order 8).Is c.u64_at.result) _ _ c.read_exact.new.buf (omega arith, (sym c.u64_at.ensures, tt)) c.in_ok-read_exact.ensures.octets)
    (has-offset c.args.interface _ _ _ c.with_offset.ensures refl refl refl))

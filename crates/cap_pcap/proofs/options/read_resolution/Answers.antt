use Rattle.std.proofs.Common.{◌≡◌, refl, sym, Ok}
use Rattle.std.proofs.lemmas.Result.{err_from_is_err_and}
use Rattle.cap_pcap.proofs.Layouts.{behind-fault, behind-answer, first-fault}
use Rattle.std.proofs.Common.{arith, get_or}
use Rattle.cap_pcap.proofs.Layouts.{reads, part-cut, octets-read}
use Rattle.cap_pcap.proofs.OptionChains.{has-resolution}
use Rattle.cap_pcap.specs.Interfaces.{resolution}
use Rattle.cap_pcap.specs.Layouts.{number_that, octets}
use Rattle.cap_pcap.specs.Moments.{IsTooFine}
use Rattle.cap_pcap.specs.Octets.{number_in}
use Rattle.cap_pcap.specs.declared.octets.Endianness.TheVariants.{Big}
use Rattle.std.proofs.Common.{subst}
use Rattle.cap_pcap.specs.declared.fault.SourceFault.TheVariants as faults
use Rattle.cap_pcap.proofs.options.read_resolution.Goals as goal

pub returns-in_err-read_exact-clause-answer : goal.returns-in_err-read_exact-clause-answer
unfolding resolution
returns-in_err-read_exact-clause-answer g c =
    let p = err_from_is_err_and c.from_residual.result c.from_residual.ensures.1 in
    rw (p.1, p.2)
    (first-fault _ _ _ _ _ (part-cut (number_that Big 1 (λ r. ¬ IsTooFine r)) 1 _ _ _ (λ w few. few) c.in_err-read_exact.ensures.fault))

pub returns-in_err-skip-clause-answer : goal.returns-in_err-skip-clause-answer
unfolding resolution
returns-in_err-skip-clause-answer g c =
    let p = err_from_is_err_and c.from_residual-in_err-skip.result c.from_residual-in_err-skip.ensures.1 in
    rw (p.1, p.2)
    (behind-fault _ _ (get_or c.read_exact.new.buf 0 0) _ _ _ _ (reads ((number_that Big 1 (λ r. ¬ IsTooFine r)).Is (get_or c.read_exact.new.buf 0 0)) _ _ c.read_exact.new.buf (omega arith, (omega arith, c.in_ok-ticks.ensures.ticks.1)) c.in_ok-read_exact.ensures.octets)
    (first-fault _ _ _ _ _ (part-cut (octets 3) 3 _ _ _ (λ w few. few) c.in_err-skip.ensures.fault)))

pub returns-clause-answer : goal.returns-clause-answer
unfolding resolution
returns-clause-answer g c =
    (behind-answer _ _ (get_or c.read_exact.new.buf 0 0) (Ok _) _ _ _ (reads ((number_that Big 1 (λ r. ¬ IsTooFine r)).Is (get_or c.read_exact.new.buf 0 0)) _ _ c.read_exact.new.buf (omega arith, (omega arith, c.in_ok-ticks.ensures.ticks.1)) c.in_ok-read_exact.ensures.octets)
    (behind-answer _ _ tt (Ok _) _ _ _ (octets-read 3 _ _ c.in_ok-skip.ensures.octets)
    (has-resolution c.args.interface _ _ _ c.in_ok-ticks.ensures.ticks.0 c.with_resolution.ensures refl refl)))

pub returns-in_err-ticks-clause-answer : goal.returns-in_err-ticks-clause-answer
unfolding resolution
returns-in_err-ticks-clause-answer g c =
    let p = err_from_is_err_and c.from_residual-in_err-ticks.result
    c.from_residual-in_err-ticks.ensures.1 in
    let h = c.in_err-ticks.ensures.ticks in
    let same : number_in Big 1 c.read_exact.new.buf ≡ get_or c.read_exact.new.buf 0 0 =
    omega arith in
    rw (p.1, p.2, h.0)
    (first-fault _ _ faults.Malformed _ _
    (reads ((number_that Big 1 (λ r. ¬ IsTooFine r)).Wrong) _ _ c.read_exact.new.buf
    (omega arith, λ fine. fine (subst IsTooFine (sym same) h.1)) c.in_ok-read_exact.ensures.octets))

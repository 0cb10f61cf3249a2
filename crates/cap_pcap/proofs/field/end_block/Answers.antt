use Rattle.std.proofs.Common.{sym, ◌∙◌, Ok}
use Rattle.std.proofs.lemmas.Result.{err_from_is_err_and}
use Rattle.cap_pcap.proofs.Layouts.{part-cut, octets-read, part-as, reads-as, behind-fault, behind-answer, first-fault}
use Rattle.cap_pcap.specs.Blocks.{closing, last_length}
use Rattle.cap_pcap.specs.Layouts.{octets, number}
use Rattle.cap_pcap.specs.declared.fault.SourceFault.TheVariants as faults
use Rattle.cap_pcap.proofs.field.end_block.Goals as goal

pub returns-in_err-skip-clause-answer : goal.returns-in_err-skip-clause-answer
unfolding closing
returns-in_err-skip-clause-answer g c =
    let p = err_from_is_err_and c.from_residual.result c.from_residual.ensures.1 in
    rw (p.1, p.2)
    (first-fault _ _ _ _ _
    (part-cut (octets c.args.rest) c.args.rest _ _ _ (λ w few. few)
    c.in_err-skip.ensures.fault))

pub returns-in_err-last-clause-answer : goal.returns-in_err-last-clause-answer
unfolding closing
returns-in_err-last-clause-answer g c =
    let p = err_from_is_err_and c.from_residual-in_err-last.result
    c.from_residual-in_err-last.ensures.1 in
    rw (p.1, p.2)
    (behind-fault _ _ tt _ _ _ _ (octets-read c.args.rest _ _ c.in_ok-skip.ensures.octets)
    (part-as (number c.args.order 4) (last_length c.args.order c.args.length) _ _ _
    (λ w few. few) (λ w is. absurd (is.1 tt)) (λ w is. is) c.in_err-last.ensures.answer))

pub returns-then-last-length-clause-answer : goal.returns-then-last-length-clause-answer
unfolding closing
returns-then-last-length-clause-answer g c =
    behind-fault _ _ tt faults.Malformed _ _ _ (octets-read c.args.rest _ _ c.in_ok-skip.ensures.octets)
    (reads-as ((number c.args.order 4).Is c.in_ok-last.last)
    ((last_length c.args.order c.args.length).Wrong) _ _
    (λ w is. (is.0, λ e. c.if-last-length.true (sym is.1.0 ∙ e)))
    c.in_ok-last.ensures.answer)

pub returns-clause-answer : goal.returns-clause-answer
unfolding closing
returns-clause-answer g c =
    behind-answer _ _ tt (Ok _) _ _ _ (octets-read c.args.rest _ _ c.in_ok-skip.ensures.octets)
    (reads-as ((number c.args.order 4).Is c.in_ok-last.last) _ _ _
    (λ w is. (is.0, is.1.0 ∙ c.if-last-length.false)) c.in_ok-last.ensures.answer)

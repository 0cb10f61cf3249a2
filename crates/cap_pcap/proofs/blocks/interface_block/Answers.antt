use Rattle.std.proofs.Common.{Ok}
use Rattle.std.proofs.lemmas.Result.{err_from_is_err_and}
use Rattle.cap_pcap.proofs.Layouts.{behind-fault, behind-answer, first-fault}
use Rattle.cap_pcap.proofs.Layouts.{gives-value}
use Rattle.cap_pcap.specs.Blocks.{interface}
use Rattle.cap_pcap.specs.declared.blocks.Block.{Block}
use Rattle.cap_pcap.specs.declared.blocks.Block.TheVariants as blocks
use Rattle.cap_pcap.proofs.blocks.interface_block.Goals as goal

pub returns-in_err-length-clause-answer : goal.returns-in_err-length-clause-answer
unfolding interface
returns-in_err-length-clause-answer g c =
    let p = err_from_is_err_and c.from_residual.result c.from_residual.ensures.1 in
    rw (p.1, p.2)
    (first-fault _ _ _ _ _ c.in_err-length.ensures.answer)

pub returns-in_err-plain-clause-answer : goal.returns-in_err-plain-clause-answer
unfolding interface
returns-in_err-plain-clause-answer g c =
    let p = err_from_is_err_and c.from_residual-in_err-plain.result c.from_residual-in_err-plain.ensures.1 in
    rw (p.1, p.2)
    (behind-fault _ _ c.in_ok-length.length _ _ _ _ c.in_ok-length.ensures.answer
    (first-fault _ _ _ _ _ c.in_err-plain.ensures.answer))

pub returns-in_err-left-clause-answer : goal.returns-in_err-left-clause-answer
unfolding interface
returns-in_err-left-clause-answer g c =
    let p = err_from_is_err_and c.from_residual-in_err-left.result c.from_residual-in_err-left.ensures.1 in
    rw (p.1, p.2)
    (behind-fault _ _ c.in_ok-length.length _ _ _ _ c.in_ok-length.ensures.answer
    (behind-fault _ _ c.in_ok-plain.plain _ _ _ _ c.in_ok-plain.ensures.answer
    (first-fault _ _ _ _ _ c.in_err-left.ensures.answer)))

pub returns-in_err-end_block-clause-answer : goal.returns-in_err-end_block-clause-answer
unfolding interface
returns-in_err-end_block-clause-answer g c =
    let p = err_from_is_err_and c.from_residual-in_err-end_block.result c.from_residual-in_err-end_block.ensures.1 in
    rw (p.1, p.2)
    (behind-fault _ _ c.in_ok-length.length _ _ _ _ c.in_ok-length.ensures.answer
    (behind-fault _ _ c.in_ok-plain.plain _ _ _ _ c.in_ok-plain.ensures.answer
    (behind-fault _ _ (c.in_ok-left.left, c.in_ok-left.interface) _ _ _ _ c.in_ok-left.ensures.answer
    (first-fault _ _ _ _ _ c.in_err-end_block.ensures.answer))))

pub returns-clause-answer : goal.returns-clause-answer
unfolding interface
returns-clause-answer g c =
    (behind-answer _ _ c.in_ok-length.length (Ok _) _ _ _ c.in_ok-length.ensures.answer
    (behind-answer _ _ c.in_ok-plain.plain (Ok _) _ _ _ c.in_ok-plain.ensures.answer
    (behind-answer _ _ (c.in_ok-left.left, c.in_ok-left.interface) (Ok _) _ _ _ c.in_ok-left.ensures.answer
    (behind-answer _ _ tt (Ok _) _ _ _ c.in_ok-end_block.ensures.answer
    (gives-value {A = Block} (blocks.Interface c.in_ok-left.interface) _)))))

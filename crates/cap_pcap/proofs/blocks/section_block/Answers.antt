use Rattle.std.proofs.Common.{Ok}
use Rattle.std.proofs.lemmas.Result.{err_from_is_err_and}
use Rattle.cap_pcap.proofs.Layouts.{behind-fault, behind-answer, first-fault}
use Rattle.cap_pcap.proofs.Layouts.{gives-value}
use Rattle.cap_pcap.specs.Blocks.{section}
use Rattle.cap_pcap.specs.declared.blocks.Block.{Block}
use Rattle.cap_pcap.specs.declared.blocks.Block.TheVariants as blocks
use Rattle.cap_pcap.proofs.blocks.section_block.Goals as goal

pub returns-in_err-order-clause-answer : goal.returns-in_err-order-clause-answer
unfolding section
returns-in_err-order-clause-answer g c =
    let p = err_from_is_err_and c.from_residual.result c.from_residual.ensures.1 in
    rw (p.1, p.2)
    (first-fault _ _ _ _ _ c.in_err-order.ensures.answer)

pub returns-in_err-read_version-clause-answer : goal.returns-in_err-read_version-clause-answer
unfolding section
returns-in_err-read_version-clause-answer g c =
    let p = err_from_is_err_and c.from_residual-in_err-read_version.result c.from_residual-in_err-read_version.ensures.1 in
    rw (p.1, p.2)
    (behind-fault _ _ (c.in_ok-order.order, c.in_ok-order.length) _ _ _ _ c.in_ok-order.ensures.answer
    (first-fault _ _ _ _ _ c.in_err-read_version.ensures.answer))

pub returns-in_err-end_block-clause-answer : goal.returns-in_err-end_block-clause-answer
unfolding section
returns-in_err-end_block-clause-answer g c =
    let p = err_from_is_err_and c.from_residual-in_err-end_block.result c.from_residual-in_err-end_block.ensures.1 in
    rw (p.1, p.2)
    (behind-fault _ _ (c.in_ok-order.order, c.in_ok-order.length) _ _ _ _ c.in_ok-order.ensures.answer
    (behind-fault _ _ c.in_ok-read_version.field-0 _ _ _ _ c.in_ok-read_version.ensures.answer
    (first-fault _ _ _ _ _ c.in_err-end_block.ensures.answer)))

pub returns-clause-answer : goal.returns-clause-answer
unfolding section
returns-clause-answer g c =
    (behind-answer _ _ (c.in_ok-order.order, c.in_ok-order.length) (Ok _) _ _ _ c.in_ok-order.ensures.answer
    (behind-answer _ _ c.in_ok-read_version.field-0 (Ok _) _ _ _ c.in_ok-read_version.ensures.answer
    (behind-answer _ _ tt (Ok _) _ _ _ c.in_ok-end_block.ensures.answer
    (gives-value {A = Block} (blocks.Section c.in_ok-order.order) _))))
